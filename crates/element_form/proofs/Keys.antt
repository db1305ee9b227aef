-- Of one place and values there is one ground element.
use Rattle.std.proofs.Common.{◌≡◌, ℕ, ℤ, negsuc, pos, Bool, true, false, not, List, [], ◌∷◌, ◌++◌, map, filter, Contains, refl, sym, subst, ap, ap₂, ◌∙◌, ⊎_elim, Option, Some, None, arith}
use Rattle.std.specs.Prelude.{flat_map, slice_index_or}
use Rattle.std.specs.Str.{bytes_eq}
use Rattle.std.proofs.lemmas.List.{get_or_default}
use Rattle.ap_term.specs.Arithmetic.{compute}
use Rattle.ap_term.specs.Value.{Value, integer, compound, Values, also, arguments_from}
use Rattle.element_form.specs.Elements.{IsTarget, IsRanked, AreRanked, IsRankedIfThere, IsGroundOf, IsAtPlace, IsElementOf, IsGrounded}
use Rattle.element_form.specs.Formulas.{atom_formula, neg_formula, and_formula, or_formula, IsFormulaTerm}
use Rattle.element_form.specs.Ground.{Target, For, Ranked, Ground, Statement, key}
use Rattle.element_form.specs.Preferences.{Formula, Holds, Neg, And, Or, Wanted, Satisfy, Follow, Rank, Element, Preference, formula_variables, wanted_variables, rank_variables, given_variables, firsts}
use Rattle.element_form.specs.Safety.{HasNames, HaveNames}
use Rattle.element_form.specs.Shapes.{HasNoInterval, HaveNoInterval, OfAtoms, OfWanted, OfRank, OfRanks, OfGiven, OfElement}
use Rattle.element_form.proofs.Distinct.{arguments_of, first_of, rest_of, number_of}
use Rattle.rule_form.specs.Globals.{variables, variables_of, literal_variables}
use Rattle.rule_form.specs.Trees.{Term, Variable, Anything, Fixed, Compound, Operation, Interval, Terms, nothing, more}
use Rattle.rule_form.specs.Values.{Substitution, IsValue, AreValues, atom_value}
use Rattle.rule_form.proofs.Lists.{to_left, to_right, to_filter}
use Rattle.rule_form.proofs.Unfolds.{here, there, first_or_rest, nothing_in, bytes_from}

-- ---- terms with one value

abbrev SameOn : List (List ℕ) → Substitution → Substitution → Type 0
SameOn names s u = (n : List ℕ) → Contains names n → s n ≡ u n

on_left : (xs ys : List (List ℕ)) (s u : Substitution) → SameOn (xs ++ ys) s u → SameOn xs s u
on_left xs ys s u h n c = h n (to_left xs ys n c)

on_right : (xs ys : List (List ℕ)) (s u : Substitution) → SameOn (xs ++ ys) s u → SameOn ys s u
on_right xs ys s u h n c = h n (to_right xs ys n c)

abbrev result : Option ℤ → ℤ
result None = pos 0
result (Some n) = n

mutual
  one_value : (s u : Substitution) (t : Term) (v w : Value) → HasNoInterval t → HasNames t → SameOn (variables t) s u → IsValue s t v → IsValue u t w → v ≡ w
  one_value s u (Variable name) v w p n h is are = is ∙ (h name (here name []) ∙ sym are)
  one_value s u Anything v w p n h is are = absurd n
  one_value s u (Fixed value) v w p n h is are = is ∙ sym are
  one_value s u (Compound name parts) v w p n h (vs, is, e) (ws, are, f) = e ∙ (ap (compound name) (one_values s u parts vs ws p n h is are) ∙ sym f)
  one_value s u (Operation op left right) v w (p, q) (n, o) h (i, j, k, a, b, c, e) (l, m, r, d, g, c2, f) =
      let il : i ≡ l = ap number_of (one_value s u left (integer i) (integer l) p n (on_left (variables left) (variables right) s u h) a d) in
      let jm : j ≡ m = ap number_of (one_value s u right (integer j) (integer m) q o (on_right (variables left) (variables right) s u h) b g) in
      e ∙ (ap (λ x. integer x) (ap result (sym c ∙ (ap₂ (compute op) il jm ∙ c2))) ∙ sym f)
  one_value s u (Interval low high) v w p n h is are = absurd p

  one_values : (s u : Substitution) (ts : Terms) (vs ws : Values) → HaveNoInterval ts → HaveNames ts → SameOn (variables_of ts) s u → AreValues s ts vs → AreValues u ts ws → vs ≡ ws
  one_values s u nothing vs ws p n h is are = is ∙ sym are
  one_values s u (more t ts) vs ws (p, ps) (n, ns) h (v, us, is, are, e) (w, xs, is2, are2, f) =
      e ∙ (ap₂ also (one_value s u t v w p n (on_left (variables t) (variables_of ts) s u h) is is2) (one_values s u ts us xs ps ns (on_right (variables t) (variables_of ts) s u h) are are2) ∙ sym f)

one_term : (s u : Substitution) (f : Formula) (v w : Value) → OfAtoms HaveNoInterval f → OfAtoms HaveNames f → SameOn (formula_variables f) s u → IsFormulaTerm s f v → IsFormulaTerm u f w → v ≡ w
one_term s u (Holds atom) v w p n h (a, (vs, are, e), f) (b, (ws, are2, e2), f2) = f ∙ (ap atom_formula (e ∙ (ap (atom_value atom.name) (one_values s u atom.terms vs ws p n h are are2) ∙ sym e2)) ∙ sym f2)
one_term s u (Neg f) v w p n h (a, is, e) (b, is2, e2) = e ∙ (ap neg_formula (one_term s u f a b p n h is is2) ∙ sym e2)
one_term s u (And f g) v w (p, q) (n, o) h (a, b, is, are, e) (c, d, is2, are2, e2) =
    e ∙ (ap₂ and_formula (one_term s u f a c p n (on_left (formula_variables f) (formula_variables g) s u h) is is2) (one_term s u g b d q o (on_right (formula_variables f) (formula_variables g) s u h) are are2) ∙ sym e2)
one_term s u (Or f g) v w (p, q) (n, o) h (a, b, is, are, e) (c, d, is2, are2, e2) =
    e ∙ (ap₂ or_formula (one_term s u f a c p n (on_left (formula_variables f) (formula_variables g) s u h) is is2) (one_term s u g b d q o (on_right (formula_variables f) (formula_variables g) s u h) are are2) ∙ sym e2)

one_target : (s u : Substitution) (w : Wanted) (t r : Target) → OfWanted HaveNoInterval w → OfWanted HaveNames w → SameOn (wanted_variables w) s u → IsTarget s w t → IsTarget u w r → t ≡ r
one_target s u (Satisfy f) t r p n h (v, is, e) (w, are, g) = e ∙ (ap (λ x. For x) (one_term s u f v w p n h is are) ∙ sym g)
one_target s u (Follow q) t r p n h is are = is ∙ sym are

one_rank : (s u : Substitution) (rank : Rank) (q r : Ranked) → OfRank HaveNoInterval rank → OfRank HaveNames rank → SameOn (rank_variables rank) s u → IsRanked s rank q → IsRanked u rank r → q ≡ r
one_rank s u rank q r (p, pw) (n, nw) h is are = ap₂ (λ ws t. record { weights = ws; target = t })
    (one_values s u rank.weights q.weights r.weights p n (on_left (variables_of rank.weights) (wanted_variables rank.wanted) s u h) is.weights are.weights)
    (one_target s u rank.wanted q.target r.target pw nw (on_right (variables_of rank.weights) (wanted_variables rank.wanted) s u h) is.target are.target)

one_ranks : (s u : Substitution) (ranks : List Rank) (qs rs : List Ranked) → OfRanks HaveNoInterval ranks → OfRanks HaveNames ranks → SameOn (flat_map rank_variables ranks) s u → AreRanked s ranks qs → AreRanked u ranks rs → qs ≡ rs
one_ranks s u [] qs rs p n h is are = is ∙ sym are
one_ranks s u (rank ∷ ranks) qs rs (p, ps) (n, ns) h (q, qs2, is, are, e) (r, rs2, is2, are2, e2) =
    e ∙ (ap₂ (λ x xs. x ∷ xs) (one_rank s u rank q r p n (on_left (rank_variables rank) (flat_map rank_variables ranks) s u h) is is2) (one_ranks s u ranks qs2 rs2 ps ns (on_right (rank_variables rank) (flat_map rank_variables ranks) s u h) are are2) ∙ sym e2)

one_given : (s u : Substitution) (given : Option Rank) (q r : Option Ranked) → OfGiven HaveNoInterval given → OfGiven HaveNames given → SameOn (given_variables given) s u → IsRankedIfThere s given q → IsRankedIfThere u given r → q ≡ r
one_given s u None q r p n h is are = is ∙ sym are
one_given s u (Some rank) q r p n h (a, is, e) (b, are, f) = e ∙ (ap (λ x. Some x) (one_rank s u rank a b p n h is are) ∙ sym f)

-- ---- keys

same_on : (names : List (List ℕ)) (s u : Substitution) → arguments_from (map s names) ≡ arguments_from (map u names) → SameOn names s u
same_on [] s u e n c = absurd (nothing_in n c)
same_on (name ∷ names) s u e n c = ⊎_elim (λ is. subst (λ m. s m ≡ u m) is (ap first_of e)) (same_on names s u (ap rest_of e) n) (first_or_rest name names n c)

in_firsts : (names : List (List ℕ)) (n : List ℕ) → Contains names n → Contains (firsts names) n
in_firsts [] n c = c
in_firsts (name ∷ names) n c = ⊎_elim (λ e. subst (Contains (firsts (name ∷ names))) e (here name _)) (λ r. by (bytes_eq name n) refl (in_firsts names n r)) (first_or_rest name names n c)
  where
    by : (b : Bool) → bytes_eq name n ≡ b → Contains (firsts names) n → Contains (firsts (name ∷ names)) n
    by true e r = subst (Contains (firsts (name ∷ names))) (bytes_from name n e) (here name (filter (λ other. not (bytes_eq name other)) (firsts names)))
    by false e r = there name (filter (λ other. not (bytes_eq name other)) (firsts names)) n (to_filter (λ other. not (bytes_eq name other)) (firsts names) n r (ap not e))

abbrev natural : ℤ → ℕ
natural (pos k) = k
natural (negsuc k) = 0

-- a key tells the place and the values
pub key_place : (g h : Ground) → key g ≡ key h → g.place ≡ h.place
key_place g h e = ap (λ v. natural (number_of (first_of (arguments_of v)))) e

pub key_values : (g h : Ground) → key g ≡ key h → g.values ≡ h.values
key_values g h e = ap (λ v. arguments_of (first_of (rest_of (arguments_of v)))) e

same_ground : (g h : Ground) → g.place ≡ h.place → g.values ≡ h.values → g.ranks ≡ h.ranks → g.given ≡ h.given → g ≡ h
same_ground g h p v q r = λ i. record { place = p i; values = v i; ranks = q i; given = r i }

-- of one element
one_element : (certain lacking : Value → Type 0) (kind : List ℕ) (k : ℕ) (e : Element) (g h : Ground) → OfElement HaveNoInterval e → OfElement HaveNames e
    → IsGroundOf certain lacking kind k e g → IsGroundOf certain lacking kind k e h → g.place ≡ h.place → g.values ≡ h.values → g ≡ h
one_element certain lacking kind k e g h (p, q) (n, o) a b place same =
    let names : List (List ℕ) = flat_map rank_variables e.ranks ++ (given_variables e.given ++ flat_map literal_variables e.domain) in
    let agree : SameOn (firsts names) a.values b.values = same_on (firsts names) a.values b.values (sym a.named ∙ (same ∙ b.named)) in
    let all : SameOn names a.values b.values = λ m c. agree m (in_firsts names m c) in
    let rest : SameOn (given_variables e.given ++ flat_map literal_variables e.domain) a.values b.values = on_right (flat_map rank_variables e.ranks) (given_variables e.given ++ flat_map literal_variables e.domain) a.values b.values all in
    same_ground g h place same
    (one_ranks a.values b.values e.ranks g.ranks h.ranks p n (on_left (flat_map rank_variables e.ranks) (given_variables e.given ++ flat_map literal_variables e.domain) a.values b.values all) a.ranks b.ranks)
    (one_given a.values b.values e.given g.given h.given q o (on_left (given_variables e.given) (flat_map literal_variables e.domain) a.values b.values rest) a.given b.given)

pub same_place : {X : Type 0} (xs : List X) (k m : ℕ) (d e : X) → IsAtPlace xs k d → IsAtPlace xs m e → k ≡ m → d ≡ e
same_place xs k m d e (i, is, lt, at) (j, is2, lt2, at2) same =
    let ij : i ≡ j = omega (arith, is, is2, same) in
    sym at ∙ (get_or_default xs i d e lt ∙ (ap (λ n. slice_index_or xs n e) ij ∙ at2))

-- of a statement whose ranks and conditions have no `_` and no interval
pub one_of_key : (certain : Value → Type 0) (p : Preference) → ((e : Element) → Contains p.elements e → OfElement HaveNoInterval e × OfElement HaveNames e)
    → (g h : Ground) → IsElementOf certain p g → IsElementOf certain p h → g.place ≡ h.place → g.values ≡ h.values → g ≡ h
one_of_key certain p plain g h (k, d, at, a) (m, e, at2, b) place same =
    let km : k ≡ m = sym a.place ∙ (place ∙ b.place) in
    let de : d ≡ e = same_place p.elements k m d e at at2 km in
    let moved : IsGroundOf certain (λ v. certain v → ⊥) p.kind m e g = subst (λ n. IsGroundOf certain (λ v. certain v → ⊥) p.kind n e g) km (subst (λ x. IsGroundOf certain (λ v. certain v → ⊥) p.kind k x g) de a) in
    let (j, is, lt, here_is) = at2 in
    let (intervals, names) = plain e (j, lt, here_is) in
    one_element certain (λ v. certain v → ⊥) p.kind m e g h intervals names moved b place same

pub keyed : (certain : Value → Type 0) (p : Preference) (st : Statement) → IsGrounded certain p st → ((e : Element) → Contains p.elements e → OfElement HaveNoInterval e × OfElement HaveNames e)
    → (g h : Ground) → Contains st.elements g → Contains st.elements h → key g ≡ key h → g ≡ h
keyed certain p st grounded plain g h among among2 same =
    one_of_key certain p plain g h ((grounded.elements g).0 among) ((grounded.elements h).0 among2) (key_place g h same) (key_values g h same)
