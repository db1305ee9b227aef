-- What the shapes say of ground elements.
use Rattle.std.proofs.Common.{◌≡◌, ℕ, ◌<◌, pos, List, [], ◌∷◌, map, length, Contains, true, false, refl, sym, subst, ap, ◌∙◌, ⊎_elim, Option, Some, None, arith}
use Rattle.std.specs.Prelude.{All}
use Rattle.std.proofs.lemmas.List.Elements.{All-contains}
use Rattle.ap_term.specs.Value.{Value, integer, constant, none, arguments_from}
use Rattle.element_form.specs.Elements.{IsTarget, AreRanked, IsRankedIfThere, IsWeighed, AreWeighedIf, is_weighed, IsGroundOf, IsAtPlace, IsElementOf}
use Rattle.element_form.specs.Ground.{Target, For, Name, Ranked, Ground, IsGiven}
use Rattle.element_form.specs.Preferences.{Wanted, Satisfy, Follow, Rank, Element, Preference, element_variables}
use Rattle.element_form.specs.Shapes.{IsFormula, AreFormulas, IsFormulaIfThere, HasFormulas, IsOneName, HasNoWeights}
use Rattle.rule_form.specs.Trees.{Terms, nothing}
use Rattle.rule_form.specs.Truth.{Holds}
use Rattle.rule_form.specs.Values.{Substitution, AreValues}
use Rattle.rule_form.proofs.Unfolds.{here, there, first_or_rest, nothing_in}

target_formula : (s : Substitution) (w : Wanted) (t : Target) → IsFormula w → IsTarget s w t → (f : Value) × (t ≡ For f)
target_formula s (Satisfy f) t is (v, term, e) = (v, e)
target_formula s (Follow q) t is h = absurd is

-- ranks of formulas
pub formula_ranks : (s : Substitution) (ranks : List Rank) (rs : List Ranked) → AreFormulas ranks → AreRanked s ranks rs → (r : Ranked) → Contains rs r → (f : Value) × (r.target ≡ For f)
formula_ranks s [] rs is are r c = absurd (nothing_in r (subst (λ xs. Contains xs r) are c))
formula_ranks s (rank ∷ ranks) rs all (q, qs, one_is, are, e) r c =
    ⊎_elim
    (λ same. subst (λ (x : Ranked). (f : Value) × (x.target ≡ For f)) same (target_formula s rank.wanted q.target (all rank (here rank ranks)) one_is.target))
    (formula_ranks s ranks qs (λ x d. all x (there rank ranks x d)) are r)
    (first_or_rest q qs r (subst (λ xs. Contains xs r) e c))

-- one rank at least
pub some_ranks : (s : Substitution) (ranks : List Rank) (rs : List Ranked) → HasFormulas ranks → AreRanked s ranks rs → 0 < length rs
some_ranks s [] rs (some, all) are = absurd (some refl)
some_ranks s (rank ∷ ranks) rs is (q, qs, one_is, are, e) = subst (λ (xs : List Ranked). 0 < length xs) (sym e) (omega arith)

-- a formula after `||`
pub formula_given : (s : Substitution) (given : Option Rank) (o : Option Ranked) → IsFormulaIfThere given → IsRankedIfThere s given o → (r : Ranked) → IsGiven o r → (f : Value) × (r.target ≡ For f)
formula_given s None o is h r g = absurd (subst (λ x. IsGiven x r) h g)
formula_given s (Some rank) o is (q, one_is, e) r g =
    let same : r ≡ q = subst (λ x. IsGiven x r) e g in
    subst (λ (x : Ranked). (f : Value) × (x.target ≡ For f)) (sym same) (target_formula s rank.wanted q.target is one_is.target)

-- nothing after `||`
pub no_given : (s : Substitution) (given : Option Rank) (o : Option Ranked) → given ≡ None → IsRankedIfThere s given o → o ≡ None
no_given s given o e h = subst (λ g. IsRankedIfThere s g o) e h

pub in_place : {X : Type 0} (xs : List X) (k : ℕ) (x : X) → IsAtPlace xs k x → Contains xs x
in_place xs k x (i, is, lt, at) = (i, lt, at)

-- first weights are integers where the type asks for it
pub weighed : (certain lacking : Value → Type 0) (kind : List ℕ) (k : ℕ) (e : Element) (g : Ground) → is_weighed kind ≡ true → IsGroundOf certain lacking kind k e g → (r : Ranked) → Contains g.ranks r → IsWeighed r
weighed certain lacking kind k e g is a r c =
    let all : All IsWeighed g.ranks = subst (λ b. AreWeighedIf b g.ranks) is a.numbers in
    let h : IsWeighed r = All-contains IsWeighed g.ranks r all c in
    h

-- ---- names

abbrev first_weights : List Rank → Terms
first_weights [] = nothing
first_weights (rank ∷ ranks) = rank.weights

no_values : (s : Substitution) (weights : Terms) → weights ≡ nothing → AreValues s weights none
no_values s weights e = subst (λ ts. AreValues s ts none) (sym e) refl

-- a name without weights and `:` part has an instance
pub name_there : (certain : Value → Type 0) (p : Preference) → is_weighed p.kind ≡ false → (k : ℕ) (e : Element) → IsAtPlace p.elements k e → (name : IsOneName e) → HasNoWeights e
    → (g : Ground) × (r : Ranked) × IsElementOf certain p g × Contains g.ranks r × (r.target ≡ Name (constant name.1))
name_there certain p light k e at (weights, q, ranks, given, domain) (rank, ranks2, empty) =
    let s : Substitution = λ n. integer (pos 0) in
    let r : Ranked = record { weights = none; target = Name (constant q) } in
    let g : Ground = record { place = k; values = arguments_from (map s (element_variables e)); ranks = r ∷ []; given = None } in
    let without : weights ≡ nothing = ap first_weights (sym ranks ∙ ranks2) ∙ empty in
    let is : IsGroundOf certain (λ a. certain a → ⊥) p.kind k e g = record {
      values = s;
      holds = subst (λ ls. All (Holds certain (λ a. certain a → ⊥) s) ls) (sym domain) (λ i d low. absurd (omega (arith, low)));
      place = refl;
      named = refl;
      ranks = subst (λ rs. AreRanked s rs (r ∷ [])) (sym ranks) (r, [], record { weights = no_values s weights without; target = refl }, refl, refl);
      given = subst (λ o. IsRankedIfThere s o None) (sym given) refl;
      numbers = subst (λ b. AreWeighedIf b (r ∷ [])) (sym light) tt;
    } in
    (g, r, (k, e, at, is), here r [], refl)

-- an instance of a name stands for this name
pub name_only : (s : Substitution) (e : Element) (rs : List Ranked) (name : IsOneName e) → AreRanked s e.ranks rs → (r : Ranked) → Contains rs r → r.target ≡ Name (constant name.1)
name_only s e rs (weights, q, ranks, given, domain) are r c =
    let (x, xs, is, rest, e2) = subst (λ ls. AreRanked s ls rs) ranks are in
    let one : rs ≡ x ∷ [] = e2 ∙ ap (λ ys. x ∷ ys) rest in
    ⊎_elim (λ same. sym (ap (λ (y : Ranked). y.target) same) ∙ is.target) (λ h. absurd (nothing_in r h)) (first_or_rest x [] r (subst (λ ys. Contains ys r) one c))
