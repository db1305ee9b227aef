-- A program in a theory: for every assignment with the right values at bodies, what the theory says of the program's atoms
-- says that they are an answer set, and the other way round.
use Rattle.std.proofs.Common.{◌≡◌, ℕ, suc, ◌+◌, ◌-◌, ◌<◌, ◌≤◌, Bool, true, false, not, ◌&&◌, List, [], ◌∷◌, map, length, get_or, refl, sym, ap, ◌∙◌, subst, Option, Some, None, ⊎_elim, inl, inr, arith}
use Rattle.std.specs.Prelude.{ℤ, pos, negsuc, ◌⊎◌, Any, IsTrue, IsFalse, IfSome, IsSomeAnd, Contains, ◌==◌, nat_lt, nat_le, filter}
use Rattle.std.specs.Bool.{then_some}
use Rattle.std.specs.List.{list_any, zip}
use Rattle.std.proofs.lemmas.Bool.{and_parts, and_from, false≢true, cases_Bool, eq-eqb, eqb-true, lt-ltb, ltb-true, le-leb, leb-true, not-true}
use Rattle.std.proofs.lemmas.List.Elements.{recursion_from_All, Contains-get_or}
use Rattle.theory_form.specs.declared.literals.Lit.{Lit}
use Rattle.theory_form.specs.declared.rows.BodyRow.{BodyRow}
use Rattle.theory_form.specs.Literals.{opposite}
use Rattle.theory_form.specs.Theories.{TheoryView, body_of, block_of, supports_of}
use Rattle.theory_model.specs.Truth.{literal_true as lit_true, clause_true}
use Rattle.theory_model.specs.Loops.{is_positive_in, rests_on, is_internal, AreAtomsOf, IsLoopTrue}
use Rattle.ground_form.specs.declared.atoms.AtomId.{AtomId}
use Rattle.ground_form.specs.declared.rules.GroundRule.{GroundRule}
use Rattle.ground_form.specs.declared.rules.Head.{Head}
use Rattle.ground_form.specs.declared.rules.Head.TheVariants.{One, Choice, Nothing}
use Rattle.ground_form.specs.declared.bodies.Body.{Body}
use Rattle.ground_form.specs.Programs.{Parts, numbered}
use Rattle.ground_form.specs.Truth.{body_true, literals_in, literals_of}
use Rattle.ground_form.specs.Reduct.{positive_of, positives}
use Rattle.ground_form.specs.Obedience.{obliges, Obeys}
use Rattle.ground_form.specs.Sets.{IsSubset}
use Rattle.ground_form.specs.Ranges.{IsNumberOf, IsLiteralOf, IsHeadOf, IsRuleOf, IsBodyOf, IsInRange}
use Rattle.ground_form.specs.AnswerSets.{IsAnswerSetWith}
use Rattle.ground_form.proofs.ReductLemmas.{closed_by_rules, body_by_itself}
use Rattle.theory_build.specs.declared.frames.Frame.{Frame}
use Rattle.theory_build.specs.Frames.{atom_var}
use Rattle.theory_build.specs.Bodies.{lits_of, body_lit}
use Rattle.theory_build.specs.Atoms.{forces, allows, forbids, bodies_where, joined_to, joined, supports as supports_at, forcing, constraint_clauses}
use Rattle.theory_build.proofs.OrderLemmas.{lit_order}
use Rattle.theory_law.specs.Cuts.{cut, facts_of}
use Rattle.theory_law.proofs.Membership.{same_truth, In, in_from_Contains, Contains_from_in, in_append, in_left, in_right, in_map, mapped_in, in_filter, filtered_in, in_filter_map, filter_mapped_in, any_in, in_any, all_in, in_all, in_ascending, ascended_in, All-in, any_same}
use Rattle.theory_law.proofs.Clauses.{clauses_true, or_false, opposite_true, IsCompleted}
use Rattle.theory_law.proofs.Supports.{heads_into, is_external_rule, supports, IsSupported, HasSupports, some_if, minimal_from_supports, supports_from_answer}
use Rattle.theory_law.proofs.Places.{numbered_if}
use Rattle.theory_law.proofs.Apart.{IsApart, lits_positive}

-- ---- the cut

pub in_cut : (before : ℕ) (g : Parts) (f : ℕ → Bool) (a : ℕ) → cut before g f a ≡ true → IsNumberOf (length g.atoms) a × (f (before + a) ≡ true)
in_cut before g f a h =
    let parts = and_parts (nat_lt 0 a && nat_le a (length g.atoms)) (f (before + a)) h in
    let range = and_parts (nat_lt 0 a) (nat_le a (length g.atoms)) parts.0 in
    ((ltb-true 0 a range.0, leb-true a (length g.atoms) range.1), parts.1)

pub cut_at : (before : ℕ) (g : Parts) (f : ℕ → Bool) (a : ℕ) → IsNumberOf (length g.atoms) a → f (before + a) ≡ cut before g f a
cut_at before g f a r = ap (λ b. b && f (before + a)) (sym (and_from (nat_lt 0 a) (nat_le a (length g.atoms)) (lt-ltb 0 a r.0) (le-leb a (length g.atoms) r.1)))

-- ---- the program in the theory

-- The theory has the variables of the program's atoms and bodies where the frame says, and no other atoms under the
-- program's number. A joined literal rests on none of its atoms.
pub record IsProgramOf (t : TheoryView) (p : Frame) (g : Parts) : Type 0 where
  pub atoms_end : p.before + length g.atoms < p.groups_from
  pub truth_off : (p.truth ≤ p.before) ⊎ (p.before + length g.atoms < p.truth)
  pub supports : (a : ℕ) → IsNumberOf (length g.atoms) a → supports_of t (atom_var p a) ≡ Some (supports_at p g a)
  pub block : (a : ℕ) → IsNumberOf (length g.atoms) a → block_of t (atom_var p a) ≡ Some p.block
  pub only : (v : ℕ) → block_of t v ≡ Some p.block → (a : ℕ) × IsNumberOf (length g.atoms) a × (v ≡ atom_var p a)
  pub bodies : (rule : GroundRule) → In rule g.rules → (row : BodyRow) × (body_of t (body_lit p g rule.body.0).var.0 ≡ Some row) × (row.lits ≡ lits_of p g rule.body.0)
  pub joined : (l : Lit) → In l p.joins → (u : ℕ → Bool) → AreAtomsOf t p.block u → is_internal t u l ≡ false

-- what f says of the atoms and constraints, and of the sets of atoms
pub record IsProgramTrue (t : TheoryView) (p : Frame) (g : Parts) (f : ℕ → Bool) : Type 0 where
  pub atoms : (a : ℕ) → IsNumberOf (length g.atoms) a → IsCompleted f (atom_var p a) (forcing p g a) (supports_at p g a)
  pub constraints : clauses_true f (constraint_clauses p g) ≡ true
  pub loops : (u : ℕ → Bool) → AreAtomsOf t p.block u → (v : ℕ) → IsTrue (u v) → IsLoopTrue t f u v

-- the bodies have by f the values that they have in x
abbrev pub BodiesFit : Frame → Parts → (ℕ → Bool) → (ℕ → Bool) → Type 0
BodiesFit p g f x = (rule : GroundRule) → In rule g.rules → lit_true f (body_lit p g rule.body.0) ≡ body_true g x rule.body.0

-- ---- members of the lists

pub in_where : (p : Frame) (g : Parts) (test : Head → Bool) (l : Lit) → In l (bodies_where p g test) → (rule : GroundRule) × In rule g.rules × (test rule.head ≡ true) × (l ≡ body_lit p g rule.body.0)
unfolding bodies_where
in_where p g test l i =
    let from = in_map (λ (rule : GroundRule). body_lit p g rule.body.0) l (filter (λ (rule : GroundRule). test rule.head) g.rules) (in_ascending lit_order l (map (λ (rule : GroundRule). body_lit p g rule.body.0) (filter (λ (rule : GroundRule). test rule.head) g.rules)) i) in
    let kept = in_filter (λ (rule : GroundRule). test rule.head) from.0 g.rules from.1 in
    (from.0, kept.0, kept.1, from.2)

where_in : (p : Frame) (g : Parts) (test : Head → Bool) (rule : GroundRule) → In rule g.rules → test rule.head ≡ true → In (body_lit p g rule.body.0) (bodies_where p g test)
unfolding bodies_where
where_in p g test rule i e =
    ascended_in lit_order (body_lit p g rule.body.0) (map (λ (r : GroundRule). body_lit p g r.body.0) (filter (λ (r : GroundRule). test r.head) g.rules))
    (mapped_in (λ (r : GroundRule). body_lit p g r.body.0) rule (filter (λ (r : GroundRule). test r.head) g.rules) (filtered_in (λ (r : GroundRule). test r.head) rule g.rules i e))

some_when : {X : Type 0} (b : Bool) (x y : X) → then_some b x ≡ Some y → (b ≡ true) × (x ≡ y)
some_when true x y e = (refl, cc)
some_when false x y e = absurd (cc)

when_some : {X : Type 0} (b : Bool) (x : X) → b ≡ true → then_some b x ≡ Some x
when_some true x e = refl
when_some false x e = absurd (false≢true e)

-- a literal that is joined to an atom
pub in_joined : (p : Frame) (g : Parts) (a : ℕ) (l : Lit) → In l (joined p g a) → (pair : AtomId × Lit) × In pair (zip g.inputs p.joins) × (pair.0.0 ≡ a) × (pair.1 ≡ l)
unfolding joined
in_joined p g a l i =
    let from = in_filter_map (joined_to a) l (zip g.inputs p.joins) i in
    let pair : AtomId × Lit = from.0 in
    let is = some_when (pair.0.0 == a) pair.1 l from.2 in
    (pair, from.1, eqb-true pair.0.0 a is.0, is.1)

joined_in : (p : Frame) (g : Parts) (pair : AtomId × Lit) → In pair (zip g.inputs p.joins) → In pair.1 (joined p g pair.0.0)
unfolding joined
joined_in p g pair i = filter_mapped_in (joined_to pair.0.0) pair pair.1 (zip g.inputs p.joins) i (when_some (pair.0.0 == pair.0.0) pair.1 (eq-eqb pair.0.0 pair.0.0 refl))

zip_left : {A B : Type 0} (xs : List A) (ys : List B) (pair : A × B) → In pair (zip xs ys) → In pair.0 xs
zip_left [] ys pair i = absurd i
zip_left (x ∷ xs) [] pair i = absurd i
zip_left {A = A} {B = B} (x ∷ xs) (y ∷ ys) pair (inl e) = inl (ap (λ (q : A × B). q.0) e)
zip_left (x ∷ xs) (y ∷ ys) pair (inr i) = inr (zip_left xs ys pair i)

pub zip_right : {A B : Type 0} (xs : List A) (ys : List B) (pair : A × B) → In pair (zip xs ys) → In pair.1 ys
zip_right [] ys pair i = absurd i
zip_right (x ∷ xs) [] pair i = absurd i
zip_right {A = A} {B = B} (x ∷ xs) (y ∷ ys) pair (inl e) = inl (ap (λ (q : A × B). q.1) e)
zip_right (x ∷ xs) (y ∷ ys) pair (inr i) = inr (zip_right xs ys pair i)

-- a fact, and its true joined literal
fact_pair : (g : Parts) (joins : List Lit) (f : ℕ → Bool) (a : ℕ) → facts_of g joins f a ≡ true → (pair : AtomId × Lit) × In pair (zip g.inputs joins) × (pair.0.0 ≡ a) × (lit_true f pair.1 ≡ true)
fact_pair g joins f a h =
    let some = in_any (λ (pair : AtomId × Lit). pair.0.0 == a && lit_true f pair.1) (zip g.inputs joins) h in
    let pair : AtomId × Lit = some.0 in
    let both = and_parts (pair.0.0 == a) (lit_true f pair.1) some.2 in
    (pair, some.1, eqb-true pair.0.0 a both.0, both.1)

pair_fact : (g : Parts) (joins : List Lit) (f : ℕ → Bool) (pair : AtomId × Lit) → In pair (zip g.inputs joins) → lit_true f pair.1 ≡ true → facts_of g joins f pair.0.0 ≡ true
pair_fact g joins f pair i t = any_in (λ (q : AtomId × Lit). q.0.0 == pair.0.0 && lit_true f q.1) pair (zip g.inputs joins) i (and_from (pair.0.0 == pair.0.0) (lit_true f pair.1) (eq-eqb pair.0.0 pair.0.0 refl) t)

-- facts are atoms of the program
pub fact_range : (g : Parts) (joins : List Lit) (f : ℕ → Bool) → IsInRange g → (a : ℕ) → facts_of g joins f a ≡ true → IsNumberOf (length g.atoms) a
fact_range g joins f range a h =
    let found = fact_pair g joins f a h in
    subst (IsNumberOf (length g.atoms)) found.2 (All-in (λ (b : AtomId). IsNumberOf (length g.atoms) b.0) g.inputs range.inputs found.0.0 (zip_left g.inputs joins found.0 found.1))

-- ---- sets of the program's atoms, and sets of variables

-- a set of atoms as a set of variables
abbrev pub lift : Frame → Parts → (ℕ → Bool) → ℕ → Bool
lift p g u v = (nat_lt p.before v && nat_le v (p.before + length g.atoms)) && u (v - p.before)

-- a set of variables as a set of atoms
abbrev pub drop_to : Frame → Parts → (ℕ → Bool) → ℕ → Bool
drop_to p g u a = (nat_lt 0 a && nat_le a (length g.atoms)) && u (atom_var p a)

in_lift : (p : Frame) (g : Parts) (u : ℕ → Bool) (v : ℕ) → lift p g u v ≡ true → (a : ℕ) × IsNumberOf (length g.atoms) a × (v ≡ atom_var p a) × (u a ≡ true)
in_lift p g u v h =
    let parts = and_parts (nat_lt p.before v && nat_le v (p.before + length g.atoms)) (u (v - p.before)) h in
    let range = and_parts (nat_lt p.before v) (nat_le v (p.before + length g.atoms)) parts.0 in
    let low : p.before < v = ltb-true p.before v range.0 in
    let high : v ≤ p.before + length g.atoms = leb-true v (p.before + length g.atoms) range.1 in
    (v - p.before, (omega arith, omega arith), omega arith, parts.1)

lift_at : (p : Frame) (g : Parts) (u : ℕ → Bool) (a : ℕ) → IsNumberOf (length g.atoms) a → lift p g u (atom_var p a) ≡ u a
lift_at p g u a r =
    let low = r.0 in let high = r.1 in
    let back : (p.before + a) - p.before ≡ a = omega arith in
    ap (λ b. b && u ((p.before + a) - p.before)) (and_from (nat_lt p.before (p.before + a)) (nat_le (p.before + a) (p.before + length g.atoms)) (lt-ltb p.before (p.before + a) (omega arith)) (le-leb (p.before + a) (p.before + length g.atoms) (omega arith)))
    ∙ ap u back

in_drop : (p : Frame) (g : Parts) (u : ℕ → Bool) (a : ℕ) → drop_to p g u a ≡ true → IsNumberOf (length g.atoms) a × (u (atom_var p a) ≡ true)
in_drop p g u a h =
    let parts = and_parts (nat_lt 0 a && nat_le a (length g.atoms)) (u (atom_var p a)) h in
    let range = and_parts (nat_lt 0 a) (nat_le a (length g.atoms)) parts.0 in
    ((ltb-true 0 a range.0, leb-true a (length g.atoms) range.1), parts.1)

drop_at : (p : Frame) (g : Parts) (u : ℕ → Bool) (a : ℕ) → IsNumberOf (length g.atoms) a → drop_to p g u a ≡ u (atom_var p a)
drop_at p g u a r = ap (λ b. b && u (atom_var p a)) (and_from (nat_lt 0 a) (nat_le a (length g.atoms)) (lt-ltb 0 a r.0) (le-leb a (length g.atoms) r.1))

body_lit_yes : (p : Frame) (g : Parts) (b : ℕ) → (body_lit p g b).yes ≡ true
unfolding body_lit
body_lit_yes p g b = refl

-- the atoms that a body asks for are atoms of the program
positives_range : (g : Parts) → IsInRange g → (b a : ℕ) → In a (positives g b) → IsNumberOf (length g.atoms) a
positives_range g range b a i =
    let from = in_filter_map positive_of a (literals_of g b) i in
    literal_range from.0 a from.2 (literals_range (numbered g.bodies b) (numbered_if (IsBodyOf (length g.atoms) g.groups) g.bodies b (recursion_from_All (IsBodyOf (length g.atoms) g.groups) g.bodies range.bodies)) from.0 from.1)
  where
    literals_range : (body : Option Body) → IfSome body (IsBodyOf (length g.atoms) g.groups) → (l : ℤ) → In l (literals_in body) → IsLiteralOf (length g.atoms) l
    literals_range None h l j = absurd j
    literals_range (Some body) h l j = All-in (IsLiteralOf (length g.atoms)) body.lits h.lits l j

    literal_range : (l : ℤ) (c : ℕ) → positive_of l ≡ Some c → IsLiteralOf (length g.atoms) l → IsNumberOf (length g.atoms) c
    literal_range (pos d) c e r = let same : d ≡ c = cc in subst (IsNumberOf (length g.atoms)) same r
    literal_range (negsuc k) c e r = absurd (cc)

module _ (t : TheoryView) (p : Frame) (g : Parts) (here : IsProgramOf t p g) where
  apart_of : (u : ℕ → Bool) → AreAtomsOf t p.block u → IsApart p u
  apart_of u atoms = record {
    truth = none p.truth (λ a r e. let low = r.0 in let high = r.1 in ⊎_elim (λ (le : p.truth ≤ p.before). omega arith) (λ (lt : p.before + length g.atoms < p.truth). omega arith) here.truth_off);
    later = λ v le. none v (λ a r e. let low = r.0 in let high = r.1 in let ends = here.atoms_end in omega arith);
  }
    where
      none : (v : ℕ) → ((a : ℕ) → IsNumberOf (length g.atoms) a → v ≡ atom_var p a → ⊥) → u v ≡ false
      none v never = ⊎_elim (λ (h : u v ≡ true). let found = here.only v (atoms v h) in absurd (never found.0 found.1 found.2)) (λ (h : u v ≡ false). h) (cases_Bool (u v))

  -- the body rests on u where one of its positive literals is over a member of u
  internal_is : (u : ℕ → Bool) → AreAtomsOf t p.block u → (rule : GroundRule) → In rule g.rules → is_internal t u (body_lit p g rule.body.0) ≡ list_any (λ a. u (atom_var p a)) (positives g rule.body.0)
  internal_is u atoms rule i =
      let l : Lit = body_lit p g rule.body.0 in
      let found = here.bodies rule i in
      ap (λ b. b && rests_on u (body_of t l.var.0)) (body_lit_yes p g rule.body.0)
      ∙ (ap (rests_on u) found.1
      ∙ (ap (λ lits. list_any (is_positive_in u) lits) found.2
      ∙ lits_positive p u (apart_of u atoms) g rule.body.0))

  lift_atoms : (u : ℕ → Bool) → AreAtomsOf t p.block (lift p g u)
  lift_atoms u v h = let found = in_lift p g u v h in ap (block_of t) found.2 ∙ here.block found.0 found.1

-- ---- what is said of the atoms says that they are an answer set

module _ (t : TheoryView) (p : Frame) (g : Parts) (f : ℕ → Bool) (here : IsProgramOf t p g) (range : IsInRange g) (fit : BodiesFit p g f (cut p.before g f)) (says : IsProgramTrue t p g f) where
  abbrev answer : ℕ → Bool
  answer = cut p.before g f

  abbrev facts : ℕ → Bool
  facts = facts_of g p.joins f

  -- an atom that a true literal forces is in the set
  forced_in : (a : ℕ) → IsNumberOf (length g.atoms) a → (l : Lit) → In l (forcing p g a) → lit_true f l ≡ true → answer a ≡ true
  forced_in a r l i e = sym (cut_at p.before g f a r) ∙ (says.atoms a r).forced l i e

  has_facts : IsSubset facts answer
  has_facts a h =
      let found = fact_pair g p.joins f a h in
      let l : Lit = found.0.1 in
      let in_here : In l (joined p g a) = subst (λ b. In l (joined p g b)) found.2 (joined_in p g found.0 found.1) in
      forced_in a (fact_range g p.joins f range a h) l (in_left l (joined p g a) (bodies_where p g (forces a)) in_here) found.3

  head_in : (rule : GroundRule) → In rule g.rules → (h : Head) → rule.head ≡ h → IsHeadOf (length g.atoms) h → body_true g answer rule.body.0 ≡ true → IfSome (obliges answer h) (λ a. IsTrue (answer a))
  head_in rule i (One a) e r b =
      let l : Lit = body_lit p g rule.body.0 in
      let forced : forces a.0 rule.head ≡ true = ap (forces a.0) e ∙ eq-eqb a.0 a.0 refl in
      forced_in a.0 r l (in_right l (joined p g a.0) (bodies_where p g (forces a.0)) (where_in p g (forces a.0) rule i forced)) (fit rule i ∙ b)
  head_in rule i (Choice a) e r b = some_if (λ c. IsTrue (answer c)) (answer a.0) a.0 (λ k. k)
  head_in rule i Nothing e r b = tt

  rule_at : (k : ℕ) (d : GroundRule) → k < length g.rules → In (get_or g.rules k d) g.rules
  rule_at k d lt = in_from_Contains (get_or g.rules k d) g.rules (Contains-get_or g.rules k d lt)

  allows_head : (u : ℕ → Bool) (a : ℕ) (h : Head) → allows a h ≡ true → u a ≡ true → heads_into u h ≡ true
  allows_head u a (One b) e ua = subst (λ c. u c ≡ true) (sym (eqb-true b.0 a e)) ua
  allows_head u a (Choice b) e ua = subst (λ c. u c ≡ true) (sym (eqb-true b.0 a e)) ua
  allows_head u a Nothing e ua = absurd (false≢true e)

  -- an external support that is true
  supported_by : (u : ℕ → Bool) (l : Lit) (a : ℕ) → IsNumberOf (length g.atoms) a → u a ≡ true → In l (supports_at p g a) → is_internal t (lift p g u) l ≡ false → lit_true f l ≡ true → IsSupported g facts answer u
  supported_by u l a r ua i out e = ⊎_elim
      (λ (j : In l (joined p g a)).
      let found = in_joined p g a l j in
      let fact : facts found.0.0.0 ≡ true = pair_fact g p.joins f found.0 found.1 (ap (lit_true f) found.3 ∙ e) in
      inl (a, ua, subst (λ c. facts c ≡ true) found.2 fact))
      (λ (j : In l (bodies_where p g (allows a))).
      let found = in_where p g (allows a) l j in
      let rule : GroundRule = found.0 in
      let rests : list_any u (positives g rule.body.0) ≡ false =
      sym (any_same (λ c. lift p g u (atom_var p c)) u (positives g rule.body.0) (λ c k. lift_at p g u c (positives_range g range rule.body.0 c k)))
      ∙ (sym (internal_is t p g here (lift p g u) (lift_atoms t p g here u) rule found.1) ∙ (ap (is_internal t (lift p g u)) (sym found.3) ∙ out)) in
      let ext : is_external_rule g u rule ≡ true = and_from (heads_into u rule.head) (not (list_any u (positives g rule.body.0))) (allows_head u a rule.head found.2 ua) (ap not rests) in
      let holds : supports g answer u rule ≡ true = and_from (is_external_rule g u rule) (body_true g answer rule.body.0) ext (sym (fit rule found.1) ∙ (ap (lit_true f) (sym found.3) ∙ e)) in
      let has = Contains_from_in rule g.rules found.1 in
      inr (has.0, rule, has.1, has.2, holds))
      (in_append l (joined p g a) (bodies_where p g (allows a)) i)

  has_supports : HasSupports g facts answer
  has_supports u a ua xa =
      let at = in_cut p.before g f a xa in
      let looped = says.loops (lift p g u) (lift_atoms t p g here u) (atom_var p a) (lift_at p g u a at.0 ∙ ua) at.1 in
      let l : Lit = looped.0 in
      let ext = looped.1 in
      let found = in_lift p g u ext.0 ext.1 in
      let there : supports_of t ext.0 ≡ Some (supports_at p g found.0) = ap (supports_of t) found.2 ∙ here.supports found.0 found.1 in
      supported_by u l found.0 found.1 found.3 (in_from_Contains l (supports_at p g found.0) (subst (λ o. IsSomeAnd o (λ supports. Contains supports l)) there ext.2)) ext.3 looped.2

  constraint_false : (k : ℕ) (d : GroundRule) → k < length g.rules → (get_or g.rules k d).head ≡ Nothing → body_true g answer (get_or g.rules k d).body.0 ≡ false
  unfolding constraint_clauses
  constraint_false k d lt e =
      let rule : GroundRule = get_or g.rules k d in
      let l : Lit = body_lit p g rule.body.0 in
      let unit : List Lit = opposite l ∷ [] in
      let there : In unit (constraint_clauses p g) = mapped_in (λ b. opposite b ∷ []) l (bodies_where p g forbids) (where_in p g forbids rule (rule_at k d lt) (ap forbids e)) in
      let holds : clause_true f unit ≡ true = all_in (clause_true f) (constraint_clauses p g) says.constraints unit there in
      sym (fit rule (rule_at k d lt)) ∙ not-true (lit_true f l) (sym (opposite_true f l) ∙ (sym (or_false (lit_true f (opposite l))) ∙ holds))

  pub answer_from_program : IsAnswerSetWith g facts answer
  answer_from_program = record {
    closed = record {
      has_facts = has_facts;
      has_heads = (closed_by_rules g answer answer).1 (λ k d lt by_x.
          head_in (get_or g.rules k d) (rule_at k d lt) (get_or g.rules k d).head refl (range.rules k d lt).head (sym (body_by_itself g answer (get_or g.rules k d).body.0) ∙ by_x));
    };
    minimal = λ y _ closed. minimal_from_supports g facts answer has_supports y closed;
    constraints = λ k d lt e. constraint_false k d lt e;
  }

-- ---- of an answer set this can be said

module _ (t : TheoryView) (p : Frame) (g : Parts) (f x : ℕ → Bool) (here : IsProgramOf t p g) (range : IsInRange g) (fit : BodiesFit p g f x) (f_atoms : (a : ℕ) → IsNumberOf (length g.atoms) a → f (atom_var p a) ≡ x a) (answer : IsAnswerSetWith g (facts_of g p.joins f) x) where
  x_supports : HasSupports g (facts_of g p.joins f) x
  x_supports = supports_from_answer g (facts_of g p.joins f) x (suc (length g.atoms)) (λ c h. let r = fact_range g p.joins f range c h in omega (arith, r.1)) answer

  head_forced : (a : ℕ) (h : Head) → forces a h ≡ true → IfSome (obliges x h) (λ c. IsTrue (x c)) → x a ≡ true
  head_forced a (One b) e o = subst (λ c. x c ≡ true) (eqb-true b.0 a e) o
  head_forced a (Choice b) e o = absurd (false≢true e)
  head_forced a Nothing e o = absurd (false≢true e)

  obeys_in : (rule : GroundRule) → In rule g.rules → Obeys g x x rule
  obeys_in rule i = All-in (Obeys g x x) g.rules ((closed_by_rules g x x).0 answer.closed.has_heads) rule i

  forced_true : (a : ℕ) → IsNumberOf (length g.atoms) a → (l : Lit) → In l (forcing p g a) → lit_true f l ≡ true → f (atom_var p a) ≡ true
  forced_true a r l i e = f_atoms a r ∙ ⊎_elim
      (λ (j : In l (joined p g a)).
      let found = in_joined p g a l j in
      answer.closed.has_facts a (subst (λ c. facts_of g p.joins f c ≡ true) found.2 (pair_fact g p.joins f found.0 found.1 (ap (lit_true f) found.3 ∙ e))))
      (λ (j : In l (bodies_where p g (forces a))).
      let found = in_where p g (forces a) l j in
      let rule : GroundRule = found.0 in
      let holds : body_true g x rule.body.0 ≡ true = sym (fit rule found.1) ∙ (ap (lit_true f) (sym found.3) ∙ e) in
      head_forced a rule.head found.2 (obeys_in rule found.1 (body_by_itself g x rule.body.0 ∙ holds)))
      (in_append l (joined p g a) (bodies_where p g (forces a)) i)

  head_allows : (u : ℕ → Bool) (h : Head) → IsHeadOf (length g.atoms) h → heads_into u h ≡ true → (a : ℕ) × IsNumberOf (length g.atoms) a × (u a ≡ true) × (allows a h ≡ true)
  head_allows u (One b) r e = (b.0, r, e, eq-eqb b.0 b.0 refl)
  head_allows u (Choice b) r e = (b.0, r, e, eq-eqb b.0 b.0 refl)
  head_allows u Nothing r e = absurd (false≢true e)

  -- a true support of a set: an atom of the set, a support of it, and whether it rests on the set
  abbrev IsTrueSupport : (ℕ → Bool) → Type 0
  IsTrueSupport u = (a : ℕ) × IsNumberOf (length g.atoms) a × (u a ≡ true) × ((l : Lit) × In l (supports_at p g a) × (lit_true f l ≡ true) × (In l p.joins ⊎ ((rule : GroundRule) × In rule g.rules × (l ≡ body_lit p g rule.body.0) × (list_any u (positives g rule.body.0) ≡ false))))

  true_support : (u : ℕ → Bool) → IsSupported g (facts_of g p.joins f) x u → IsTrueSupport u
  true_support u h = ⊎_elim
      (λ (fact : (c : ℕ) × IsTrue (u c) × IsTrue (facts_of g p.joins f c)).
      let found = fact_pair g p.joins f fact.0 fact.2 in
      let l : Lit = found.0.1 in
      let there : In l (joined p g fact.0) = subst (λ b. In l (joined p g b)) found.2 (joined_in p g found.0 found.1) in
      (fact.0, fact_range g p.joins f range fact.0 fact.2, fact.1, (l, in_left l (joined p g fact.0) (bodies_where p g (allows fact.0)) there, found.3, inl (zip_right g.inputs p.joins found.0 found.1))))
      (λ (some : Any (λ (r : GroundRule). IsTrue (supports g x u r)) g.rules).
      let rule : GroundRule = some.1 in
      let i : In rule g.rules = in_from_Contains rule g.rules (some.0, some.2, some.3) in
      let both = and_parts (is_external_rule g u rule) (body_true g x rule.body.0) some.4 in
      let ext = and_parts (heads_into u rule.head) (not (list_any u (positives g rule.body.0))) both.0 in
      let head = head_allows u rule.head (All-in (IsRuleOf (length g.atoms) (length g.bodies)) g.rules range.rules rule i).head ext.0 in
      let l : Lit = body_lit p g rule.body.0 in
      (head.0, head.1, head.2, (l, in_right l (joined p g head.0) (bodies_where p g (allows head.0)) (where_in p g (allows head.0) rule i head.3), fit rule i ∙ both.1, inr (rule, i, refl, not-true (list_any u (positives g rule.body.0)) ext.1))))
      h

  supported_true : (a : ℕ) → IsNumberOf (length g.atoms) a → f (atom_var p a) ≡ true → clause_true f (supports_at p g a) ≡ true
  supported_true a r e =
      let some = true_support (λ c. c == a) (x_supports (λ c. c == a) a (eq-eqb a a refl) (sym (f_atoms a r) ∙ e)) in
      let is : some.0 ≡ a = eqb-true some.0 a some.2 in
      let l : Lit = some.3.0 in
      any_in (lit_true f) l (supports_at p g a) (subst (λ c. In l (supports_at p g c)) is some.3.1) some.3.2

  not_internal : (u : ℕ → Bool) → AreAtomsOf t p.block u → (l : Lit) → In l p.joins ⊎ ((rule : GroundRule) × In rule g.rules × (l ≡ body_lit p g rule.body.0) × (list_any (drop_to p g u) (positives g rule.body.0) ≡ false)) → is_internal t u l ≡ false
  not_internal u atoms l (inl j) = here.joined l j u atoms
  not_internal u atoms l (inr found) =
      let rule : GroundRule = found.0 in
      ap (is_internal t u) found.2
      ∙ (internal_is t p g here u atoms rule found.1
      ∙ (sym (any_same (drop_to p g u) (λ a. u (atom_var p a)) (positives g rule.body.0) (λ c k. drop_at p g u c (positives_range g range rule.body.0 c k))) ∙ found.3))

  loops_true : (u : ℕ → Bool) → AreAtomsOf t p.block u → (v : ℕ) → IsTrue (u v) → IsLoopTrue t f u v
  loops_true u atoms v uv fv =
      let found = here.only v (atoms v uv) in
      let a : ℕ = found.0 in
      let ua : drop_to p g u a ≡ true = drop_at p g u a found.1 ∙ (ap u (sym found.2) ∙ uv) in
      let xa : x a ≡ true = sym (f_atoms a found.1) ∙ (ap f (sym found.2) ∙ fv) in
      let some = true_support (drop_to p g u) (x_supports (drop_to p g u) a ua xa) in
      let l : Lit = some.3.0 in
      let member = in_drop p g u some.0 some.2 in
      let listed : IsSomeAnd (supports_of t (atom_var p some.0)) (λ supports. Contains supports l) =
      subst (λ o. IsSomeAnd o (λ supports. Contains supports l)) (sym (here.supports some.0 some.1)) (Contains_from_in l (supports_at p g some.0) some.3.1) in
      (l, (atom_var p some.0, member.1, listed, not_internal u atoms l some.3.3), some.3.2)

  constraints_true : clauses_true f (constraint_clauses p g) ≡ true
  unfolding constraint_clauses
  constraints_true = in_all (clause_true f) (constraint_clauses p g) (λ c i.
      let from = in_map (λ b. opposite b ∷ []) c (bodies_where p g forbids) i in
      let found = in_where p g forbids from.0 from.1 in
      let rule : GroundRule = found.0 in
      let has = Contains_from_in rule g.rules found.1 in
      let none : body_true g x rule.body.0 ≡ false = subst (λ (r : GroundRule). r.head ≡ Nothing → IsFalse (body_true g x r.body.0)) has.2 (answer.constraints has.0 rule has.1) (is_constraint rule.head found.2) in
      ap (clause_true f) from.2 ∙ (or_false (lit_true f (opposite from.0)) ∙ (opposite_true f from.0 ∙ ap not (ap (lit_true f) found.3 ∙ (fit rule found.1 ∙ none)))))
    where
      is_constraint : (h : Head) → forbids h ≡ true → h ≡ Nothing
      is_constraint (One b) e = absurd (false≢true e)
      is_constraint (Choice b) e = absurd (false≢true e)
      is_constraint Nothing e = refl

  pub program_from_answer : IsProgramTrue t p g f
  program_from_answer = record {
    atoms = λ a r. record { forced = forced_true a r; supported = supported_true a r };
    constraints = constraints_true;
    loops = loops_true;
  }

-- ---- an answer set has atoms of the program alone

within_atoms : (g : Parts) (facts x : ℕ → Bool) → IsInRange g → ((a : ℕ) → IsTrue (facts a) → IsNumberOf (length g.atoms) a) → IsAnswerSetWith g facts x → (a : ℕ) → x a ≡ true → IsNumberOf (length g.atoms) a
within_atoms g facts x range small answer a xa = ⊎_elim
    (λ (fact : (c : ℕ) × IsTrue (c == a) × IsTrue (facts c)). subst (IsNumberOf (length g.atoms)) (eqb-true fact.0 a fact.1) (small fact.0 fact.2))
    (λ (some : Any (λ (r : GroundRule). IsTrue (supports g x (λ c. c == a) r)) g.rules).
    let rule : GroundRule = some.1 in
    let both = and_parts (is_external_rule g (λ c. c == a) rule) (body_true g x rule.body.0) some.4 in
    let ext = and_parts (heads_into (λ c. c == a) rule.head) (not (list_any (λ c. c == a) (positives g rule.body.0))) both.0 in
    head_within rule.head (All-in (IsRuleOf (length g.atoms) (length g.bodies)) g.rules range.rules rule (in_from_Contains rule g.rules (some.0, some.2, some.3))).head ext.0)
    (supports_from_answer g facts x (suc (length g.atoms)) (λ c h. let r = small c h in omega (arith, r.1)) answer (λ c. c == a) a (eq-eqb a a refl) xa)
  where
    head_within : (h : Head) → IsHeadOf (length g.atoms) h → heads_into (λ c. c == a) h ≡ true → IsNumberOf (length g.atoms) a
    head_within (One b) r e = subst (IsNumberOf (length g.atoms)) (eqb-true b.0 a e) r
    head_within (Choice b) r e = subst (IsNumberOf (length g.atoms)) (eqb-true b.0 a e) r
    head_within Nothing r e = absurd (false≢true e)

-- so an assignment with its values, cut to the program's atoms, is the answer set again
pub cut_back : (before : ℕ) (g : Parts) (facts x f : ℕ → Bool) → IsInRange g → ((a : ℕ) → IsTrue (facts a) → IsNumberOf (length g.atoms) a) → IsAnswerSetWith g facts x → ((a : ℕ) → IsNumberOf (length g.atoms) a → f (before + a) ≡ x a) → (a : ℕ) → cut before g f a ≡ x a
cut_back before g facts x f range small answer same a = same_truth (cut before g f a) (x a)
    (λ h. let found = in_cut before g f a h in sym (same a found.0) ∙ found.1)
    (λ xa. let r = within_atoms g facts x range small answer a xa in sym (cut_at before g f a r) ∙ (same a r ∙ xa))
