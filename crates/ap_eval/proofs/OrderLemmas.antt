-- An order of all atoms, each behind those that its rules look at, gives levels in which each rule rises.
use Rattle.std.proofs.Common.{◌≡◌, ◌↔◌, ℕ, ◌+◌, ◌<◌, ◌≤◌, ◌⊎◌, Bool, true, false, List, take, length, get_or, refl, sym, ap, ◌∙◌, subst, arith, nat_lt, Option, Some, None, inl, inr}
use Rattle.std.specs.Prelude.{ℤ, All, Contains, IsTrue, ◌==◌}
use Rattle.std.specs.List.{list_all, position_or_len}
use Rattle.std.proofs.lemmas.Bool.{cases_lt, and_parts, eqb-true, eq-eqb, lt-ltb, false≢true}
use Rattle.std.proofs.lemmas.List.{get_or_default, get_or-take, length-take-le, take_all}
use Rattle.std.proofs.lemmas.List.Sums.{fails_before_first, passes_at_first, list_all-from_AllPass, AllPass-from_list_all}
use Rattle.definite.specs.Rules.{marked}
use Rattle.ground_form.specs.Acyclic.{IsAcyclic, AreBelow, IsGroupBelow, IsBelowIfThere, Rises, atom_of}
use Rattle.ground_form.specs.Programs.{Parts, numbered}
use Rattle.ground_form.specs.Ranges.{IsHeadOf, IsInRange}
use Rattle.ground_form.specs.declared.bodies.Body.{Body}
use Rattle.ground_form.specs.declared.bodies.GuardUse.{GuardUse}
use Rattle.ground_form.specs.declared.groups.Group.{Group}
use Rattle.ground_form.specs.declared.groups.GroupRow.{GroupRow}
use Rattle.ground_form.specs.declared.rules.GroundRule.{GroundRule}
use Rattle.ground_form.specs.declared.rules.Head.{Head}
use Rattle.ground_form.specs.declared.rules.Head.TheVariants.{One, Choice, Nothing}
use Rattle.ap_eval.proofs.AgreementLemmas.{lt_from_true}
use Rattle.ap_eval.proofs.ListLemmas.{or_to}
use Rattle.ap_eval.specs.Looks.{of_literals, of_row, of_guard, of_group, of_body, looks_within, IsOrder}
use Rattle.ap_eval.specs.Supports.{names}

-- ---- what is looked at below a level

module _ (level : ℕ → ℕ) (n : ℕ) where
  low : ℕ → Bool
  low c = nat_lt (level c) n

  literals_high : (lits : List ℤ) → IsTrue (of_literals low lits) → AreBelow level n lits
  unfolding low
  literals_high lits h = λ k d lt. lt_from_true (level (atom_of (get_or lits k d))) n (AllPass-from_list_all (λ l. low (atom_of l)) lits h k d lt)

  group_high : (o : Option Group) → IsTrue (of_group low o) → IsGroupBelow level n o
  group_high None h = tt
  group_high (Some group) h = λ k d lt j e le.
      let row : GroupRow = get_or group.rows k d in
      literals_high (get_or row.conditions j e) (AllPass-from_list_all (of_literals low) row.conditions (AllPass-from_list_all (of_row low) group.rows h k d lt) j e le)

  body_high : (groups : List Group) (o : Option Body) → IsTrue (of_body groups low o) → IsBelowIfThere groups level n o
  body_high groups None h = tt
  body_high groups (Some body) h =
      let parts = and_parts (of_literals low body.lits) (list_all (of_guard groups low) body.guards) h in
      record {
        lits = literals_high body.lits parts.0;
        guards = λ k d lt. group_high (numbered groups (get_or body.guards k d).group) (AllPass-from_list_all (of_guard groups low) body.guards parts.1 k d lt);
      }

-- ---- places in an order

module _ (order : List ℕ) where
  place : ℕ → ℕ
  place a = position_or_len (λ b. b == a) order

  place_first : (a j d : ℕ) → get_or order j d ≡ a → place a ≤ j
  unfolding place
  place_first a j d e = elim (cases_lt j (place a)) [
    | inl lt ↦ absurd (false≢true (sym (fails_before_first (λ b. b == a) order j d lt) ∙ eq-eqb (get_or order j d) a e))
    | inr le ↦ le
  ]

  place_within : (a : ℕ) → Contains order a → place a < length order
  place_within a h = let first = place_first a h.0 a h.2 in let lt = h.1 in omega arith

  at_place : (a : ℕ) → Contains order a → get_or order (place a) 0 ≡ a
  unfolding place
  at_place a h = eqb-true (get_or order (place a) 0) a (passes_at_first (λ b. b == a) order 0 (place_within a h))

module _ (g : Parts) (range : IsInRange g) (order : List ℕ) (is : IsOrder g order) (whole : (a : ℕ) → a < length g.atoms + 1 → Contains order a) where
  taken_short : (i k : ℕ) → (i < length order) ⊎ (length order ≤ i) → k < length (take i order) → k < i
  taken_short i k (inl le) lt = let size = length-take-le i order (omega arith) in omega arith
  taken_short i k (inr le) lt = let size = ap length (take_all i order le) in omega arith

  before : (i : ℕ) → All (λ c. IsTrue (low (place order) i c)) (take i order)
  unfolding low
  before i = λ k d lt.
      let short : k < i = taken_short i k (cases_lt i (length order)) lt in
      let first = place_first order (get_or (take i order) k d) k d (sym (get_or-take i order k d short)) in
      lt-ltb (place order (get_or (take i order) k d)) i (omega arith)

  looked_low : (a : ℕ) → Contains order a → IsTrue (list_all (looks_within g (low (place order) (place order a)) a) g.rules)
  looked_low a h = subst (λ c. IsTrue (list_all (looks_within g (low (place order) (place order a)) c) g.rules)) (at_place order a h)
      (is.before (place order a) (place_within order a h) (low (place order) (place order a)) (before (place order a)))

  rises : (rule : GroundRule) (head : Head) → rule.head ≡ head → IsHeadOf (length g.atoms) head
      → ((a : ℕ) → Contains order a → IsTrue (looks_within g (low (place order) (place order a)) a rule)) → Rises g (place order) head rule.body.0
  rises rule (One a) e h looked =
      let le = h.1 in
      body_high (place order) (place order a.0) g.groups (numbered g.bodies rule.body.0)
      (or_to (names a.0 rule.head) _ (looked a.0 (whole a.0 (omega arith))) (ap (names a.0) e ∙ eq-eqb a.0 a.0 refl))
  rises rule (Choice a) e h looked =
      let le = h.1 in
      body_high (place order) (place order a.0) g.groups (numbered g.bodies rule.body.0)
      (or_to (names a.0 rule.head) _ (looked a.0 (whole a.0 (omega arith))) (ap (names a.0) e ∙ eq-eqb a.0 a.0 refl))
  rises rule Nothing e h looked = tt

  pub order_acyclic : IsAcyclic g
  order_acyclic = (
    place order,
    λ k d lt.
        let rule : GroundRule = get_or g.rules k d in
        rises rule rule.head refl (range.rules k d lt).head (λ a h.
        AllPass-from_list_all (looks_within g (low (place order) (place order a)) a) g.rules (looked_low a h) k d lt),
  )

-- ---- the answer

pub acyclic_by_marks : (g : Parts) (marks : List Bool) (order : List ℕ) → IsInRange g → IsOrder g order → ((a : ℕ) → IsTrue (marked marks a) ↔ Contains order a)
    → length marks ≡ length g.atoms + 1 → IsTrue (list_all (λ mark. mark) marks) ↔ IsAcyclic g
acyclic_by_marks g marks order range is same size = (
  λ h. order_acyclic g range order is (λ a lt. (same a).0 (AllPass-from_list_all (λ mark. mark) marks h a false (omega arith))),
  λ acyclic. list_all-from_AllPass (λ mark. mark) marks (λ k d lt.
      subst (λ b. IsTrue b) (sym (get_or_default marks k d false lt)) ((same k).1 (is.whole acyclic k (omega arith)))),
)
