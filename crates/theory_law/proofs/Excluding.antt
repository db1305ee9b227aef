-- A theory in which a set is excluded.
use Rattle.std.proofs.Common.{◌≡◌, ℕ, zero, suc, ◌+◌, ◌<◌, ◌≤◌, Bool, true, false, not, ◌&&◌, ◌||◌, List, [], ◌∷◌, map, length, refl, sym, ap, ◌∙◌, Option, Some, append-nil, arith}
use Rattle.std.specs.Prelude.{IfSome}
use Rattle.std.specs.Bool.{beq}
use Rattle.std.specs.List.{list_all, range_with_len}
use Rattle.std.proofs.lemmas.List.Elements.{All-from_recursion}
use Rattle.theory_form.specs.declared.literals.Lit.{Lit}
use Rattle.theory_form.specs.Theories.{TheoryView, Extends}
use Rattle.theory_model.specs.Truth.{clause_true}
use Rattle.theory_model.specs.Models.{IsModel}
use Rattle.theory_model.specs.Whole.{AreOver}
use Rattle.ground_form.specs.declared.atoms.AtomId.{AtomId}
use Rattle.ground_form.specs.Programs.{Parts}
use Rattle.ground_form.specs.Sets.{has}
use Rattle.theory_build.specs.Entries.{no}
use Rattle.theory_build.specs.Completion.{base_atoms}
use Rattle.theory_build.specs.Exclusion.{exclusion, differs_at, search_var}
use Rattle.theory_law.specs.Excluding.{is_as, with_exclusion}
use Rattle.theory_law.specs.Growth.{IsMore}
use Rattle.theory_law.specs.Standing.{StandsOn, has_base}
use Rattle.theory_law.proofs.Clauses.{clause_same, beq_no}
use Rattle.theory_law.proofs.Entries.{AreBefore, ascending_before}
use Rattle.theory_law.proofs.PlainLemmas.{more_extends, more_model, more_slots}
use Rattle.theory_law.proofs.Standing.{atom_low, more_stands, search_low}
use Rattle.theory_law.proofs.Truths.{base_atoms_is}
use Rattle.theory_law.proofs.Wholes.{over_from_before}

-- some atom is not as in the set
differ_true : (f : ℕ → Bool) (set : List AtomId) (v n : ℕ) → clause_true f (map (differs_at set) (range_with_len v n)) ≡ not (list_all (λ a. beq (f a) (has set a)) (range_with_len v n))
differ_true f set v zero = refl
differ_true f set v (suc n) = one (f v) (has set v) _ _ (differ_true f set (v + 1) n)
  where
    one : (p q r s : Bool) → r ≡ not s → (beq p (not q) || r) ≡ not (beq p q && s)
    one true true r s e = e
    one true false r s e = refl
    one false true r s e = refl
    one false false r s e = e

differ_before : (n : ℕ) (set : List AtomId) (v k : ℕ) → 0 < v → v + k ≤ n → AreBefore n (map (differs_at set) (range_with_len v k))
differ_before n set v zero some le = tt
differ_before n set v (suc k) some le = let within : v + suc k ≤ n = le in (record { some = some; below = omega arith }, differ_before n set (v + 1) k (omega arith) (omega arith))

module _ (g : Parts) (t : TheoryView) (set : List AtomId) (stands : StandsOn g t) where
  abbrev slots : List (Option (List Lit))
  slots = Some (exclusion t set) ∷ []

  atoms_are : base_atoms t ≡ length g.atoms
  atoms_are = base_atoms_is t (has_base g t stands)

  low : AreBefore (length t.variables + 1) (exclusion t set)
  unfolding exclusion
  low =
      let n : ℕ = length t.variables + 1 in
      let range = search_low g t stands in
      ascending_before n (no (search_var t) ∷ map (differs_at set) (range_with_len 1 (base_atoms t)))
      (record { some = range.0; below = omega (arith, range.1) }, differ_before n set 1 (base_atoms t) (omega arith) (within (length g.atoms) refl))
    where
      within : (k : ℕ) → length g.atoms ≡ k → 1 + base_atoms t ≤ length t.variables + 1
      within zero e = omega (arith, atoms_are, e)
      within (suc k) e = let r = atom_low g t stands (length g.atoms) (omega (arith, e), omega arith) in omega (arith, r.1, atoms_are)

  more : IsMore t (with_exclusion t set) [] slots
  unfolding with_exclusion
  more = record {
    variables = sym (append-nil t.variables);
    clauses = refl;
    blocks = refl;
    plain = λ k d within. absurd (omega arith);
    over = All-from_recursion (λ (slot : Option (List Lit)). IfSome slot (AreOver (length t.variables))) slots (over_from_before (length t.variables) (exclusion t set) low, tt);
  }

  pub exclusion_extends : Extends t (with_exclusion t set)
  exclusion_extends = more_extends t (with_exclusion t set) [] slots more

  pub exclusion_stands : StandsOn g (with_exclusion t set)
  exclusion_stands = more_stands g t (with_exclusion t set) [] slots stands more

  exclusion_says : (f : ℕ → Bool) → clause_true f (exclusion t set) ≡ (not (f (search_var t)) || not (is_as (length g.atoms) f set))
  unfolding exclusion
  exclusion_says f =
      clause_same f (no (search_var t) ∷ map (differs_at set) (range_with_len 1 (base_atoms t)))
      ∙ (ap (λ b. b || clause_true f (map (differs_at set) (range_with_len 1 (base_atoms t)))) (beq_no (f (search_var t)))
      ∙ (ap (λ b. not (f (search_var t)) || b) (differ_true f set 1 (base_atoms t))
      ∙ ap (λ n. not (f (search_var t)) || not (list_all (λ a. beq (f a) (has set a)) (range_with_len 1 n))) atoms_are))

  pub exclusion_guards : (f : ℕ → Bool) → IsModel (with_exclusion t set) f → f (search_var t) ≡ true → is_as (length g.atoms) f set ≡ false
  exclusion_guards f model e =
      let true_slots = more_slots t (with_exclusion t set) [] slots more f model in
      only (is_as (length g.atoms) f set) (sym (ap (λ b. not b || not (is_as (length g.atoms) f set)) e) ∙ (sym (exclusion_says f) ∙ true_slots.0))
    where
      only : (b : Bool) → (not true || not b) ≡ true → b ≡ false
      only true h = sym h
      only false h = refl

  pub exclusion_carries : (f : ℕ → Bool) → IsModel t f → (f (search_var t) ≡ true → is_as (length g.atoms) f set ≡ false) → IsModel (with_exclusion t set) f
  exclusion_carries f model allowed =
      more_model t (with_exclusion t set) [] slots more stands.whole f model
      (exclusion_says f ∙ when (f (search_var t)) (is_as (length g.atoms) f set) allowed, tt)
    where
      when : (s b : Bool) → (s ≡ true → b ≡ false) → (not s || not b) ≡ true
      when true b k = ap not (k refl)
      when false b k = refl
