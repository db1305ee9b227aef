-- The list of what is left, and what is known of it.
use Rattle.std.proofs.Common.{◌≡◌, ℕ, ◌<◌, Bool, not, Option, Some, None, List, [], ◌∷◌, length, refl, sym, subst, arith}
use mathlib.Core.Path.{fun_ext}
use Rattle.std.specs.Prelude.{IsTrue, filter, IfNone, ◌==◌}
use Rattle.std.specs.Cmp.{both_ways}
use Rattle.std.proofs.lemmas.Bool.{and_parts, eq-eqb, false≢true, or_left}
use Rattle.std.proofs.lemmas.List.Kept.{AllPairs-filter}
use Rattle.std.specs.List.{Contains}
use Rattle.theory_form.specs.declared.literals.Var.{Var}
use Rattle.theory_form.specs.Theories.{TheoryView, AreAtoms}
use Rattle.theory_model.specs.Loops.{IsExternal}
use Rattle.loop_nogoods.specs.declared.founding.Founding.{Founding}
use Rattle.loop_nogoods.specs.Founding.{IsFinished, unfounded_in}
use Rattle.loop_nogoods.specs.Marks.{marked}
use Rattle.loop_nogoods.specs.Sets.{AreAscending, has}
use Rattle.loop_nogoods.specs.Unfounded.{IsUnfounded}
use Rattle.loop_nogoods.proofs.MemberLemmas.{Contains-filter, Contains-from_filter, Contains-from_has, has-from_Contains}

-- a member of a list
first_of : (vars : List Var) → 0 < length vars → (v : ℕ) × IsTrue (has vars v)
first_of [] lt = let none : 0 < 0 = lt in absurd (omega arith)
first_of (x ∷ vars) lt = (x.0, or_left (x.0 == x.0) (has vars x.0) (eq-eqb x.0 x.0 refl))

module _ (t : TheoryView) (block : ℕ) (a : List (Option Bool)) (s : Founding) (done : IsFinished t block a s) (atoms : List Var) (are : AreAtoms t block atoms) (vars : List Var) (filtered : vars ≡ filter (λ (v : Var). unfounded_in s v.0) atoms) where
  listed_one : (v : ℕ) → IsTrue (has vars v) → IsTrue (unfounded_in s v)
  listed_one v h =
      (Contains-from_filter (λ (w : Var). unfounded_in s w.0) atoms (record { 0 = v }) (subst (λ (xs : List Var). Contains xs (record { 0 = v })) filtered (Contains-from_has vars v h))).1

  one_listed : (v : ℕ) → IsTrue (unfounded_in s v) → IsTrue (has vars v)
  one_listed v h =
      let atom = (done.atoms_are v).0 (and_parts (marked s.atoms v) (not (marked s.founded v)) h).0 in
      has-from_Contains vars (record { 0 = v }) (subst (λ (xs : List Var). Contains xs (record { 0 = v })) (sym filtered)
      (Contains-filter (λ (w : Var). unfounded_in s w.0) atoms (record { 0 = v }) ((are.members (record { 0 = v })).1 atom.0) h))

  same_set : has vars ≡ unfounded_in s
  same_set = fun_ext (λ v. both_ways (has vars v) (unfounded_in s v) (listed_one v) (one_listed v))

  pub listed_ascending : AreAscending vars
  listed_ascending = subst AreAscending (sym filtered) (AllPairs-filter (λ (v w : Var). v.0 < w.0) (λ (w : Var). unfounded_in s w.0) atoms are.ascending)

  listed_atom : (v : ℕ) → IsTrue (has vars v) → IsTrue (marked s.atoms v)
  listed_atom v h = (and_parts (marked s.atoms v) (not (marked s.founded v)) (listed_one v h)).0

  pub listed_unfounded : 0 < length vars → IsUnfounded t block a (has vars)
  listed_unfounded some = record {
    some = first_of vars some;
    atoms = λ v h. ((done.atoms_are v).0 (listed_atom v h)).0;
    not_false = λ v h. ((done.atoms_are v).0 (listed_atom v h)).1;
    supports = λ l e. done.supports l (subst (λ (u : ℕ → Bool). IsExternal t u l) same_set e);
  }

  pub none_unfounded : vars ≡ [] → (u : ℕ → Bool) → IsUnfounded t block a u → ⊥
  none_unfounded none u unfounded =
      let v = unfounded.some.0 in
      let here = done.greatest u unfounded v unfounded.some.1 in
      let listed = subst (λ (m : ℕ → Bool). IsTrue (m v)) (sym same_set) here in
      false≢true (subst (λ (vs : List Var). IsTrue (has vs v)) none listed)

pub IfNone_then : {X : Type 0} (r : Option X) {P Q : Type 0} → IfNone r P → (P → Q) → IfNone r Q
IfNone_then None h f = f h
IfNone_then (Some x) h f = h
