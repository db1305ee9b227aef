-- The working tables of a state: marks and values by variable, all of them clear between the calls.
use Rattle.std.specs.Prelude.{◌≡◌, ℕ, ◌⊎◌, Bool, List, length, Option, Some, None, IsTrue, IsFalse, IfSome}
use Rattle.std.specs.List.{All}
use Rattle.theory_form.specs.declared.literals.ClauseId.{ClauseId}
use Rattle.theory_form.specs.declared.literals.Lit.{Lit}
use Rattle.theory_form.specs.Truth.{value_of, IsFalseClause, IsUnitBy}
use Rattle.loop_nogoods.specs.Marks.{marked}
use Rattle.proof_log.specs.declared.hints.Hint.{Hint}
use Rattle.proof_log.specs.declared.hints.Hint.TheVariants.{Refuted, Forces, Neither}

-- no variable is marked
abbrev pub AreUnmarked : List Bool → Type 0
AreUnmarked marks = (v : ℕ) → IsFalse (marked marks v)

-- no variable has a value
abbrev pub AreFree : List (Option Bool) → Type 0
AreFree values = (v : ℕ) → value_of values v ≡ None

-- both
pub record AreClear (marks : List Bool) (values : List (Option Bool)) : Type 0 where
  pub unmarked : AreUnmarked marks
  pub free : AreFree values

-- both say the same of every variable
abbrev pub AreSame : List (Option Bool) → List (Option Bool) → Type 0
AreSame a b = (v : ℕ) → value_of a v ≡ value_of b v

-- only variables of this set have values
abbrev pub HasValuesIn : (ℕ → Bool) → List (Option Bool) → Type 0
HasValuesIn set a = (v : ℕ) → (value_of a v ≡ None) ⊎ IsTrue (set v)

-- the variables of the literals are of this set; and so are those of the clauses of the hints
abbrev pub AreOver : (ℕ → Bool) → List Lit → Type 0
AreOver set lits = All (λ l. IsTrue (set l.var.0)) lits

abbrev pub HintsAreOver : (ℕ → Bool) → (ℕ → Option (List Lit)) → List ClauseId → Type 0
HintsAreOver set look hints = All (λ h. IfSome (look h.0) (AreOver set)) hints

-- no variable of the literals has a value; and no variable of the clauses of the hints has
abbrev pub LitsAreFree : List (Option Bool) → List Lit → Type 0
LitsAreFree a lits = All (λ l. value_of a l.var.0 ≡ None) lits

abbrev pub HintsAreFree : (ℕ → Option (List Lit)) → List (Option Bool) → List ClauseId → Type 0
HintsAreFree look a hints = All (λ h. IfSome (look h.0) (LitsAreFree a)) hints

-- values were taken away, and nothing else
pub record Frees (old new : List (Option Bool)) : Type 0 where
  pub size : length new ≡ length old
  pub keeps : (v : ℕ) → value_of old v ≡ None → value_of new v ≡ None

-- this is what the clause of a number is under the assignment
abbrev pub IsHint : (ℕ → Option (List Lit)) → List (Option Bool) → ℕ → Hint → Type 0
IsHint look a id Refuted = (c : List Lit) × (look id ≡ Some c) × IsFalseClause a c
IsHint look a id (Forces l) = (c : List Lit) × (look id ≡ Some c) × IsUnitBy a c l
IsHint look a id Neither = (c : List Lit) → look id ≡ Some c → (IsFalseClause a c → ⊥) × ((l : Lit) → IsUnitBy a c l → ⊥)
