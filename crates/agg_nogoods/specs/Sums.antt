-- The sums that a row can have where a clause is false.
use Rattle.std.specs.Prelude.{◌≡◌, ℕ, ℤ, ◌≤ℤ◌, Bool, List, IsFalse}
use Rattle.theory_form.specs.declared.literals.Lit.{Lit}
use Rattle.theory_form.specs.declared.literals.Var.{Var}
use Rattle.theory_model.specs.Truth.{clause_true, sum_true}

-- the terms have this sum for some values of the variables for which the clause is false
abbrev pub IsSum : List Lit → List (ℤ × Var) → ℤ → Type 0
IsSum c terms n = (f : ℕ → Bool) × IsFalse (clause_true f c) × (sum_true f terms ≡ n)

-- the greatest of these sums, and the least
pub record IsGreatestSum (c : List Lit) (terms : List (ℤ × Var)) (n : ℤ) : Type 0 where
  pub reached : IsSum c terms n
  pub greatest : (m : ℤ) → IsSum c terms m → m ≤ℤ n

pub record IsLeastSum (c : List Lit) (terms : List (ℤ × Var)) (n : ℤ) : Type 0 where
  pub reached : IsSum c terms n
  pub least : (m : ℤ) → IsSum c terms m → n ≤ℤ m
