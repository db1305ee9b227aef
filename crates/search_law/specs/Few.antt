-- Clauses over few variables.
use Rattle.std.specs.Prelude.{◌≢◌, ℕ, List}
use Rattle.std.specs.List.{AllPairs, Contains}
use Rattle.theory_form.specs.declared.literals.Lit.{Lit}
use Rattle.theory_form.specs.Literals.{IsAscending, opposite}
use Rattle.theory_model.specs.Whole.{AreOver}

-- it ascends without repeats, holds no literal beside its opposite, and is over the first n variables
pub record IsPlainClause (n : ℕ) (c : List Lit) : Type 0 where
  pub ascending : IsAscending c
  pub consistent : (l : Lit) → Contains c l → Contains c (opposite l) → ⊥
  pub over : AreOver n c

-- no two of them are equal
abbrev pub AreDifferent : List (List Lit) → Type 0
AreDifferent cs = AllPairs (λ c d. c ≢ d) cs
