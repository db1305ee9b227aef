-- Truth of literals, clauses and sums where every variable has a truth value. The values are given by a test of
-- variables.
use Rattle.std.specs.Prelude.{ℕ, ℤ, pos, ◌+ℤ◌, ◌≤ℤ◌, Bool, if◌then◌else◌, List, fold, IsTrue, ◌↔◌}
use Rattle.std.specs.List.{list_all, list_any}
use Rattle.std.specs.Bool.{beq}
use Rattle.theory_form.specs.declared.literals.Lit.{Lit}
use Rattle.theory_form.specs.declared.literals.Var.{Var}
use Rattle.theory_form.specs.declared.rows.SumRow.{SumRow}

abbrev pub literal_true : (ℕ → Bool) → Lit → Bool
literal_true f l = beq (f l.var.0) l.yes

-- one of its literals is true
abbrev pub clause_true : (ℕ → Bool) → List Lit → Bool
clause_true f c = list_any (literal_true f) c

-- all of its literals are true
abbrev pub conjunction_true : (ℕ → Bool) → List Lit → Bool
conjunction_true f lits = list_all (literal_true f) lits

-- the sum of the weights whose variables are true
abbrev pub sum_true : (ℕ → Bool) → List (ℤ × Var) → ℤ
sum_true f terms = fold (λ sum t. sum +ℤ (if f t.1.0 then t.0 else pos 0)) (pos 0) terms

-- the variable of the row is true exactly where the sum reaches the bound
abbrev pub IsRowTrue : (ℕ → Bool) → SumRow → Type 0
IsRowTrue f row = IsTrue (f row.var.0) ↔ (row.bound ≤ℤ sum_true f row.terms)
