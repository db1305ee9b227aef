-- The ends of a row's sum that are kept while variables get and lose values.
use Rattle.std.specs.Prelude.{◌≡◌, ◌≤◌, ℕ, ℤ, unsigned_abs, Bool, if◌then◌else◌, ◌==◌, pos, List, slice_index_or, All, Option}
use Rattle.theory_form.specs.declared.literals.Var.{Var}
use Rattle.theory_form.specs.declared.rows.SumRow.{SumRow}
use Rattle.agg_nogoods.specs.Ends.{least_end, greatest_end}
use Rattle.agg_nogoods.specs.declared.kept.RowEnds.{RowEnds}

-- the same values, but for one variable, which has this value or none
abbrev pub with_value : (ℕ → Option Bool) → ℕ → Option Bool → ℕ → Option Bool
with_value known v o u = if u == v then o else known u

-- these are the ends of the row's sum by what is known, and no weight is further from 0 than the heaviest
pub record AreEndsOf (known : ℕ → Option Bool) (row : SumRow) (ends : RowEnds) : Type 0 where
  pub least : ends.least ≡ least_end known row.terms
  pub greatest : ends.greatest ≡ greatest_end known row.terms
  pub heaviest : All (λ t. unsigned_abs t.0 ≤ ends.heaviest) row.terms

-- the number of the variable of the term at a place
abbrev pub variable_of : List (ℤ × Var) → ℕ → ℕ
variable_of terms i = (slice_index_or terms i (pos 0, record { 0 = 0 })).1.0
