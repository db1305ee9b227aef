use Rattle.std.proofs.Common.{◌≡◌, ◌≤◌, ℕ, Some, None}
use Rattle.theory_form.specs.declared.rows.SumRow.{SumRow}
use Rattle.theory_form.specs.Theories.{row_of}
use Rattle.agg_nogoods.specs.Implied.{IsAnswer}
use Rattle.asp_engine.proofs.sums.find_sum.Given as goal

abbrev pub invariant-loop-number : goal.invariant-loop-number
invariant-loop-number l = (v : ℕ) (row : SumRow) → v ≤ l.number → row_of l.t v ≡ Some row → IsAnswer row l.a None
