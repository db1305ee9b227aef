use Rattle.std.proofs.Common.{◌≡◌, ◌≤◌, ◌<◌, ◌-◌}
use Rattle.asp_engine.specs.Answers.{IsOpen, Spends, left_of, weight}
use Rattle.asp_engine.specs.Moves.{held_by}
use Rattle.asp_engine.proofs.searching.search_on.Given as goal

abbrev pub invariant-search : goal.invariant-search
invariant-search l = record {
  is_open : IsOpen l.e l.assume;
  spends : Spends (held_by l.others) l.initial.e l.e l.initial.period l.period l.initial.budget.left l.budget.left;
  start : l.start ≡ l.initial.budget.left;
  within : l.budget.left ≤ l.start;
  below : 0 < left_of l.quota (l.start - l.budget.left);
}

abbrev pub decreases-search : goal.decreases-search
decreases-search l = weight l.e l.budget.left
