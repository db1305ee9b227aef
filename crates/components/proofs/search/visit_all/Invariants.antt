use Rattle.components.specs.Searches.{AllMet, IsRun}
use Rattle.components.proofs.search.visit_all.Given as goal

abbrev pub invariant-loop-node : goal.invariant-loop-node
invariant-loop-node l = record {
  run : IsRun l.successors l.fn.search l.search;
  met : AllMet l.node l.search.statuses;
}
