use Rattle.std.proofs.Common.{◌≡◌, ℕ}
use Rattle.components.specs.declared.search.Status.TheVariants.{New}
use Rattle.components.specs.Searches.{IsSearch, status_of, weight}
use Rattle.components.proofs.search.empty_stack.Given as goal

abbrev pub invariant-loop-top : goal.invariant-loop-top
invariant-loop-top l = record {
  search : IsSearch l.successors l.search;
  kept : (v : ℕ) → status_of l.search.statuses v ≡ New → status_of l.fn.search.statuses v ≡ New;
}

abbrev pub decreases-loop-top : goal.decreases-loop-top
decreases-loop-top l = weight l.search
