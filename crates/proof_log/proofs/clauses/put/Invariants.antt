use Rattle.std.proofs.Common.{◌≡◌, ◌+◌, ◌-◌, ◌<◌, length, vec_capacity, None}
use Rattle.theory_form.specs.Numbers.{grown}
use Rattle.proof_log.proofs.clauses.put.Given as goal

abbrev pub invariant-loop-added : goal.invariant-loop-added
invariant-loop-added l = record {
  same : grown l.added.items (l.place + 1) None ≡ grown l.initial.added.items (l.place + 1) None;
  room : l.place < vec_capacity l.added;
}

abbrev pub decreases-loop-added : goal.decreases-loop-added
decreases-loop-added l = (l.place + 1) - length l.added.items
