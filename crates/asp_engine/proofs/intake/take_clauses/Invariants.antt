use Rattle.std.proofs.Common.{◌≡◌, ◌+◌, ◌-◌, ◌≤◌, List, length}
use Rattle.proof_log.specs.declared.steps.Step.{Step}
use Rattle.proof_log.specs.States.{StateView}
use Rattle.asp_engine.specs.Keys.{HasTaken}
use Rattle.asp_engine.proofs.intake.take_clauses.Given as goal

abbrev pub invariant-clauses : goal.invariant-clauses
invariant-clauses l = record {
  next : l.next ≡ length l.t.clauses + 1;
  most : l.taken ≤ length l.t.clauses;
  places : l.store.places ≤ length l.t.variables + 1;
  taken : (steps : List Step) (v : StateView) → HasTaken l.initial.taken l.t steps l.initial.store l.initial.numbers.items v →
      HasTaken l.taken l.t steps l.store l.numbers.items v;
}

abbrev pub decreases-clauses : goal.decreases-clauses
decreases-clauses l = l.next - l.taken
