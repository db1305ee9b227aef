use Rattle.std.proofs.Common.{◌≡◌, []}
use Rattle.theory_build.specs.Completion.{with_entries}
use Rattle.theory_build.proofs.theories.add_entries.Given as goal

abbrev pub invariant-loop-entry : goal.invariant-loop-entry
invariant-loop-entry l = l.t ≡ with_entries l.fn.t l.yielded []
