use Rattle.std.proofs.Common.{◌≡◌, ◌++◌, not, take}
use Rattle.std.specs.Prelude.{filter}
use Rattle.theory_model.specs.Loops.{is_internal}
use Rattle.loop_nogoods.specs.Bodies.{marked_set}
use Rattle.loop_nogoods.proofs.externals.add_external.Given as goal

abbrev pub invariant-loop-support : goal.invariant-loop-support
invariant-loop-support l =
    l.found.items ≡ l.fn.found.items ++ filter (λ s. not (is_internal l.t (marked_set l.t l.marks) s)) (take l.support-index l.supports)
