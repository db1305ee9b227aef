use Rattle.std.proofs.Common.{take}
use Rattle.std.specs.Prelude.{◌&&◌}
use Rattle.loop_nogoods.specs.Bodies.{is_support, is_variable}
use Rattle.loop_nogoods.specs.Marks.{Written}
use Rattle.loop_nogoods.proofs.marking.write_supports.Given as goal

abbrev pub invariant-loop-v : goal.invariant-loop-v
invariant-loop-v l =
    Written (λ v. is_variable l.t v && is_support l.t (take l.v-index l.u) (record { var = record { 0 = v }; yes = l.yes })) l.value l.fn.marks l.marks
