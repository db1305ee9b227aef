use Rattle.std.proofs.Common.{take}
use Rattle.std.specs.Prelude.{◌&&◌}
use Rattle.std.specs.List.{list_any}
use Rattle.theory_form.specs.declared.literals.Lit.{Lit}
use Rattle.theory_form.specs.Order.{lit_eq}
use Rattle.loop_nogoods.specs.Bodies.{is_variable}
use Rattle.loop_nogoods.specs.Marks.{Written}
use Rattle.loop_nogoods.proofs.marking.write_lits.Given as goal

abbrev pub invariant-loop-l : goal.invariant-loop-l
invariant-loop-l l =
    Written (λ v. is_variable l.t v && list_any (λ (s : Lit). lit_eq s (record { var = record { 0 = v }; yes = l.yes })) (take l.l-index l.lits)) l.value l.fn.marks l.marks
