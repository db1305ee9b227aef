use Rattle.std.proofs.Common.{take}
use Rattle.std.specs.Prelude.{◌==◌, ◌&&◌}
use Rattle.std.specs.List.{list_any}
use Rattle.ground_form.specs.declared.bodies.GuardUse.{GuardUse}
use Rattle.theory_build.specs.Marks.{Marks}
use Rattle.theory_build.proofs.groups.mark_groups.Given as goal

abbrev pub invariant-loop-guard : goal.invariant-loop-guard
invariant-loop-guard l = Marks l.fn.marks l.marks (λ k. list_any (λ (guard : GuardUse). guard.group == k && guard.guard == 2) (take l.guard-index l.guard-items))
