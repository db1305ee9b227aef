use Rattle.std.proofs.Common.{take, length}
use Rattle.std.specs.Prelude.{◌==◌}
use Rattle.std.specs.List.{list_any}
use Rattle.ground_form.specs.declared.rules.GroundRule.{GroundRule}
use Rattle.theory_build.specs.Marks.{AreMarks}
use Rattle.theory_build.proofs.bodies.marks_of_used.Given as goal

abbrev pub invariant-loop-rule : goal.invariant-loop-rule
invariant-loop-rule l = AreMarks (length l.g.bodies) (λ b. list_any (λ (rule : GroundRule). rule.body.0 == b) (take l.rule-index l.rule-items)) l.marks.items
