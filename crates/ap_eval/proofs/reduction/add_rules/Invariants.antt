use Rattle.std.proofs.Common.{◌≡◌, ℕ, ◌+◌, length, take}
use Rattle.std.specs.Prelude.{All}
use Rattle.definite.specs.Rules.{marked}
use Rattle.ground_form.specs.Ranges.{IsRuleOf}
use Rattle.ap_eval.specs.Reductions.{AddsRules}
use Rattle.ap_eval.proofs.reduction.add_rules.Given as goal

abbrev pub invariant-loop-rule : goal.invariant-loop-rule
invariant-loop-rule l = (atoms : ℕ) → All (IsRuleOf atoms (length l.fn.rules)) l.program → AddsRules l.kept (marked l.x) (atoms + 1) l.fn.rules l.rules (take l.rule-index l.program)
