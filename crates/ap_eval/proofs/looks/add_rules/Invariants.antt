use Rattle.std.proofs.Common.{take}
use Rattle.ap_eval.specs.Looks.{AddsRules}
use Rattle.ap_eval.proofs.looks.add_rules.Given as goal

abbrev pub invariant-loop-rule : goal.invariant-loop-rule
invariant-loop-rule l = AddsRules l.g l.fn.looks l.looks (take l.rule-index l.program)
