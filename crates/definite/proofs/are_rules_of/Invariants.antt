use Rattle.std.proofs.Common.{take}
use Rattle.std.specs.Prelude.{All}
use Rattle.definite.specs.Rules.{IsRuleOf}
use Rattle.definite.proofs.are_rules_of.Given as goal

abbrev pub invariant-loop-rule : goal.invariant-loop-rule
invariant-loop-rule l = All (IsRuleOf l.atoms) (take l.rule-index l.rules)
