use Rattle.std.proofs.Common.{◌≡◌, drop, None}
use Rattle.ap_safety.specs.Tests.{first_rule}
use Rattle.ap_safety.proofs.faults.look_in_rules.Given as goal

abbrev pub invariant-loop-rule : goal.invariant-loop-rule
invariant-loop-rule l = first_rule l.fault l.safe None l.rules ≡ first_rule l.fault l.safe l.found (drop l.rule-index l.rules)
