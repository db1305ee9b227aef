use Rattle.std.proofs.Common.{◌≡◌, drop, flat_map}
use Rattle.ap_safety.specs.Conditions.{rule_domains}
use Rattle.ap_safety.specs.Tests.{first_domain}
use Rattle.ap_safety.proofs.domains.look_in_rules.Given as goal

abbrev pub invariant-loop-rule : goal.invariant-loop-rule
invariant-loop-rule l = first_domain l.safe l.initial.first (flat_map rule_domains l.rules) ≡ first_domain l.safe l.first (flat_map rule_domains (drop l.rule-index l.rules))
