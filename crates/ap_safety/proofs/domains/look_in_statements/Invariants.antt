use Rattle.std.proofs.Common.{◌≡◌, drop, flat_map}
use Rattle.ap_safety.specs.Conditions.{statement_domains}
use Rattle.ap_safety.specs.Tests.{first_domain}
use Rattle.ap_safety.proofs.domains.look_in_statements.Given as goal

abbrev pub invariant-loop-statement : goal.invariant-loop-statement
invariant-loop-statement l = first_domain l.safe l.initial.first (flat_map statement_domains l.statements) ≡ first_domain l.safe l.first (flat_map statement_domains (drop l.statement-index l.statements))
