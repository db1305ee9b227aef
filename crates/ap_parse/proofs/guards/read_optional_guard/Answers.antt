use Rattle.grammar.specs.Takes.{Fails}
use Rattle.literal_parse.proofs.Steps.{exit}
use Rattle.ap_parse.proofs.GuardLemmas.{guard_absent, guard_present}
use Rattle.ap_parse.proofs.guards.read_optional_guard.Goals as goal

pub returns-then-not-begins_guard-clause-read : goal.returns-then-not-begins_guard-clause-read
returns-then-not-begins_guard-clause-read c = guard_absent c.if-not-begins_guard.ensures

pub returns-in_err-guard-clause-read : goal.returns-in_err-guard-clause-read
returns-in_err-guard-clause-read c = exit c.in_err-guard.ensures.read c.from_residual.ensures.1 (λ f. Fails.left c.if-not-begins_guard.ensures f)

pub returns-clause-read : goal.returns-clause-read
returns-clause-read c = rw c.in_ok-new.ensures (guard_present c.if-not-begins_guard.ensures c.in_ok-guard.ensures.read)
