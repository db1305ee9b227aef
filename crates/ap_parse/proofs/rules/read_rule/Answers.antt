use Rattle.grammar.specs.Takes.{Fails}
use Rattle.literal_parse.proofs.Steps.{exit}
use Rattle.ap_parse.proofs.RuleLemmas.{constraint_rule, head_fails, headed_rule, atom_rule}
use Rattle.ap_parse.proofs.rules.read_rule.Goals as goal

pub returns-in_err-atom-clause-read : goal.returns-in_err-atom-clause-read
returns-in_err-atom-clause-read c = rw c.if-of_type.true (exit c.in_err-atom.ensures.read c.from_residual.ensures.1 (λ f. Fails.call (Fails.first f)))

pub returns-then-of_type-clause-read : goal.returns-then-of_type-clause-read
returns-then-of_type-clause-read c = rw c.if-of_type.true (atom_rule c.place-place.result c.place-place.ensures c.in_ok-atom.ensures.read c.read_rest.ensures.read)

pub returns-then-not-begins_head-clause-read : goal.returns-then-not-begins_head-clause-read
returns-then-not-begins_head-clause-read c = rw c.if-of_type.false (constraint_rule c.if-not-begins_head.ensures c.read_constraint.ensures.read)

pub returns-in_err-head-clause-read : goal.returns-in_err-head-clause-read
returns-in_err-head-clause-read c = rw c.if-of_type.false (exit c.in_err-head.ensures.read c.from_residual-in_err-head.ensures.1 (head_fails c.if-not-begins_head.ensures))

pub returns-clause-read : goal.returns-clause-read
returns-clause-read c = rw c.if-of_type.false (headed_rule c.place-place.result c.place-place.ensures c.if-not-begins_head.ensures c.in_ok-head.ensures.read c.read_rest-2.ensures.read)
