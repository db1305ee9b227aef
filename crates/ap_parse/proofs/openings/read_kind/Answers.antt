use Rattle.grammar.specs.Takes.{Fails}
use Rattle.literal_parse.proofs.Steps.{exit}
use Rattle.ap_parse.proofs.OpeningLemmas.{name_kind, inner_kind_fails, kind_not_closed, kind_with_inner}
use Rattle.ap_parse.proofs.openings.read_kind.Goals as goal

pub returns-in_err-name-clause-read : goal.returns-in_err-name-clause-read
returns-in_err-name-clause-read c = exit c.in_err-name.ensures.read c.from_residual.ensures.1 (λ f. Fails.call (Fails.first f))

pub returns-in_default-clause-read : goal.returns-in_default-clause-read
returns-in_default-clause-read c = name_kind c.in_ok-name.ensures.read c.in_default.ensures

pub returns-in_err-inner-clause-read : goal.returns-in_err-inner-clause-read
returns-in_err-inner-clause-read c = exit c.in_err-inner.ensures.read c.from_residual-in_err-inner.ensures.1 (inner_kind_fails c.in_ok-name.ensures.read c.in-Some.ensures)

pub returns-in_default-take-clause-read : goal.returns-in_default-take-clause-read
returns-in_default-take-clause-read c = kind_not_closed c.in_ok-name.ensures.read c.in-Some.ensures c.in_ok-inner.ensures.read c.in_default-take.ensures

pub returns-clause-read : goal.returns-clause-read
returns-clause-read c = kind_with_inner c.in_ok-name.ensures.read c.in-Some.ensures c.in_ok-inner.ensures.read c.in-Some-take.ensures c.as_str.ensures c.as_str-2.ensures c.in_ok-kind.ensures
