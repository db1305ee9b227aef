use Rattle.std.proofs.Common.{rules, arith}
use Rattle.std.proofs.lemmas.Grind.{common_steps}
use Rattle.std.proofs.lemmas.Result.{err_from_is_err_and}
use Rattle.ap_base.proofs.Steps.{all_fit, held_at, read_more, fault_cause, fault_before}
use Rattle.ap_base.proofs.reading.read_all.Goals as goal

pub loop-at-preserved : goal.loop-at-preserved
loop-at-preserved g c = (
  search rules,
  search rules,
  omega (arith, c.in_ok-bytes.ensures.opens),
  λ told all. search rules,
  read_more _ _ _ _ _ _ _ _ _ _ c.in_ok-bytes.bytes c.loop-at-test.true c.index-names-at.is c.loop-at.invariant.4 (search rules) (search rules) (omega (arith, c.in_ok-bytes.ensures.fits)) (search rules),
  grind (arith, common_steps),
)

pub returns-in_err-bytes-clause-cause : goal.returns-in_err-bytes-clause-cause
returns-in_err-bytes-clause-cause g c =
    let p = err_from_is_err_and c.from_residual.result c.from_residual.ensures.1 in
    let cause = rw (c.loop-at.invariant.1, c.loop-at.invariant.0, c.deref.ensures) at c.in_err-bytes.ensures.cause in
    rw (p.1, p.2) (fault_cause _ _ _ _ _ _ _ _ _ _ _ _ _ c.loop-at-test.true c.index-names-at.is c.loop-at.invariant.4 (omega (arith, c.in_err-bytes.ensures.opens)) cause)

pub returns-in_err-bytes-clause-before : goal.returns-in_err-bytes-clause-before
returns-in_err-bytes-clause-before g c =
    let p = err_from_is_err_and c.from_residual.result c.from_residual.ensures.1 in
    let cause = rw (c.loop-at.invariant.1, c.deref.ensures) at c.in_err-bytes.ensures.cause in
    rw (p.1, p.2) (fault_before _ _ _ _ c.index-names-at.result _ _ _ _ _ _ c.loop-at-test.true c.loop-at.invariant.4 cause)

pub returns-clause-sizes : goal.returns-clause-sizes
returns-clause-sizes g c = all_fit c.loop-at.files.items 16777216 c.loop-at.room c.loop-at.invariant.4.sum
