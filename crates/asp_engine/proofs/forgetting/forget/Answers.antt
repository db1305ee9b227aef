use Rattle.std.proofs.Common.{true, refl}
use Rattle.asp_engine.specs.Moves.{held_by}
use Rattle.asp_engine.proofs.KeyLemmas.{same_self}
use Rattle.asp_engine.proofs.MoveLemmas.{alike_engine, alike_self, forgot_engine, forgot_none, forgot_then}
use Rattle.asp_engine.proofs.forgetting.forget.Goals as goal

pub loop-at-init : goal.loop-at-init
loop-at-init c = forgot_none (held_by c.args.others.now) true _ _ (alike_self _) refl refl refl

pub erase_at-requires-clause-engine : goal.erase_at-requires-clause-engine
erase_at-requires-clause-engine c =
    let e = c.args.e.now in
    forgot_engine (held_by c.args.others.now) true _ c.loop-at.e c.loop-at.invariant
    (alike_engine e _ (record { theory = same_self e.theory; log = refl; clauses = λ k. refl; places = refl; numbers = λ k. refl; marks = refl; span = refl }) c.requires.engine)

pub loop-at-preserved : goal.loop-at-preserved
loop-at-preserved c = forgot_then (held_by c.args.others.now) true _ c.loop-at.e c.erase_at.new.e c.loop-at.invariant c.erase_at.ensures

pub returns : goal.returns
returns c =
    let e = c.args.e.now in
    forgot_then (held_by c.args.others.now) true e _ c.loop-at.e
    (forgot_none (held_by c.args.others.now) true e _ (record { theory = same_self e.theory; log = refl; clauses = λ k. refl; places = refl; numbers = λ k. refl; marks = refl; span = refl }) refl refl refl)
    c.loop-at.invariant
