use Rattle.std.proofs.Common.{true, refl}
use Rattle.asp_engine.specs.Moves.{held_by}
use Rattle.asp_engine.proofs.KeyLemmas.{same_self}
use Rattle.asp_engine.proofs.MoveLemmas.{alike_self, forgot_none, forgot_then}
use Rattle.asp_engine.proofs.forgetting.erase_at.Goals as goal

pub returns-in_default : goal.returns-in_default
returns-in_default c = forgot_none (held_by c.args.others.now) true c.args.e.now c.args.e.now (alike_self c.args.e.now) refl refl refl

pub returns-then-erase : goal.returns-then-erase
returns-then-erase c =
    let b = c.erase.new.e in
    forgot_then (held_by c.args.others.now) true c.args.e.now b _ c.erase.ensures
    (forgot_none (held_by c.args.others.now) true b _ (record { theory = same_self b.theory; log = refl; clauses = λ k. refl; places = refl; numbers = λ k. refl; marks = refl; span = refl }) refl refl refl)
