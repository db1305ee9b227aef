use Rattle.std.proofs.Common.{refl}
use Rattle.asp_engine.specs.Moves.{held_by}
use Rattle.asp_engine.proofs.MoveLemmas.{alike_self, forgot_none}
use Rattle.asp_engine.proofs.rounds.end_period.Goals as goal

pub returns-else-is_empty : goal.returns-else-is_empty
returns-else-is_empty c = λ ended h. forgot_none (held_by c.args.others.now) ended c.args.e.now c.args.e.now (alike_self c.args.e.now) refl refl refl
