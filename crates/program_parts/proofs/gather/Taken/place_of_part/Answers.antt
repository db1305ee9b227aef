-- The base has no place.
use Rattle.std.proofs.Common.{None, subst, sym}
use Rattle.program_parts.specs.Taken.{IsOpened}
use Rattle.program_parts.proofs.TakenLemmas.{base_opened}
use Rattle.program_parts.proofs.gather.Taken.place_of_part.Goals as goal

pub returns-in-Base-clause-place : goal.returns-in-Base-clause-place
returns-in-Base-clause-place c = λ ss h. subst (λ part. IsOpened ss c.args.self.now part None) (sym c.in-Base.is) (base_opened ss c.args.self.now h)
