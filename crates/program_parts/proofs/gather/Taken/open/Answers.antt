-- The part's place is the current one.
use Rattle.std.proofs.Common.{refl}
use Rattle.program_parts.proofs.TakenLemmas.{opened}
use Rattle.program_parts.proofs.gather.Taken.open.Goals as goal

pub returns-clause-rules : goal.returns-clause-rules
returns-clause-rules c = λ ss file at h.
    opened ss _ c.place_of_part.new.self c.args.part.now c.in_ok-place.place file at (c.in_ok-place.ensures.place ss h.gathered) refl refl refl refl
