use Rattle.std.proofs.Common.{refl}
use Rattle.limit_law.proofs.DeepEnds.{deep_first, deep_stands}
use Rattle.limit_law.proofs.Finds.{stands_deep}
use Rattle.limit_law.proofs.law.place_of_a_limit.Goals as goal

pub returns-clause-stands : goal.returns-clause-stands
returns-clause-stands c = λ whole of_type xs ending d. deep_stands d

pub returns-clause-only : goal.returns-clause-only
returns-clause-only c = λ whole of_type xs ending statements d h. stands_deep d h

pub returns-clause-first : goal.returns-clause-first
returns-clause-first c = λ whole of_type before here ending d. deep_first before ending ending here (record { conjunction = refl; atom = refl }) d
