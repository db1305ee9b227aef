use Rattle.limit_law.specs.Depths.{depth, scan}
use Rattle.limit_law.proofs.Rules.{behind, conjunction_behind}
use Rattle.limit_law.proofs.Limits.{limit_behind, limit_of_part, none_behind}
use Rattle.limit_law.proofs.law.limit_of_a_formula.Goals as goal

pub returns-clause-deep : goal.returns-clause-deep
returns-clause-deep c = λ s read rest f next i n h. limit_behind (scan s read).level next (depth f) (behind i).level n h

pub returns-clause-within : goal.returns-clause-within
returns-clause-within c = λ s read rest f next i h. none_behind (scan s read).level next (depth f) (behind i).level h

pub returns-clause-part : goal.returns-clause-part
returns-clause-part c = λ s read rest f next i h. limit_of_part (scan s read).level next (depth f) (conjunction_behind i) h
