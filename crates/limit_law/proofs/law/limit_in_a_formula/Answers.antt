use Rattle.ap_lexemes.specs.Limits.{next_role}
use Rattle.limit_law.specs.Depths.{depth, scan}
use Rattle.limit_law.proofs.Rules.{behind}
use Rattle.limit_law.proofs.Last.{stands_last}
use Rattle.limit_law.proofs.Limits.{limit_behind}
use Rattle.limit_law.proofs.Quiet.{none_stands}
use Rattle.limit_law.proofs.law.limit_in_a_formula.Goals as goal

pub returns-clause-deep : goal.returns-clause-deep
returns-clause-deep c = λ s read rest f i n o h. let b = behind i in stands_last s read rest b.last o (limit_behind (scan s read).level (next_role rest) (depth f) b.level n h)

pub returns-clause-within : goal.returns-clause-within
returns-clause-within c = λ s read rest f i h stands. none_stands s read rest ((behind i).quiet h) stands
