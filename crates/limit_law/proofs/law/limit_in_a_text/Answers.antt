use Rattle.std.proofs.Common.{[]}
use Rattle.ap_lexemes.specs.Limits.{no_levels}
use Rattle.limit_law.proofs.FirstLimits.{text_tells}
use Rattle.limit_law.proofs.Quiet.{none_stands}
use Rattle.limit_law.proofs.law.limit_in_a_text.Goals as goal

pub returns-clause-deep : goal.returns-clause-deep
returns-clause-deep c = λ whole of_type xs statements d h. (text_tells d).loud h

pub returns-clause-within : goal.returns-clause-within
returns-clause-within c = λ whole of_type xs statements d h stands. none_stands no_levels xs [] ((text_tells d).quiet h) stands
