use Rattle.limit_law.specs.Programs.{formulas_of}
use Rattle.limit_law.proofs.FirstLimits.{accepted, deep_up_to, in_bounds, other_first, text_tells}
use Rattle.limit_law.proofs.law.limit_of_a_text.Goals as goal

pub returns-clause-deep : goal.returns-clause-deep
returns-clause-deep c = λ whole of_type xs statements d e. in_bounds xs (formulas_of statements) (text_tells d) e

pub returns-clause-within : goal.returns-clause-within
returns-clause-within c = λ whole of_type xs statements d h. other_first xs (formulas_of statements) (text_tells d) h

pub returns-clause-accepted : goal.returns-clause-accepted
returns-clause-accepted c = λ whole of_type xs end is_cut statements o. accepted o

pub returns-clause-beginning : goal.returns-clause-beginning
returns-clause-beginning c = λ whole of_type xs more l statements e f d. deep_up_to xs more l e f d
