use Rattle.ap_lex.proofs.ReadingLemmas.{end_begins_nothing, one_reading}
use Rattle.ap_lex.proofs.lexer.one_reading.Goals as goal

pub returns-clause-one : goal.returns-clause-one
returns-clause-one c = λ text ts us at place r s. one_reading text r.reads s.reads r.stops s.stops

pub returns-clause-whole : goal.returns-clause-whole
returns-clause-whole c = λ text ts is. record { reads = is; stops = end_begins_nothing text }
