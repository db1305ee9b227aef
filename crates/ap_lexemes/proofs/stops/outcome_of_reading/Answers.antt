use Rattle.ap_lexemes.proofs.StopLemmas.{outcome_of_end, outcome_of_stop}
use Rattle.ap_lexemes.proofs.stops.outcome_of_reading.Goals as goal

pub returns-clause-stop : goal.returns-clause-stop
returns-clause-stop c = λ n xs end is_cut read rest e f. outcome_of_stop n xs end is_cut read rest e f

pub returns-clause-whole : goal.returns-clause-whole
returns-clause-whole c = λ n xs end is_cut v d. outcome_of_end n xs end is_cut v d
