use Rattle.rule_form.proofs.Matching.{match_fits}
use Rattle.rule_form.proofs.matching_is_exact.Goals as goal

pub returns : goal.returns
returns c = λ t v old s. match_fits s t v old
