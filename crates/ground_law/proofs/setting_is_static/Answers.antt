use Rattle.ground_law.proofs.Settings.{ordered}
use Rattle.ground_law.proofs.setting_is_static.Goals as goal
use Rattle.ground_law.specs.Settings.{setting_of, is_among}
use Rattle.rule_form.proofs.ByPredicates.{by_predicates}

pub returns : goal.returns
returns c = λ rules number base definite certain inputs order tells conditions open_. by_predicates (setting_of rules number definite certain inputs) (is_among definite) (ordered rules number base definite certain inputs order tells conditions open_)
