use Rattle.rule_form.proofs.Components.{none_built, component_done}
use Rattle.rule_form.proofs.component_joined_once.Goals as goal

pub returns-clause-first : goal.returns-clause-first
returns-clause-first c = none_built

pub returns-clause-next : goal.returns-clause-next
returns-clause-next c = λ st n rows sure more_rows more_sure built. component_done st n rows sure built more_rows more_sure
