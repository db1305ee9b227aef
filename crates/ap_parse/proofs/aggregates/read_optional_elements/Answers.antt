use Rattle.ap_parse.proofs.AggregateLemmas.{elements_present, elements_absent}
use Rattle.ap_parse.proofs.aggregates.read_optional_elements.Goals as goal

pub returns-then-begins_element-clause-read : goal.returns-then-begins_element-clause-read
returns-then-begins_element-clause-read c = elements_present c.if-begins_element.ensures c.read_elements.ensures.read

pub returns-else-begins_element-clause-read : goal.returns-else-begins_element-clause-read
returns-else-begins_element-clause-read c = elements_absent c.if-begins_element.ensures c.new.ensures
