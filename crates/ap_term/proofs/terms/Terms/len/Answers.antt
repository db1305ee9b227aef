use Rattle.std.proofs.Common.{sym, subst, ◌∙◌}
use Rattle.ap_term.proofs.TableLemmas.{length_is, distinct}
use Rattle.ap_term.specs.Table.{HasDistinctValues}
use Rattle.ap_term.proofs.terms.Terms.len.Goals as goal

pub returns-clause-count : goal.returns-clause-count
returns-clause-count c = c.len.ensures.len ∙ sym (length_is _ _ c.self.view_is c.self.invariant)

pub returns-clause-distinct : goal.returns-clause-distinct
returns-clause-distinct c = subst HasDistinctValues c.self.view_is (distinct _ c.self.invariant)
