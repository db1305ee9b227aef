use Rattle.std.proofs.Common.{arith, sym, ap, subst, ◌∙◌, option_map}
use Rattle.std.specs.Map.Iter.{deref_pair}
use Rattle.ap_term.proofs.TableLemmas.{length_is, shape_at, distinct}
use Rattle.ap_term.specs.Table.{HasDistinctValues}
use Rattle.ap_term.proofs.terms.Terms.shape.Goals as goal

pub unwrap-requires : goal.unwrap-requires
unwrap-requires c = c.get_index.ensures.found.1 (omega (arith, length_is _ _ c.self.view_is c.self.invariant))

pub returns-clause-value : goal.returns-clause-value
returns-clause-value c = (shape_at _ _ c.self.view_is c.self.invariant c.args.id _ _ (sym c.get_index.ensures.entry ∙ ap (option_map deref_pair) c.unwrap.ensures)).0

pub returns-clause-over : goal.returns-clause-over
returns-clause-over c = (shape_at _ _ c.self.view_is c.self.invariant c.args.id _ _ (sym c.get_index.ensures.entry ∙ ap (option_map deref_pair) c.unwrap.ensures)).1

pub returns-clause-distinct : goal.returns-clause-distinct
returns-clause-distinct c = subst HasDistinctValues c.self.view_is (distinct _ c.self.invariant)
