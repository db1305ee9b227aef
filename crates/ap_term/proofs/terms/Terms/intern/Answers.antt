use Rattle.std.proofs.Common.{sym, subst, arith, []}
use Rattle.ap_term.specs.Built.{IsBuilt}
use Rattle.ap_term.specs.Table.{HasDistinctValues, KeepsIds, value_of}
use Rattle.ap_term.proofs.TableLemmas.{distinct}
use Rattle.ap_term.proofs.ShapeLemmas.{equal_shapes}
use Rattle.ap_term.proofs.InternLemmas.{IsInterned, interned, kept}
use Rattle.ap_term.proofs.terms.Terms.intern.Goals as goal

pub returns-then-depth-gt-MAX_DEPTH-clause-distinct : goal.returns-then-depth-gt-MAX_DEPTH-clause-distinct
returns-then-depth-gt-MAX_DEPTH-clause-distinct c = subst HasDistinctValues c.self.view_is (distinct _ c.self.invariant)

pub returns-in_default-clause-distinct : goal.returns-in_default-clause-distinct
returns-in_default-clause-distinct c = distinct _ (subst (IsBuilt []) (sym c.in_default.ensures.err) c.self.invariant)

-- what the insert made of the table
made : (c : goal.In-Ok) → IsInterned c.args.self.now c.args.shape c.insert_full.new.self.entries c.in-Ok.place
made c = interned _ equal_shapes _ _ c.self.view_is c.self.invariant c.args.shape c.depth_of-depth.result c.requires c.depth_of-depth.ensures (omega arith) _ _ c.in-Ok.ensures.entries c.in-Ok.ensures.index

pub invariant_of-self-2 : goal.invariant_of-self-2
invariant_of-self-2 c = (made c).built

pub returns-clause-id : goal.returns-clause-id
returns-clause-id c = (made c).within

pub returns-clause-value : goal.returns-clause-value
returns-clause-value c = (made c).value

pub returns-clause-table : goal.returns-clause-table
returns-clause-table c = (made c).inserted

pub returns-clause-kept : goal.returns-clause-kept
returns-clause-kept c =
    subst (KeepsIds c.args.self.now) (sym (made c).inserted) (kept c.args.self.now (value_of c.args.self.now c.args.shape))

pub returns-clause-distinct : goal.returns-clause-distinct
returns-clause-distinct c = distinct _ (made c).built
