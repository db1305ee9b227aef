use Rattle.std.proofs.Common.{◌∙◌}
use Rattle.ground_agg.proofs.TupleOrder.{tuple_cmp-lengths, tuple_cmp-members}
use Rattle.ground_agg.proofs.order.compare_tuples.Goals as goal

pub returns-then-a-b : goal.returns-then-a-b
returns-then-a-b c = tuple_cmp-lengths c.args.terms.now c.args.a.now c.args.b.now c.cmp.result c.if-a-b.true c.cmp.ensures

pub returns : goal.returns
returns c = c.compare_members.ensures ∙ tuple_cmp-members c.args.terms.now c.args.a.now c.args.b.now c.if-a-b.false
