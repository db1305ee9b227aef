use Rattle.std.proofs.Common.{rules, ◌≡◌, pos, get_or, inl, inr}
use Rattle.sets.specs.Literals.{literal_cmp}
use Rattle.ground_agg.proofs.ConditionOrder.{differ_at, lengths_at}
use Rattle.ground_agg.proofs.order.compare_conditions.Goals as goal
use Rattle.ground_agg.proofs.order.compare_conditions.Goals.{then-loop-at-test+else-at-b, else-loop-at-test}

pub returns-in_default : goal.returns-in_default
returns-in_default c =
    let is : c.compare_literals.result ≡ literal_cmp (get_or c.args.a.now c.loop-at.at (pos 0)) (get_or c.args.b.now c.loop-at.at (pos 0)) = search rules in
    differ_at c.args.a.now c.args.b.now c.loop-at.at (pos 0) c.compare_literals.result c.loop-at-test.true c.if-at-b.true is
    (search rules) c.loop-at.invariant.rest

pub returns : goal.returns
returns c =
    lengths_at c.args.a.now c.args.b.now c.loop-at.at c.cmp.result c.loop-at.invariant.a_in c.loop-at.invariant.b_in
    (elim c.loop-at-test.branch [ then-loop-at-test+else-at-b w ↦ inr w.if-at-b.false | else-loop-at-test w ↦ inl w.loop-at-test.false ])
    c.cmp.ensures c.loop-at.invariant.rest
