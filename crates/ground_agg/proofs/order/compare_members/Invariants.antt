use Rattle.std.proofs.Common.{◌≡◌, map, drop}
use Rattle.ap_term.specs.Value.{arguments_from}
use Rattle.ap_term.specs.Order.{values_cmp}
use Rattle.ap_term.specs.Table.{value_at}
use Rattle.ground_agg.proofs.order.compare_members.Given as goal

abbrev pub invariant-loop-at : goal.invariant-loop-at
invariant-loop-at l =
    values_cmp (arguments_from (map (value_at l.terms) l.a)) (arguments_from (map (value_at l.terms) l.b))
    ≡ values_cmp (arguments_from (map (value_at l.terms) (drop l.at l.a))) (arguments_from (map (value_at l.terms) (drop l.at l.b)))
