use Rattle.std.proofs.Common.{◌≡◌, ◌≤◌, map, drop, max}
use Rattle.ap_term.specs.Value.{deepest, arguments_from}
use Rattle.ap_term.specs.Table.{value_at}
use Rattle.ap_term.proofs.terms.Terms.deepest.Given as goal

-- the deepest so far, and of those that are left
abbrev pub invariant-loop-id : goal.invariant-loop-id
invariant-loop-id l = (max l.most (deepest (arguments_from (map (value_at l.self) (drop l.id-index l.ids)))) ≡ deepest (arguments_from (map (value_at l.self) l.ids))) × (l.most ≤ 128)
