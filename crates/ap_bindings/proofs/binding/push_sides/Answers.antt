use Rattle.std.proofs.Common.{Bool, ◌&&◌}
use Rattle.ap_pieces.specs.Bound.{Names, binds_side}
use Rattle.ap_bindings.specs.Searches.{names_in, also}
use Rattle.ap_bindings.proofs.BindingLemmas.{rules_both}
use Rattle.ap_bindings.proofs.binding.push_sides.Goals as goal

pub returns-clause-rules : goal.returns-clause-rules
returns-clause-rules c = λ test h.
    let given = names_in c.args.given.now in
    let one : Names → Bool = λ z. binds_side (also given z) c.args.left.now c.args.right.now in
    let other : Names → Bool = λ z. binds_side (also given z) c.args.right.now c.args.left.now in
    rules_both c.push_side-2.new.table.names c.push_side-2.new.rules.items test one other
    (c.in_ok-push_side-2.ensures.rules (λ z. test z && one z) (c.in_ok-push_side.ensures.rules test h))
