use Rattle.std.proofs.Common.{◌≡◌, ◌+◌, arith}
use Rattle.std.proofs.lemmas.Grind.{common_steps}
use Rattle.theory_build.specs.Groups.{needs_both}
use Rattle.theory_build.proofs.GroupLemmas.{group_more}
use Rattle.theory_build.proofs.groups.add_groups.Goals as goal

pub loop-place-preserved : goal.loop-place-preserved
loop-place-preserved c =
    let needed : c.index.result.now ≡ needs_both c.args.g.now (c.loop-place.place + 1) =
    grind (arith, common_steps, c.in_ok-needed.ensures.each c.loop-place.place)
    in
    let all = group_more
    c.args.p.now c.args.g.now c.args.draft.now c.loop-place.draft c.add_group.new.draft c.groups-group-items.result.now c.loop-place.place c.group-item.result
    c.index.result.now c.loop-place.guards.items c.in_ok-literals.literals c.loop-place-test.true c.group-item.is needed c.loop-place.invariant
    c.in_ok-literals.ensures
    in
    rw (c.in_ok-push.ensures.items) all
