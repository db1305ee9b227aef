use Rattle.std.proofs.Common.{◌≡◌, ◌∙◌, sym, ap, subst, arith, get_or, List, ℤ}
use Rattle.theory_build.specs.Drafts.{Adds, next_of}
use Rattle.theory_build.specs.Groups.{condition_piece}
use Rattle.theory_build.proofs.PieceLemmas.{adds_more}
use Rattle.theory_build.proofs.groups.add_conditions.Goals as goal

pub loop-condition-preserved : goal.loop-condition-preserved
loop-condition-preserved c =
    let one = subst
    (λ (x : List ℤ). Adds c.loop-condition.draft c.add_condition.new.draft (condition_piece c.args.p.now (next_of c.loop-condition.draft) x) c.in_ok-name.name)
    c.as_slice.ensures c.in_ok-name.ensures
    in
    let all = adds_more
    (condition_piece c.args.p.now) c.args.draft.now c.loop-condition.draft c.add_condition.new.draft c.args.conditions.now c.loop-condition.condition-index
    c.condition-item.result c.loop-condition.names.items c.in_ok-name.name c.loop-condition-test.true c.condition-item.is c.loop-condition.invariant one
    in
    rw (c.in_ok-push.ensures.items) all
