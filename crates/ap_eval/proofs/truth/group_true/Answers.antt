use Rattle.std.proofs.Common.{rules, ap, ◌∙◌, w64}
use Rattle.std.proofs.lemmas.Int.{to_z-of_z}
use mir.Val.{SFits}
use Rattle.ground_form.specs.Truth as spec
use Rattle.ap_eval.proofs.truth.group_true.Goals as goal

pub returns : goal.returns
returns g c =
    let fits : SFits w64 c.rows_sum.result = search rules in
    let sum = c.rows_sum.ensures ∙ ap (spec.rows_sum (g.X.Membership.test c.args.x.now)) c.as_slice.ensures in
    (simp to_z-of_z at c.guards_hold.ensures) ∙ ap (λ value. spec.guards_hold value c.args.guard c.args.group.now) sum
