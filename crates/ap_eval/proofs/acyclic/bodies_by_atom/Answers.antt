use Rattle.std.proofs.Common.{◌+◌, length, sym, ap, ◌∙◌, subst, arith}
use Rattle.std.specs.Prelude.{All}
use Rattle.ground_form.specs.Ranges.{IsHeadOf}
use Rattle.ground_form.specs.declared.rules.GroundRule.{GroundRule}
use Rattle.ap_eval.proofs.acyclic.bodies_by_atom.Goals as goal

pub add_bodies-requires : goal.add_bodies-requires
add_bodies-requires c =
    let n = length c.args.g.now.atoms in
    let heads = subst (All (λ (rule : GroundRule). IsHeadOf n rule.head)) (sym c.rules.ensures.value) (λ k d lt. (c.rules.ensures.in_range.rules k d lt).head) in
    let size = ap length c.deref_mut.ensures.value ∙ (c.in_ok-bodies.ensures.size ∙ ap (λ atoms. length atoms + 1) c.atoms.ensures.value) in
    (n, heads, omega (arith, size))
