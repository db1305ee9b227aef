use Rattle.std.proofs.Common.{sym, subst, length}
use Rattle.std.specs.Prelude.{All}
use Rattle.ground_form.specs.Ranges.{IsGroupOf}
use Rattle.ap_eval.proofs.truth.body_in.Goals as goal

pub body_holds-requires : goal.body_holds-requires
body_holds-requires g c =
    let n = length c.args.g.now.atoms in
    (n, subst (All (IsGroupOf n)) (sym c.groups.ensures.value) c.groups.ensures.in_range.groups)
