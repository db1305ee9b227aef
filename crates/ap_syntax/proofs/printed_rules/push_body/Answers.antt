use Rattle.std.proofs.Common.{◌++◌, [], string_bytes, refl, ap}
use Rattle.ap_syntax.proofs.Joined.{joined_body_pieces}
use Rattle.ap_syntax.proofs.printed_rules.push_body.Goals as goal

pub loop-item-init : goal.loop-item-init
loop-item-init c = (ap (λ ts. string_bytes c.args.out.now ++ ts) (joined_body_pieces c.args.body.now), ([], (refl, refl)))
