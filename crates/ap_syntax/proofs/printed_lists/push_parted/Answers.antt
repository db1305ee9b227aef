use Rattle.std.proofs.Common.{◌++◌, [], map, string_bytes, refl, ap}
use Rattle.ap_syntax.specs.Separators.{between}
use Rattle.ap_syntax.proofs.Joined.{joined_parted}
use Rattle.ap_syntax.proofs.printed_lists.push_parted.Goals as goal

pub loop-item-init : goal.loop-item-init
loop-item-init g c = (ap (λ ts. string_bytes c.args.out.now ++ ts) (joined_parted (between c.args.separator) (map g.T.Canonical.pieces c.args.items.now)), ([], (refl, refl)))
