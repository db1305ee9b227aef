use Rattle.std.proofs.Common.{◌++◌, [], map, string_bytes, refl, ap}
use Rattle.ap_syntax.specs.Separators.{between}
use Rattle.ap_syntax.specs.CanonicalTerms.{at_least}
use Rattle.ap_syntax.specs.CanonicalFormulas.{formula_written}
use Rattle.ap_syntax.proofs.Joined.{joined_parted}
use Rattle.ap_syntax.proofs.printed_preferences.+printing.Goals as goal

pub push_parts-loop-formula-init : goal.push_parts-loop-formula-init
push_parts-loop-formula-init t c = (ap (λ ts. string_bytes c.args.out.now ++ ts) (joined_parted (between c.args.separator) (map (at_least c.args.level) (map formula_written c.args.formulas.now))), ([], (refl, refl)))
