use Rattle.std.proofs.Common.{◌++◌, [], map, string_bytes, refl, ap}
use Rattle.std.specs.Prelude.{codes}
use Rattle.ap_syntax.specs.Pieces.{spaced_behind}
use Rattle.ap_syntax.specs.CanonicalTerms.{term_pieces}
use Rattle.ap_syntax.proofs.Joined.{joined_parted}
use Rattle.ap_syntax.proofs.printed_terms.+printing.Goals as goal

pub push_terms-loop-term-init : goal.push_terms-loop-term-init
push_terms-loop-term-init t c = (ap (λ ts. string_bytes c.args.out.now ++ ts) (joined_parted (spaced_behind (codes ",")) (map term_pieces c.args.terms.now)), ([], (refl, refl)))
