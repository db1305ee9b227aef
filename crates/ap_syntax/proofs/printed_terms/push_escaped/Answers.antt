use Rattle.std.proofs.Common.{arith}
use Rattle.ap_syntax.proofs.Escapes.{plain_character, pushed}
use Rattle.ap_syntax.proofs.printed_terms.push_escaped.Goals as goal

pub returns-in_default : goal.returns-in_default
returns-in_default c = pushed c.push.result _ _ _ _ c.push.ensures.bytes (plain_character c.args.c (omega arith) (omega arith) (omega arith))
