use Rattle.std.proofs.Common.{arith}
use Rattle.ap_term.proofs.PrintLemmas.{flat_map-character, pushed}
use Rattle.ap_term.proofs.written.push_escaped.Goals as goal

pub returns-in_default-clause-ok : goal.returns-in_default-clause-ok
returns-in_default-clause-ok c = pushed c.push.result _ _ _ _ c.push.ensures.bytes (flat_map-character c.args.c (omega arith) (omega arith) (omega arith))
