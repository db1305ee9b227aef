use Rattle.std.proofs.Common.{arith}
use Rattle.literal_parse.proofs.StringLemmas.{unescapes_plain, unescapes_escape}
use Rattle.literal_parse.proofs.strings.next_inside.Goals as goal

pub returns-in-Some : goal.returns-in-Some
returns-in-Some c = unescapes_escape c.in-Some.escaped _ _ _ (rw c.in-92.is at c.in_ok-character.ensures.steps.0) c.in-Some.ensures.steps.0 c.in-Some.escaped-test.1

pub returns-in_default : goal.returns-in_default
returns-in_default c = unescapes_plain c.in_ok-character.character _ _ c.in_ok-character.ensures.steps.0 (omega arith) (omega arith)
