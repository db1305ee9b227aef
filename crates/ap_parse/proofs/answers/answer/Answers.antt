use Rattle.std.proofs.Common.{sym, ◌∙◌}
use Rattle.ap_parse.specs.Texts.{IsAnswer}
use Rattle.ap_parse.proofs.AnswerLemmas.{answer_fault, answer_left, answer_tree}
use Rattle.ap_parse.proofs.answers.answer.Goals as goal

pub returns-then-is_read : goal.returns-then-is_read
returns-then-is_read g c = λ n value rest t l r. answer_tree value n _ _ _ c.args.left (rw c.in-Ok.is at r) l (sym c.is_read.ensures ∙ c.if-is_read.true)

pub returns-else-is_read : goal.returns-else-is_read
returns-else-is_read g c = λ n value rest t l r. rw c.fault.ensures (answer_left value n _ _ _ c.args.of_type c.args.left t (rw c.in-Ok.is at r) l (sym c.is_read.ensures ∙ c.if-is_read.false))

pub returns-in-Syntax : goal.returns-in-Syntax
returns-in-Syntax g c = λ n value rest t l r. rw c.fault-in-Syntax.ensures (answer_fault value n _ _ _ c.args.of_type c.args.left t c.in-Syntax.is (rw c.in-Err.is at r) l)

pub returns-in-Memory : goal.returns-in-Memory
returns-in-Memory g c = λ n value rest t l r. IsAnswer.memory
