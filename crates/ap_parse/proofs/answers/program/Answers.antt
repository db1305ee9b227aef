use Rattle.std.proofs.Common.{sym}
use Rattle.ap_grammar.specs.Values.{Value}
use Rattle.ap_parse.proofs.AnswerLemmas.{reading_fault, reading_memory, reading_program}
use Rattle.ap_parse.proofs.answers.program.Goals as goal

pub returns-in_err-all : goal.returns-in_err-all
returns-in_err-all c = λ whole bytes file rest i l r. reading_fault i (c.in_err-all.ensures _ Value.program rest (sym c.is_of_type.ensures) l r) c.from_residual.ensures.1

pub returns-in_err-statements : goal.returns-in_err-statements
returns-in_err-statements c = λ whole bytes file rest i l r. reading_memory c.from_residual-in_err-statements.ensures.1

pub returns : goal.returns
returns c = λ whole bytes file rest i l r. reading_program i (c.in_ok-all.ensures _ Value.program rest (sym c.is_of_type.ensures) l r) c.in_ok-statements.ensures
