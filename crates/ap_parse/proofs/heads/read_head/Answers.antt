use Rattle.literal_parse.proofs.Steps.{exit}
use Rattle.ap_parse.proofs.HeadLemmas.{choice_alone, term_fails, signed_choice, unsigned_choice, atom_alone, not_atom}
use Rattle.ap_parse.proofs.heads.read_head.Goals as goal

pub returns-then-not-begins_term-clause-read : goal.returns-then-not-begins_term-clause-read
returns-then-not-begins_term-clause-read c = choice_alone c.if-not-begins_term.ensures c.read_choice.ensures.read

pub returns-in_err-first-clause-read : goal.returns-in_err-first-clause-read
returns-in_err-first-clause-read c = exit c.in_err-first.ensures.read c.from_residual.ensures.1 (term_fails c.if-not-begins_term.ensures)

pub returns-in-Some-clause-read : goal.returns-in-Some-clause-read
returns-in-Some-clause-read c = signed_choice c.if-not-begins_term.ensures c.in_ok-first.ensures.read c.in-Some.ensures (rw (c.in_ok-guard.ensures, c.in_ok-term.ensures) at c.read_choice-in-Some.ensures.read)

pub returns-then-sees-clause-read : goal.returns-then-sees-clause-read
returns-then-sees-clause-read c = unsigned_choice c.if-not-begins_term.ensures c.in_ok-first.ensures.read c.in_default.ensures c.if-sees.ensures (rw (c.in_ok-guard-2.ensures, c.in_ok-term-2.ensures) at c.read_choice-then-sees.ensures.read)

pub returns-in_err-atom-clause-read : goal.returns-in_err-atom-clause-read
returns-in_err-atom-clause-read c = not_atom c.if-not-begins_term.ensures c.in_ok-first.ensures.read _ c.in_default.ensures c.if-sees.ensures c.in_err-atom.ensures c.from_residual-in_err-atom.ensures.1

pub returns-clause-read : goal.returns-clause-read
returns-clause-read c = atom_alone c.if-not-begins_term.ensures c.in_ok-first.ensures.read c.in_default.ensures c.if-sees.ensures c.in_ok-atom.ensures
