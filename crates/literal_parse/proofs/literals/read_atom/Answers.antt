use Rattle.grammar.specs.Takes.{Fails}
use Rattle.literal_parse.proofs.Steps.{exit}
use Rattle.literal_parse.proofs.LiteralLemmas.{atom_terms_fail, atom_read}
use Rattle.literal_parse.proofs.literals.read_atom.Goals as goal

pub returns-in_err-name-clause-read : goal.returns-in_err-name-clause-read
returns-in_err-name-clause-read c = exit c.in_err-name.ensures.read c.from_residual.ensures.1 (λ f. Fails.call (Fails.first f))

pub returns-in_err-terms-clause-read : goal.returns-in_err-terms-clause-read
returns-in_err-terms-clause-read c = exit c.in_err-terms.ensures.read c.from_residual-in_err-terms.ensures.1 (atom_terms_fail c.in_ok-name.ensures.read)

pub returns-clause-read : goal.returns-clause-read
returns-clause-read c = atom_read c.in_ok-name.ensures.read c.in_ok-terms.ensures.read
