use Rattle.literal_parse.proofs.Steps.{exit}
use Rattle.pref_parse.proofs.MixedLemmas.{formed_rest, other_rest}
use Rattle.pref_parse.proofs.mixed.read_mixed_rest.Goals as goal

pub returns-in-Either-clause-read : goal.returns-in-Either-clause-read
returns-in-Either-clause-read c = rw c.in-Either.is c.read_either_rest.ensures.read

pub returns-in_err-whole-in-Formed-clause-read : goal.returns-in_err-whole-in-Formed-clause-read
returns-in_err-whole-in-Formed-clause-read c = rw c.in-Formed.is (exit c.in_err-whole-in-Formed.ensures.read c.from_residual.ensures.1 (λ f. f))

pub returns-in_ok-whole-in-Formed-clause-read : goal.returns-in_ok-whole-in-Formed-clause-read
returns-in_ok-whole-in-Formed-clause-read c = rw c.in-Formed.is (formed_rest c.in_ok-whole-in-Formed.ensures.read)

pub returns-in_err-whole-in-Other-clause-read : goal.returns-in_err-whole-in-Other-clause-read
returns-in_err-whole-in-Other-clause-read c = rw c.in-Other.is (exit c.in_err-whole-in-Other.ensures.read c.from_residual-in_err-whole-in-Other.ensures.1 (λ f. f))

pub returns-in_ok-whole-in-Other-clause-read : goal.returns-in_ok-whole-in-Other-clause-read
returns-in_ok-whole-in-Other-clause-read c = rw c.in-Other.is (other_rest c.in_ok-whole-in-Other.ensures.read)
