use Rattle.std.proofs.Common.{◌+◌, length}
use Rattle.theory_form.specs.Hints.{FollowsByHints}
use Rattle.proof_log.specs.Added.{slots_of}
use Rattle.proof_log.specs.States.{clause_among}
use Rattle.proof_log.specs.Valid.{AreClauses}
use Rattle.proof_log.specs.Causes.{Asks, Passes}
use Rattle.proof_log.specs.declared.causes.Cause.TheVariants as cause
use Rattle.proof_log.proofs.CauseLemmas.{asks_last, asks_others}
use Rattle.proof_log.proofs.states.judge_learned.Goals as goal

pub returns-clause-judged : goal.returns-clause-judged
returns-clause-judged c =
    let look = clause_among c.args.theory.now (slots_of c.args.added.now) in
    let places = length c.args.theory.now.variables + 1 in
    let hints = c.args.hints.now in
    let exact = rw c.lits.ensures.literals at c.follows_by_hints-follows.ensures.exact in
    asks_others cause.Clause (AreClauses look hints) (Asks cause.Hint (FollowsByHints look places c.args.lits.now hints) Passes) c.unless.result (c.are_clauses.ensures.0 c.if-not-are_clauses.false)
    (asks_last cause.Hint (FollowsByHints look places c.args.lits.now hints) c.follows_by_hints-follows.result c.unless.result c.unless.ensures exact)
