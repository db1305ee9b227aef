use Rattle.std.proofs.Common.{◌≡◌, ◌-◌, ℕ, ap, subst, arith}
use Rattle.asp_engine.specs.declared.rounds.Ending.{Ending}
use Rattle.asp_engine.specs.Answers.{ShowsEnding, left_of}
use Rattle.asp_engine.proofs.searching.search.Goals as goal

pub returns-clause-again : goal.returns-clause-again
returns-clause-again c = λ none is.
    let n : ℕ = c.args.budget.now.left - c.search_on.new.budget.left in
    let x = subst (λ (r : Ending). ShowsEnding c.search_on.new.e c.args.assume.now c.search_on.new.budget.left (left_of c.args.quota n) r) is c.search_on.ensures.ending in
    let y : left_of c.args.quota n ≡ 1 = ap (λ q. left_of q n) none in
    absurd (let z = x.0 in omega (arith, y, z))
