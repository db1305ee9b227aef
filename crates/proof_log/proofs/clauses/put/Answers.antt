use Rattle.std.proofs.Common.{◌+◌, ◌≤◌, length, None, arith, ap, ◌∙◌}
use Rattle.theory_form.specs.Numbers.{grown}
use Rattle.proof_log.proofs.ClauseLemmas.{grown_more}
use Rattle.proof_log.proofs.clauses.put.Goals as goal

pub loop-added-preserved : goal.loop-added-preserved
loop-added-preserved c =
    let a = c.loop-added.added in
    let low : length a.items ≤ c.args.place = omega (arith, a.ok.0) in
    record {
      same = ap (λ xs. grown xs (c.args.place + 1) None) c.push_reserved.ensures.items ∙ (grown_more a.items None c.args.place low ∙ c.loop-added.invariant.same);
      room = omega arith;
    }
