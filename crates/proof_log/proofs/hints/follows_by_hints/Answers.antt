use Rattle.std.proofs.Common.{◌+◌, subst, ℕ, ◌↔◌}
use Rattle.std.specs.Prelude.{IsTrue}
use Rattle.theory_form.specs.Hints.{Follows, all_false}
use Rattle.proof_log.specs.Added.{slots_of}
use Rattle.proof_log.specs.States.{clause_among}
use Rattle.proof_log.proofs.TableLemmas.{all_free, length-all_false}
use Rattle.proof_log.proofs.hints.follows_by_hints.Goals as goal

pub returns-clause-exact : goal.returns-clause-exact
returns-clause-exact c =
    let look = clause_among c.args.theory.now (slots_of c.args.added.now) in
    let lits = c.args.lits.now in
    let vars = c.var_count-vars.result in
    let h = c.follows-answer.ensures.exact (all_false (vars + 1) lits) (length-all_false (vars + 1) lits) c.make_false.ensures.same in
    subst (λ (n : ℕ). IsTrue c.follows-answer.result ↔ Follows look (all_false (n + 1) lits) c.args.hints.now) c.var_count-vars.ensures.count h

pub returns-clause-free : goal.returns-clause-free
returns-clause-free c =
    all_free (clause_among c.args.theory.now (slots_of c.args.added.now)) c.args.lits.now c.args.hints.now c.follows-answer.new.values c.free_hints.new.values c.free_lits.new.values
    (λ u over named. c.follows-answer.ensures.within u named (c.make_false.ensures.within u over))
    c.free_hints.ensures.frees c.free_hints.ensures.free c.free_lits.ensures.frees c.free_lits.ensures.free
