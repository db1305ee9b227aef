use Rattle.std.proofs.Common.{◌≡◌, ◌<◌, ◌≤◌, get_or, ⊎_elim, arith, subst, sym}
use Rattle.std.specs.Prelude.{IfSome}
use Rattle.std.proofs.lemmas.Bool.{cases_lt}
use Rattle.std.proofs.lemmas.List.{get_or_default}
use Rattle.theory_form.specs.declared.literals.ClauseId.{ClauseId}
use Rattle.proof_log.specs.Added.{slots_of}
use Rattle.proof_log.specs.States.{clause_among}
use Rattle.proof_log.specs.Working.{LitsAreFree}
use Rattle.proof_log.proofs.TableLemmas.{Frees-then, hint_free-then}
use Rattle.proof_log.proofs.hints.free_hints.Goals as goal

abbrev no_id : ClauseId
no_id = record { 0 = 0 }

pub loop-id-preserved : goal.loop-id-preserved
loop-id-preserved c =
    let look = clause_among c.args.theory.now (slots_of c.args.added.now) in
    let hints = c.args.hints.now in
    let i = c.loop-id.id-index in
    let freed = c.free_hint.new.values in
    record {
      frees = Frees-then c.args.values.now c.loop-id.values freed c.loop-id.invariant.frees c.free_hint.ensures.frees;
      free = λ k below d. ⊎_elim
          (λ (older : k < i). hint_free-then c.loop-id.values freed (look (get_or hints k d).0) c.free_hint.ensures.frees (c.loop-id.invariant.free k older d))
          (λ (last : i ≤ k).
          let is : k ≡ i = omega (arith, below) in
          let here = subst (λ (id : ClauseId). IfSome (look id.0) (LitsAreFree freed)) (get_or_default hints i no_id d c.loop-id-test.true) c.free_hint.ensures.free in
          subst (λ j. IfSome (look (get_or hints j d).0) (LitsAreFree freed)) (sym is) here)
          (cases_lt k i);
    }
