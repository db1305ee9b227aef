use Rattle.std.proofs.Common.{ℕ, ◌<◌, get_or}
use Rattle.std.specs.Prelude.{IfSome}
use Rattle.theory_form.specs.declared.literals.ClauseId.{ClauseId}
use Rattle.proof_log.specs.Added.{slots_of}
use Rattle.proof_log.specs.States.{clause_among}
use Rattle.proof_log.specs.Working.{Frees, LitsAreFree}
use Rattle.proof_log.proofs.hints.free_hints.Given as goal

abbrev pub invariant-loop-id : goal.invariant-loop-id
invariant-loop-id l = record {
  frees : Frees l.initial.values l.values;
  free : (k : ℕ) → k < l.id-index → (d : ClauseId) → IfSome (clause_among l.theory (slots_of l.added) (get_or l.hints k d).0) (LitsAreFree l.values);
}
