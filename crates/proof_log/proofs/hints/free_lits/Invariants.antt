use Rattle.std.proofs.Common.{◌≡◌, ℕ, ◌<◌, None, get_or}
use Rattle.theory_form.specs.declared.literals.Lit.{Lit}
use Rattle.theory_form.specs.Truth.{value_of}
use Rattle.proof_log.specs.Working.{Frees}
use Rattle.proof_log.proofs.hints.free_lits.Given as goal

abbrev pub invariant-loop-l : goal.invariant-loop-l
invariant-loop-l l = record {
  frees : Frees l.initial.values l.values;
  free : (k : ℕ) → k < l.l-index → (d : Lit) → value_of l.values (get_or l.lits k d).var.0 ≡ None;
}
