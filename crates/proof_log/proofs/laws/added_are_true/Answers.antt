use Rattle.std.proofs.Common.{◌+◌, ◌∷◌, length}
use Rattle.loop_nogoods.specs.Sets.{has}
use Rattle.proof_log.specs.After.{IsAfter}
use Rattle.proof_log.specs.States.{AddedAreTrue, clause_in}
use Rattle.proof_log.specs.Valid.{IsValid}
use Rattle.proof_log.specs.declared.steps.Step.TheVariants.{Found, Passed, Improve, Dominate, Exclude, Learn, Loop, Sum, Erase, Optimal, Closed}
use Rattle.proof_log.proofs.ProgramLemmas.{has_first}
use Rattle.proof_log.proofs.TruthLemmas.{clauses_true, sum_clause_true, with_true, without_true}
use Rattle.proof_log.proofs.laws.added_are_true.Goals as goal

pub returns : goal.returns
returns c = λ s after step h.
    elim step as (λ x. IsValid s x → IsAfter s x after → AddedAreTrue after) [
      | Found atoms ↦ λ v. absurd v
      | Passed set better ↦ λ v. absurd v
      | Improve ↦ λ v. absurd v
      | Dominate set ↦ λ v. absurd v
      | Exclude set ↦ λ v. absurd v
      | Learn lits hints ↦ λ v is.
          with_true s after lits h (λ f m. c.follows_is_true.ensures (clause_in s) (length s.theory.variables + 1) lits hints f v.1.0 (clauses_true s h f m)) is
      | Loop atom others ↦ λ v is.
          let p = v.0.program in
          with_true s after is.0 h (λ f m. c.loop_clause_is_true.ensures s.theory f m p.0 (has (atom ∷ others)) p.1 atom.0 (has_first atom others) is.0 is.1) is.2
      | Sum guard lits ↦ λ v is. with_true s after lits h (sum_clause_true s.theory guard lits v.0) is
      | Erase clause ↦ λ v is. without_true s after clause.0 h is
      | Optimal set clause ↦ λ v. absurd v
      | Closed clause ↦ λ v. absurd v
    ]
