-- What `check` answers, by what its parts answer.
use Rattle.std.proofs.Common.{◌≡◌, ℕ, Bool, List, Some, Result, Ok, Err, IfOk, sym, subst}
use Rattle.std.specs.Prelude.{All}
use Rattle.ap_syntax.specs.declared.rules.Rule.{Rule}
use Rattle.ap_syntax.specs.declared.preferences.Preference.{Preference}
use Rattle.ap_bindings.specs.Unsafe.{definite_by, IsFirstUnsafe}
use Rattle.ap_bindings.specs.declared.search.Failing.{Failing}
use Rattle.ap_pieces.specs.Bound.{IsAllBound}
use Rattle.ap_pieces.specs.Pieces.{sources}
use Rattle.ap_safety.specs.Answers.{IsCheckAnswer}
use Rattle.ap_safety.specs.Judged.{IsRecursionAnswer}
use Rattle.ap_safety.specs.declared.fault.SafetyFault.{SafetyFault}
use Rattle.ap_safety.specs.declared.fault.SafetyFault.TheVariants.{Unsafe, AggregateRecursion, Recursion, Memory}
use Rattle.pred_graph.specs.Known.{Known, IsSafe, definite_in}

-- where a variable is not bound, this is told
pub unbound_answer : (rules : List Rule) (statements : List Preference) (safe : Known) (base : Bool) (found : Failing (List ℕ)) → IsSafe rules safe → safe.base ≡ base
    → IsFirstUnsafe (definite_by safe) (sources rules statements) (Some found) → IsCheckAnswer rules statements base (Err (Unsafe found.file found.at found.what))
unbound_answer rules statements safe base found known e h =
    subst (λ b. IsCheckAnswer rules statements b (Err (Unsafe found.file found.at found.what))) e (definite_in safe, h.0, known.definite, h.1, h.2)

module _ (rules : List Rule) (statements : List Preference) (safe : Known) (known : IsSafe rules safe)
    (bound : All (IsAllBound (definite_by safe)) (sources rules statements)) where
  by_base : (result : Result Known SafetyFault) → IsRecursionAnswer rules safe.base result → IfOk result (λ told. told ≡ safe) → IsCheckAnswer rules statements safe.base result
  by_base (Ok told) h same = (subst (λ (s : Known). All (IsAllBound (definite_by s)) (sources rules statements)) (sym same) bound, h)
  by_base (Err (Unsafe file at variable)) h same = absurd h
  by_base (Err (AggregateRecursion file at)) h same = ((definite_in safe, known.definite, bound), h)
  by_base (Err (Recursion file at)) h same = ((definite_in safe, known.definite, bound), h)
  by_base (Err Memory) h same = tt

  -- where all variables are bound, the recursions decide
  pub bound_answer : (base : Bool) (result : Result Known SafetyFault) → safe.base ≡ base → IsRecursionAnswer rules safe.base result → IfOk result (λ told. told ≡ safe) → IsCheckAnswer rules statements base result
  bound_answer base result e h same = subst (λ b. IsCheckAnswer rules statements b result) e (by_base result h same)
