-- Conditions one after another: what comes out is determined.
use Rattle.std.proofs.Common.{◌≡◌, ◌↔◌, inl, inr, Bool, true, false, Option, Some, None, refl, sym, ap, ◌∙◌, subst}
use Rattle.std.specs.Prelude.{IsTrue, if◌then◌else◌}
use Rattle.proof_log.specs.Causes.{Asks, Passes}
use Rattle.proof_log.specs.States.{StateView}
use Rattle.proof_log.specs.Valid.{Judged}
use Rattle.proof_log.specs.declared.causes.Cause.{Cause}
use Rattle.proof_log.specs.declared.steps.Step.{Step}
use Rattle.proof_log.specs.declared.steps.Step.TheVariants.{Found, Passed, Improve, Dominate, Exclude, Learn, Loop, Sum, Erase, Optimal, Closed}

-- one thing at most comes out
abbrev IsOne : (Option Cause → Type 0) → Type 0
IsOne R = (o p : Option Cause) → R o → R p → o ≡ p

passes_one : IsOne Passes
passes_one None None h k = refl
passes_one None (Some b) h k = absurd k
passes_one (Some a) p h k = absurd h

asks_one : (own : Cause) (P : Type 0) (R : Option Cause → Type 0) → IsOne R → IsOne (Asks own P R)
asks_one own P R one None None h k = refl
asks_one own P R one None (Some b) h (inl k) = absurd (k.0 h.0)
asks_one own P R one None (Some b) h (inr k) = one None (Some b) h.1 k.1
asks_one own P R one (Some a) None (inl h) k = absurd (h.0 k.0)
asks_one own P R one (Some a) None (inr h) k = one (Some a) None h.1 k.1
asks_one own P R one (Some a) (Some b) (inl h) (inl k) = ap (λ (x : Cause). Some x) (h.1 ∙ sym k.1)
asks_one own P R one (Some a) (Some b) (inl h) (inr k) = absurd (h.0 k.0)
asks_one own P R one (Some a) (Some b) (inr h) (inl k) = absurd (k.0 h.0)
asks_one own P R one (Some a) (Some b) (inr h) (inr k) = one (Some a) (Some b) h.1 k.1

pub judged_one : (s : StateView) (step : Step) → IsOne (Judged s step)
judged_one s (Found atoms) o p h k = absurd h
judged_one s (Passed set better) o p h k = absurd h
judged_one s Improve o p h k = absurd h
judged_one s (Dominate set) o p h k = absurd h
judged_one s (Exclude set) o p h k = absurd h
judged_one s (Learn lits hints) o p h k = asks_one _ _ _ (asks_one _ _ Passes passes_one) o p h k
judged_one s (Loop atom others) o p h k = asks_one _ _ Passes passes_one o p h k
judged_one s (Sum guard lits) o p h k = asks_one _ _ Passes passes_one o p h k
judged_one s (Erase clause) o p h k = asks_one _ _ Passes passes_one o p h k
judged_one s (Optimal set clause) o p h k = absurd h
judged_one s (Closed clause) o p h k = absurd h

-- a condition that holds leaves what comes of the others
pub asks_others : (own : Cause) (P : Type 0) (R : Option Cause → Type 0) (o : Option Cause) → P → R o → Asks own P R o
asks_others own P R None p r = (p, r)
asks_others own P R (Some a) p r = inr (p, r)

-- the last condition
pub asks_last : (own : Cause) (P : Type 0) (holds : Bool) (o : Option Cause) → o ≡ (if holds then None else Some own) → IsTrue holds ↔ P → Asks own P Passes o
asks_last own P true o is h = subst (Asks own P Passes) (sym is) (h.0 refl, tt)
asks_last own P false o is h = subst (Asks own P Passes) (sym is) (inl (λ p. let e = h.1 p in cc, refl))
