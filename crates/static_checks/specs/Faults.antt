-- The first fault of several programs.
use Rattle.std.specs.Prelude.{◌≡◌, ℕ, ◌<◌, List, Ok, Err, ⊤, All, Any, ◌⊎◌}
use Rattle.std.specs.List.{AllZip}
use Rattle.ap_bindings.specs.Texts.{Place, IsBefore}
use Rattle.ap_safety.specs.Answers.{IsCheckAnswer, IsDomainAnswer}
use Rattle.ap_safety.specs.declared.fault.DomainFault.TheVariants.{NotDomain}
use Rattle.ap_safety.specs.declared.fault.SafetyFault.{SafetyFault}
use Rattle.ap_safety.specs.declared.fault.SafetyFault.TheVariants.{Unsafe, AggregateRecursion, Recursion, Memory}
use Rattle.pred_graph.specs.Known.{Known}
use Rattle.static_checks.specs.Programs.{Judged}

-- ---- unbound variables and recursion

-- the program has this fault, which is the first of its own
abbrev pub HasFault : SafetyFault → Judged → Type 0
HasFault fault j = IsCheckAnswer j.rules j.elements j.base (Err fault)

-- it has none, and this is known of it
abbrev pub IsSafeProgram : Judged → Known → Type 0
IsSafeProgram j safe = IsCheckAnswer j.rules j.elements j.base (Ok safe)

-- unbound variables come before recursion through aggregates, and that before any other
abbrev pub rank : SafetyFault → ℕ
rank (Unsafe file at variable) = 0
rank (AggregateRecursion file at) = 1
rank (Recursion file at) = 2
rank Memory = 3

abbrev pub place : SafetyFault → Place
place (Unsafe file at variable) = record { file = file; at = at }
place (AggregateRecursion file at) = record { file = file; at = at }
place (Recursion file at) = record { file = file; at = at }
place Memory = record { file = 0; at = 0 }

-- of an earlier kind, or of the same kind and earlier in the texts
abbrev pub Precedes : SafetyFault → SafetyFault → Type 0
Precedes f g = (rank f < rank g) ⊎ ((rank f ≡ rank g) × IsBefore (place f) (place g))

-- a program has this fault, and no fault of any program precedes it
pub record IsFirstFault (js : List Judged) (fault : SafetyFault) : Type 0 where
  pub some : Any (HasFault fault) js
  pub first : All (λ j. (other : SafetyFault) → HasFault other j → Precedes other fault → ⊥) js

-- when it is told; want of memory may come at any time
abbrev pub IsSafetyCause : List Judged → SafetyFault → Type 0
IsSafetyCause js Memory = ⊤
IsSafetyCause js fault = IsFirstFault js fault

-- ---- domains

abbrev pub HasDomainFault : Place → Judged → Type 0
HasDomainFault p j = IsDomainAnswer j.rules j.elements j.base (Err (NotDomain p.file p.at))

abbrev pub HasDomains : Judged → Type 0
HasDomains j = IsDomainAnswer j.rules j.elements j.base (Ok tt)

-- a program has a condition at this place that is not definite, and no program has one before it
pub record IsFirstDomain (js : List Judged) (p : Place) : Type 0 where
  pub some : Any (HasDomainFault p) js
  pub first : All (λ j. (other : Place) → HasDomainFault other j → IsBefore other p → ⊥) js
