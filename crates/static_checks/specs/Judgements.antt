-- What is found while the programs are judged one after the other.
use Rattle.std.specs.Prelude.{◌≡◌, Bool, ◌&&◌, ◌||◌, ◌==◌, nat_lt, if◌then◌else◌, List, Option, Some, None, ⊤, All}
use Rattle.std.specs.List.{AllZip}
use Rattle.ap_bindings.specs.Texts.{Place, failing_place}
use Rattle.ap_bindings.specs.declared.search.Failing.{Failing}
use Rattle.ap_safety.specs.declared.fault.SafetyFault.{SafetyFault}
use Rattle.pred_graph.specs.Known.{Known}
use Rattle.static_checks.specs.Faults.{HasDomainFault, HasDomains, IsFirstDomain, IsFirstFault, IsSafeProgram, place, rank}
use Rattle.static_checks.specs.Programs.{Judged}
use Rattle.static_checks.specs.declared.judging.Judgement.{Judgement}

abbrev pub is_before : Place → Place → Bool
is_before p q = nat_lt p.file q.file || ((p.file == q.file) && nat_lt p.at q.at)

abbrev pub precedes : SafetyFault → SafetyFault → Bool
precedes f g = nat_lt (rank f) (rank g) || ((rank f == rank g) && is_before (place f) (place g))

-- the other only if it precedes
abbrev pub first_of : Option SafetyFault → SafetyFault → SafetyFault
first_of None other = other
first_of (Some f) other = if precedes other f then other else f

-- where no program has a fault: what is known of each, and their first condition that is not definite
abbrev pub IsDomainOf : List Judged → Option (Failing ⊤) → Type 0
IsDomainOf js None = All HasDomains js
IsDomainOf js (Some found) = IsFirstDomain js (failing_place found)

abbrev pub IsFaultOf : List Judged → Option SafetyFault → Option (Failing ⊤) → List Known → Type 0
IsFaultOf js None found safes = AllZip IsSafeProgram js safes × IsDomainOf js found
IsFaultOf js (Some fault) found safes = (rank fault ≡ 3 → ⊥) × IsFirstFault js fault

-- what was found of these programs
abbrev pub IsJudgement : List Judged → Judgement → Type 0
IsJudgement js j = IsFaultOf js j.fault j.domain j.safes

-- the first condition that is not definite in one program
abbrev pub IsOwnDomain : Judged → Option (Failing ⊤) → Type 0
IsOwnDomain j None = HasDomains j
IsOwnDomain j (Some found) = HasDomainFault (failing_place found) j
