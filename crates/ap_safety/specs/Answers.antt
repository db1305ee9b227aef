-- Which answer comes when.
use Rattle.std.specs.Prelude.{◌≡◌, ℕ, Bool, List, Result, Ok, Err, ⊤, All}
use Rattle.ap_syntax.specs.declared.rules.Rule.{Rule}
use Rattle.ap_syntax.specs.declared.preferences.Preference.{Preference}
use Rattle.pred_graph.specs.Components.{TellsDefinite}
use Rattle.pred_graph.specs.Known.{Known}
use Rattle.pred_graph.specs.declared.pred.Pred.{Pred}
use Rattle.ap_safety.specs.declared.fault.SafetyFault.{SafetyFault}
use Rattle.ap_safety.specs.declared.fault.SafetyFault.TheVariants.{Unsafe, AggregateRecursion, Recursion, Memory}
use Rattle.ap_safety.specs.declared.fault.DomainFault.{DomainFault}
use Rattle.ap_safety.specs.declared.fault.DomainFault.TheVariants as domain_faults
use Rattle.ap_bindings.specs.Texts.{Place, IsFirst, NoneFails}
use Rattle.ap_pieces.specs.Pieces.{Source, sources}
use Rattle.ap_pieces.specs.Bound.{IsAllBound, IsUnsafe, HasUnbound}
use Rattle.ap_bindings.specs.Unsafe.{source_place, by_pred, definite_by}
use Rattle.ap_safety.specs.Conditions.{Domain, domain_place, IsIndefinite, domains}
use Rattle.ap_safety.specs.Judged.{IsRecursionAnswer}

-- all occurrences in the rules and the elements are bound, by what is definite in the rules
abbrev pub AreAllBound : List Rule → List Preference → Bool → Type 0
AreAllBound rules statements base = (definite : Pred → Bool) × TellsDefinite rules base definite
    × All (IsAllBound (by_pred definite)) (sources rules statements)

-- the rule or element at this place is the first with an unbound variable, by what is definite in the rules, and this is the first
-- of its unbound variables
abbrev pub IsFirstUnbound : List Rule → List Preference → Bool → Place → List ℕ → Type 0
IsFirstUnbound rules statements base place variable =
    (definite : Pred → Bool) × (source : Source) × TellsDefinite rules base definite
    × IsFirst source_place (HasUnbound (by_pred definite)) (sources rules statements) place source
    × IsUnsafe (by_pred definite) source variable

-- an unbound variable comes before every recursion; where all variables are bound, the recursions decide
abbrev pub IsCheckAnswer : List Rule → List Preference → Bool → Result Known SafetyFault → Type 0
IsCheckAnswer rules statements base (Ok safe) =
    All (IsAllBound (definite_by safe)) (sources rules statements) × IsRecursionAnswer rules base (Ok safe)
IsCheckAnswer rules statements base (Err (Unsafe file at variable)) =
    IsFirstUnbound rules statements base (record { file = file; at = at }) variable
IsCheckAnswer rules statements base (Err (AggregateRecursion file at)) =
    AreAllBound rules statements base × IsRecursionAnswer rules base (Err (AggregateRecursion file at))
IsCheckAnswer rules statements base (Err (Recursion file at)) =
    AreAllBound rules statements base × IsRecursionAnswer rules base (Err (Recursion file at))
IsCheckAnswer rules statements base (Err Memory) = ⊤

abbrev pub IsDomainAnswer : List Rule → List Preference → Bool → Result ⊤ DomainFault → Type 0
IsDomainAnswer rules statements base (Ok done) = NoneFails (IsIndefinite rules base) (domains rules statements)
IsDomainAnswer rules statements base (Err (domain_faults.NotDomain file at)) =
    (d : Domain) × IsFirst domain_place (IsIndefinite rules base) (domains rules statements) (record { file = file; at = at }) d
IsDomainAnswer rules statements base (Err domain_faults.Memory) = ⊤
