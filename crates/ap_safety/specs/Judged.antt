-- Which recursion is told, and what is known of rules without one.
use Rattle.std.specs.Prelude.{◌≡◌, Bool, List, Result, Ok, Err, ⊤}
use Rattle.ap_syntax.specs.declared.rules.Rule.{Rule}
use Rattle.pred_graph.specs.Known.{Known, IsSafe}
use Rattle.ap_safety.specs.declared.fault.SafetyFault.{SafetyFault}
use Rattle.ap_safety.specs.declared.fault.SafetyFault.TheVariants.{Unsafe, AggregateRecursion, Recursion, Memory}
use Rattle.ap_bindings.specs.Texts.{IsFirst, NoneFails}
use Rattle.ap_safety.specs.Conditions.{rule_place, HasAggregateFault, HasRecursion}

-- an aggregate's recursion comes before any other
abbrev pub IsRecursionAnswer : List Rule → Bool → Result Known SafetyFault → Type 0
IsRecursionAnswer rules base (Ok safe) = NoneFails (HasAggregateFault base rules) rules × NoneFails (HasRecursion base rules) rules
    × IsSafe rules safe × (safe.base ≡ base)
IsRecursionAnswer rules base (Err (Unsafe file at variable)) = ⊥
IsRecursionAnswer rules base (Err (AggregateRecursion file at)) =
    (rule : Rule) × IsFirst rule_place (HasAggregateFault base rules) rules (record { file = file; at = at }) rule
IsRecursionAnswer rules base (Err (Recursion file at)) = NoneFails (HasAggregateFault base rules) rules
    × ((rule : Rule) × IsFirst rule_place (HasRecursion base rules) rules (record { file = file; at = at }) rule)
IsRecursionAnswer rules base (Err Memory) = ⊤
