-- The tests by which the conditions are decided, by the numbers of components.
use Rattle.std.specs.Prelude.{ℕ, ◌+◌, Bool, true, false, not, ◌&&◌, ◌||◌, ◌==◌, nat_lt, if◌then◌else◌, List, [], ◌∷◌, flat_map, fold, length, Option, Some, None, ⊤}
use Rattle.std.specs.List.{list_any}
use Rattle.ap_syntax.specs.declared.rules.Rule.{Rule}
use Rattle.ap_syntax.specs.declared.rules.ChoiceElement.{ChoiceElement}
use Rattle.pred_graph.specs.declared.pred.Pred.{Pred}
use Rattle.pred_graph.specs.Known.{Known, component_in, definite_in}
use Rattle.ap_bindings.specs.declared.search.Failing.{Failing}
use Rattle.ap_safety.specs.declared.conditions.RuleFault.{RuleFault}
use Rattle.ap_safety.specs.declared.conditions.RuleFault.TheVariants.{Aggregate, Recursion}
use Rattle.ap_bindings.specs.Texts.{first_failing}
use Rattle.ap_pieces.specs.declared.variables.Occurrence.{Occurrence}
use Rattle.ap_pieces.specs.Pieces.{rule_pieces, piece_occurrences}
use Rattle.pred_graph.specs.Predicates.{pred_of, preds_of, positives_of, head_preds, aggregate_preds, item_preds, item_positives, choice_elements}
use Rattle.ap_safety.specs.Conditions.{Domain, HasAggregateFault, HasRecursion}

-- ---- variables

abbrev pub is_some_occurrence : List Occurrence → Bool
is_some_occurrence [] = false
is_some_occurrence (o ∷ os) = true

abbrev pub has_variable : Rule → Bool
has_variable rule = list_any (λ piece. is_some_occurrence (piece_occurrences piece)) (rule_pieces rule)

-- ---- components

-- the lower of a component that was found (0 for none) and another
abbrev pub lower : ℕ → ℕ → ℕ
lower found number = if (found == 0) || nat_lt number found then number else found

abbrev pub lower_of : Known → ℕ → Pred → ℕ
lower_of safe found p = lower found (component_in safe p)

-- The lowest component of these predicates; 0 for none. No predicate of a rule's body has a higher one than a head.
abbrev pub lowest : Known → List Pred → ℕ
lowest safe preds = fold (lower_of safe) 0 preds

abbrev pub head_component : Known → Rule → ℕ
head_component safe rule = lowest safe (head_preds rule.head)

-- one of the predicates is in this component
abbrev pub meets : Known → ℕ → List Pred → Bool
meets safe number preds = list_any (λ q. component_in safe q == number) preds

abbrev pub meets_atom : Known → ChoiceElement → Bool
meets_atom safe element = meets safe (component_in safe (pred_of element.atom)) (positives_of element.condition)

-- ---- rules

abbrev pub has_aggregate_fault : Known → Rule → Bool
has_aggregate_fault safe rule = safe.base && meets safe (head_component safe rule) (flat_map aggregate_preds rule.body)

abbrev pub base_recursion : Known → Rule → Bool
base_recursion safe rule =
    has_variable rule && (meets safe (head_component safe rule) (flat_map item_positives rule.body) || list_any (meets_atom safe) (choice_elements rule.head))

abbrev pub kind_recursion : Known → Rule → Bool
kind_recursion safe rule = meets safe (head_component safe rule) (flat_map item_preds rule.body)

abbrev pub has_recursion : Known → Rule → Bool
has_recursion safe rule = if safe.base then base_recursion safe rule else kind_recursion safe rule

abbrev pub has_fault : RuleFault → Known → Rule → Bool
has_fault Aggregate safe rule = has_aggregate_fault safe rule
has_fault Recursion safe rule = has_recursion safe rule

abbrev pub HasFault : RuleFault → Bool → List Rule → Rule → Type 0
HasFault Aggregate base rules rule = HasAggregateFault base rules rule
HasFault Recursion base rules rule = HasRecursion base rules rule

abbrev pub rule_failing : RuleFault → Known → Rule → Option (Failing ⊤)
rule_failing fault safe rule = if has_fault fault safe rule then Some (record { file = rule.file; at = rule.at; what = tt }) else None

abbrev pub look_at_rule : RuleFault → Known → Option (Failing ⊤) → Rule → Option (Failing ⊤)
look_at_rule fault safe found rule = first_failing found (rule_failing fault safe rule)

-- the first of `found` and of the rules that fail
abbrev pub first_rule : RuleFault → Known → Option (Failing ⊤) → List Rule → Option (Failing ⊤)
first_rule fault safe found rules = fold (look_at_rule fault safe) found rules

-- ---- domains

abbrev pub is_indefinite : Known → Domain → Bool
is_indefinite safe d = list_any (λ p. not (definite_in safe p)) (preds_of d.condition)

abbrev pub domain_failing : Known → Domain → Option (Failing ⊤)
domain_failing safe d = if is_indefinite safe d then Some (record { file = d.file; at = d.at; what = tt }) else None

abbrev pub look_at : Known → Option (Failing ⊤) → Domain → Option (Failing ⊤)
look_at safe found d = first_failing found (domain_failing safe d)

-- the first of `found` and of those that fail
abbrev pub first_domain : Known → Option (Failing ⊤) → List Domain → Option (Failing ⊤)
first_domain safe found ds = fold (look_at safe) found ds
