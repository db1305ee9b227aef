-- The static conditions, and the answers that tell which of them fails first.
use Rattle.std.specs.Prelude.{◌≢◌, ℕ, Bool, true, false, List, [], ◌∷◌, ◌++◌, map, flat_map, Contains, Any, ◌⊎◌}
use Rattle.ap_syntax.specs.declared.terms.Literal.{Literal}
use Rattle.ap_syntax.specs.declared.rules.BodyItem.{BodyItem}
use Rattle.ap_syntax.specs.declared.rules.BodyItem.TheVariants.{Plain, All, Agg}
use Rattle.ap_syntax.specs.declared.rules.ChoiceElement.{ChoiceElement}
use Rattle.ap_syntax.specs.declared.rules.Rule.{Rule}
use Rattle.ap_syntax.specs.declared.preferences.Element.{Element}
use Rattle.ap_syntax.specs.declared.preferences.Preference.{Preference}
use Rattle.pred_graph.specs.declared.pred.Pred.{Pred}
use Rattle.ap_pieces.specs.Pieces.{rule_pieces, piece_occurrences}
use Rattle.ap_bindings.specs.Texts.{Place}
use Rattle.pred_graph.specs.Predicates.{head_preds, choice_elements, pred_of, preds_of, positives_of, item_preds, item_positives, aggregate_preds}
use Rattle.pred_graph.specs.Components.{AreMutual, IsDefinite}

abbrev pub rule_place : Rule → Place
rule_place rule = record { file = rule.file; at = rule.at }

-- ---- recursion

-- one of these is in the component of a head
abbrev pub MeetsHead : List Rule → Rule → List Pred → Type 0
MeetsHead rules rule preds = (h q : Pred) × Contains (head_preds rule.head) h × Contains preds q × AreMutual rules h q

-- an aggregate mentions a predicate of the component of a head
abbrev pub HasAggregateRecursion : List Rule → Rule → Type 0
HasAggregateRecursion rules rule = MeetsHead rules rule (flat_map aggregate_preds rule.body)

-- `_` included
abbrev pub HasVariable : Rule → Type 0
HasVariable rule = flat_map piece_occurrences (rule_pieces rule) ≢ []

-- a positive literal of its condition is in the component of its atom
abbrev pub MeetsAtom : List Rule → ChoiceElement → Type 0
MeetsAtom rules element = (q : Pred) × Contains (positives_of element.condition) q × AreMutual rules (pred_of element.atom) q

-- In a base program a rule with a variable may not go through its head again by positive literals. In a type's program
-- no rule may mention a predicate of its head's component in its body.
abbrev pub HasRecursion : Bool → List Rule → Rule → Type 0
HasRecursion true rules rule = HasVariable rule × (MeetsHead rules rule (flat_map item_positives rule.body) ⊎ Any (MeetsAtom rules) (choice_elements rule.head))
HasRecursion false rules rule = MeetsHead rules rule (flat_map item_preds rule.body)

-- aggregates are looked at in base programs alone: in a type's program what they mention is a recursion like any other
abbrev pub HasAggregateFault : Bool → List Rule → Rule → Type 0
HasAggregateFault true rules rule = HasAggregateRecursion rules rule
HasAggregateFault false rules rule = ⊥

-- ---- domains

-- the condition of a conditional literal, or the `:` part of an element, with its place
pub record Domain : Type 0 where
  pub file : ℕ
  pub at : ℕ
  pub condition : List Literal

abbrev pub domain_place : Domain → Place
domain_place d = record { file = d.file; at = d.at }

abbrev pub item_domains : ℕ → BodyItem → List Domain
item_domains file (Plain literal) = []
item_domains file (All at literal condition) = record { file = file; at = at; condition = condition } ∷ []
item_domains file (Agg negated left function elements right) = []

abbrev pub rule_domains : Rule → List Domain
rule_domains rule = flat_map (item_domains rule.file) rule.body

abbrev pub element_domain : ℕ → Element → Domain
element_domain file element = record { file = file; at = element.at; condition = element.domain }

abbrev pub statement_domains : Preference → List Domain
statement_domains statement = map (element_domain statement.file) statement.elements

abbrev pub domains : List Rule → List Preference → List Domain
domains rules statements = flat_map rule_domains rules ++ flat_map statement_domains statements

abbrev pub IsIndefinite : List Rule → Bool → Domain → Type 0
IsIndefinite rules base d = (p : Pred) × Contains (preds_of d.condition) p × (IsDefinite rules base p → ⊥)
