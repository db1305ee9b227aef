-- What a grounder is given, as rules with variables see it.
use Rattle.std.specs.Prelude.{ℕ, Bool, List, map, Contains, IsTrue}
use Rattle.std.specs.List.{list_all}
use Rattle.ap_syntax.specs.declared.rules.BodyItem.TheVariants as items
use Rattle.ap_syntax.specs.declared.rules.Rule as written_rule
use Rattle.ap_syntax.specs.declared.terms.Literal as written_literal
use Rattle.ap_term.specs.Value.{Value}
use Rattle.pred_graph.specs.Predicates.{preds_of}
use Rattle.pred_graph.specs.declared.pred.Pred.{Pred}
use Rattle.rule_form.specs.Possible.{Setting}
use Rattle.rule_form.specs.Predicates.{Predicate, aggregate_predicates, predicate_of}
use Rattle.rule_form.specs.Readings.{read_rule}
use Rattle.rule_form.specs.Trees.{Aggregate}

-- a set of predicates, given by its test on the predicates of the parser's rules
abbrev pub is_among : (Pred → Bool) → Predicate → Bool
is_among definite p = definite (record { name = p.name; arity = p.arity })

-- an aggregate is evaluated where each of its predicates is definite
abbrev pub is_evaluated : (Pred → Bool) → Aggregate → Bool
is_evaluated definite g = list_all (is_among definite) (aggregate_predicates g)

-- the rules with the numbers of the components of their predicates, the atoms that are handed in as certain, and the inputs
abbrev pub setting_of : List written_rule.Rule → (Pred → ℕ) → (Pred → Bool) → List Value → List Value → Setting
setting_of rules number definite certain inputs = record {
  rules = map read_rule rules;
  component = λ name arity. number (record { name = name; arity = arity });
  evaluated = is_evaluated definite;
  certain = certain;
  inputs = inputs;
}

-- conditions of conditional literals have definite predicates alone
abbrev pub AreConditionsDefinite : List written_rule.Rule → (Pred → Bool) → Type 0
AreConditionsDefinite rules definite =
    (rule : written_rule.Rule) (at : ℕ) (literal : written_literal.Literal) (condition : List written_literal.Literal) (p : Pred)
    → Contains rules rule → Contains rule.body (items.All at literal condition) → Contains (preds_of condition) p
    → IsTrue (definite p)

-- no input has a definite predicate
abbrev pub AreInputsOpen : (Pred → Bool) → List Value → Type 0
AreInputsOpen definite inputs = (a : Value) → Contains inputs a → IsTrue (is_among definite (predicate_of a)) → ⊥
