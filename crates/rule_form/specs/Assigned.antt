-- Answer sets where some aggregates are read in a given set in place of the set that is asked about: assignment aggregates are read
-- in the certain atoms.
use Rattle.std.specs.Prelude.{ℕ, Bool, List, All, Contains}
use Rattle.ap_term.specs.Value.{Value}
use Rattle.rule_form.specs.AnswerSets.{IsStable, HeadHas, HeadPermits}
use Rattle.rule_form.specs.Globals.{global_variables}
use Rattle.rule_form.specs.Possible.{If}
use Rattle.rule_form.specs.Trees.{Aggregate, Item, Rule}
use Rattle.rule_form.specs.Truth.{AtomSet, In, Out, ItemHolds, AggregateHolds, AggregateTrue}
use Rattle.rule_form.specs.Values.{Substitution}

module _ (assigned : Aggregate → Bool) (sure : Value → Type 0) where
  -- an assignment aggregate is read in the given set, and any other in x
  abbrev pub AggregateTrueBy : List (List ℕ) → AtomSet → Substitution → Aggregate → Type 0
  AggregateTrueBy globals x s g =
      If (assigned g) (AggregateHolds globals sure (λ b. sure b → ⊥) s g) (AggregateTrue globals x s g)

  -- a part of a body is true
  abbrev pub ItemTrueBy : List (List ℕ) → AtomSet → AtomSet → Substitution → Item → Type 0
  ItemTrueBy globals x y s item = ItemHolds (In y) (Out x) (In x) (Out x) (AggregateTrueBy globals x s) globals s item

  -- a body is true
  abbrev pub BodyTrueBy : AtomSet → AtomSet → Substitution → Rule → Type 0
  BodyTrueBy x y s rule = All (ItemTrueBy (global_variables rule) x y s) rule.body

  -- an instance of the rule gives a rule with the head a to the reduct by x, and y has its body
  abbrev pub RuleDerivesBy : AtomSet → AtomSet → Rule → Value → Type 0
  RuleDerivesBy x y rule a =
      (s : Substitution) × HeadHas (global_variables rule) x y s rule.head a × BodyTrueBy x y s rule

  -- one of the rules does
  abbrev pub DerivesBy : List Rule → AtomSet → AtomSet → Value → Type 0
  DerivesBy rules x y a = (rule : Rule) × Contains rules rule × RuleDerivesBy x y rule a

  -- x meets the constraints and the guards of choices
  abbrev pub PermitsBy : List Rule → AtomSet → Type 0
  PermitsBy rules x = (rule : Rule) (s : Substitution) → Contains rules rule → BodyTrueBy x x s rule
      → HeadPermits (global_variables rule) x s rule.head

  -- x is an answer set of the rules with these facts
  abbrev pub IsAnswerSetBy : List Rule → (Value → Type 0) → AtomSet → Type 0
  IsAnswerSetBy rules facts x = IsStable (DerivesBy rules) (PermitsBy rules) facts x
