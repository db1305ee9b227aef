-- The predicates of rules, and which depend on which.
use Rattle.std.specs.Prelude.{◌≡◌, List, [], ◌∷◌, ◌++◌, map, flat_map, length, Contains, Any, ◌⊎◌}
use Rattle.ap_syntax.specs.declared.terms.Atom.{Atom}
use Rattle.ap_syntax.specs.declared.terms.Literal.{Literal}
use Rattle.ap_syntax.specs.declared.terms.Literal.TheVariants.{Pos, Not, Compare}
use Rattle.ap_syntax.specs.declared.rules.ChoiceElement.{ChoiceElement}
use Rattle.ap_syntax.specs.declared.rules.AggElement.{AggElement}
use Rattle.ap_syntax.specs.declared.rules.BodyItem.{BodyItem}
use Rattle.ap_syntax.specs.declared.rules.BodyItem.TheVariants.{Plain, All, Agg}
use Rattle.ap_syntax.specs.declared.rules.HeadForm.{HeadForm}
use Rattle.ap_syntax.specs.declared.rules.HeadForm.TheVariants.{One, Choice, Nothing}
use Rattle.ap_syntax.specs.declared.rules.Rule.{Rule}
use Rattle.pred_graph.specs.declared.pred.Pred.{Pred}
use Rattle.pred_graph.specs.Walks.{Leads}

-- ---- of literals

-- a predicate has a name and an arity
abbrev pub pred_of : Atom → Pred
pred_of atom = record { name = atom.name; arity = length atom.terms }

abbrev pub literal_preds : Literal → List Pred
literal_preds (Pos atom) = pred_of atom ∷ []
literal_preds (Not atom) = pred_of atom ∷ []
literal_preds (Compare left rel right) = []

abbrev pub positive_preds : Literal → List Pred
positive_preds (Pos atom) = pred_of atom ∷ []
positive_preds (Not atom) = []
positive_preds (Compare left rel right) = []

abbrev pub preds_of : List Literal → List Pred
preds_of literals = flat_map literal_preds literals

abbrev pub positives_of : List Literal → List Pred
positives_of literals = flat_map positive_preds literals

-- ---- of heads

abbrev pub element_pred : ChoiceElement → Pred
element_pred element = pred_of element.atom

abbrev pub choice_preds : HeadForm → List Pred
choice_preds (One atom) = []
choice_preds (Choice left elements right) = map element_pred elements
choice_preds Nothing = []

abbrev pub head_preds : HeadForm → List Pred
head_preds (One atom) = pred_of atom ∷ []
head_preds (Choice left elements right) = map element_pred elements
head_preds Nothing = []

abbrev pub choice_elements : HeadForm → List ChoiceElement
choice_elements (One atom) = []
choice_elements (Choice left elements right) = elements
choice_elements Nothing = []

-- the predicates of an element's condition
abbrev pub condition_preds : ChoiceElement → List Pred
condition_preds element = preds_of element.condition

-- ---- of bodies

abbrev pub tuple_preds : AggElement → List Pred
tuple_preds element = preds_of element.condition

abbrev pub aggregate_preds : BodyItem → List Pred
aggregate_preds (Plain literal) = []
aggregate_preds (All at literal condition) = []
aggregate_preds (Agg negated left function elements right) = flat_map tuple_preds elements

-- the predicates that a part of a body mentions, in whatever way
abbrev pub item_preds : BodyItem → List Pred
item_preds (Plain literal) = literal_preds literal
item_preds (All at literal condition) = literal_preds literal ++ preds_of condition
item_preds (Agg negated left function elements right) = flat_map tuple_preds elements

-- those of the positive literals outside aggregates, inside and outside of conditional literals
abbrev pub item_positives : BodyItem → List Pred
item_positives (Plain literal) = positive_preds literal
item_positives (All at literal condition) = positive_preds literal ++ positives_of condition
item_positives (Agg negated left function elements right) = []

-- ---- dependencies

-- a head depends on each predicate of the body, and the atom of a choice on those of its own condition
abbrev pub DependsBy : Pred → Pred → Rule → Type 0
DependsBy p q rule = (Contains (head_preds rule.head) p × Contains (flat_map item_preds rule.body) q)
    ⊎ Any (λ (element : ChoiceElement). (pred_of element.atom ≡ p) × Contains (preds_of element.condition) q) (choice_elements rule.head)

abbrev pub Depends : List Rule → Pred → Pred → Type 0
Depends rules p q = Any (DependsBy p q) rules

-- there is a walk from p to q, on which each predicate depends on the next one
abbrev pub Reaches : List Rule → Pred → Pred → Type 0
Reaches rules p q = Leads (Depends rules) p q

-- the predicates that rules mention
abbrev pub IsMentionedBy : Pred → Rule → Type 0
IsMentionedBy p rule = Contains (head_preds rule.head) p ⊎ (Contains (flat_map item_preds rule.body) p
    ⊎ Any (λ (element : ChoiceElement). Contains (preds_of element.condition) p) (choice_elements rule.head))

abbrev pub IsMentioned : List Rule → Pred → Type 0
IsMentioned rules p = Any (IsMentionedBy p) rules

-- the same as a list
abbrev pub rule_preds : Rule → List Pred
rule_preds rule = head_preds rule.head ++ flat_map item_preds rule.body ++ flat_map condition_preds (choice_elements rule.head)
