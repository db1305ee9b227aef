-- Static conditions in terms of predicates.
use Rattle.std.specs.Prelude.{ℕ, ◌<◌, Bool, List, [], ◌∷◌, ◌++◌, map, flat_map, Contains, IsTrue}
use Rattle.ap_term.specs.Value.{Value, integer, constant, string, compound, arity}
use Rattle.rule_form.specs.Possible.{Setting, terms_count}
use Rattle.rule_form.specs.Static.{IsOne}
use Rattle.rule_form.specs.Trees.{Atom, Literal, Pos, Not, Compare, Element, Aggregate, Item, Plain, Each, Agg, Choosable, Head, One, Choice, Nothing, Rule}

-- a name and an arity
pub record Predicate : Type 0 where
  pub name : List ℕ
  pub arity : ℕ

-- the predicate of an atom with variables
abbrev pub predicate : Atom → Predicate
predicate atom = record { name = atom.name; arity = terms_count atom.terms }

-- the predicate of an atom; an integer and a string have that of the empty name
abbrev pub predicate_of : Value → Predicate
predicate_of (integer n) = record { name = []; arity = 0 }
predicate_of (constant name) = record { name = name; arity = 0 }
predicate_of (string bytes) = record { name = []; arity = 0 }
predicate_of (compound name vs) = record { name = name; arity = arity vs }

-- the predicate of a literal
abbrev pub literal_predicates : Literal → List Predicate
literal_predicates (Pos atom) = predicate atom ∷ []
literal_predicates (Not atom) = predicate atom ∷ []
literal_predicates (Compare left rel right) = []

-- the predicates of a condition
abbrev pub condition_predicates : List Literal → List Predicate
condition_predicates c = flat_map literal_predicates c

-- those of an aggregate
abbrev pub aggregate_predicates : Aggregate → List Predicate
aggregate_predicates g = flat_map (λ (e : Element). condition_predicates e.condition) g.elements

-- those of a part of a body
abbrev pub item_predicates : Item → List Predicate
item_predicates (Plain l) = literal_predicates l
item_predicates (Each l c) = literal_predicates l ++ condition_predicates c
item_predicates (Agg g) = aggregate_predicates g

-- those of a head
abbrev pub head_predicates : Head → List Predicate
head_predicates (One atom) = predicate atom ∷ []
head_predicates (Choice left elements right) = map (λ (e : Choosable). predicate e.atom) elements
head_predicates Nothing = []

-- the number of the component of a predicate
abbrev pub component_of : Setting → Predicate → ℕ
component_of setting p = setting.component p.name p.arity

-- what static conditions give of the predicates of a setting
pub record IsOrdered (setting : Setting) (definite : Predicate → Bool) : Type 0 where
  -- a definite predicate of a body is lower than the heads
  pub lower : (rule : Rule) → Contains setting.rules rule → (h q : Predicate) → Contains (head_predicates rule.head) h
      → Contains (flat_map item_predicates rule.body) q → IsTrue (definite q)
      → component_of setting q < component_of setting h
  -- conditions of conditional literals, and aggregates that are evaluated, have definite predicates alone
  pub conditions : (rule : Rule) → Contains setting.rules rule → (l : Literal) (c : List Literal)
      → Contains rule.body (Each l c) → (q : Predicate) → Contains (condition_predicates c) q → IsTrue (definite q)
  pub evaluated : (g : Aggregate) → IsTrue (setting.evaluated g) → (q : Predicate)
      → Contains (aggregate_predicates g) q → IsTrue (definite q)
  -- a definite predicate is in no choice, and all in the bodies of its rules is definite
  pub no_choice : (rule : Rule) → Contains setting.rules rule → (h : Predicate)
      → Contains (head_predicates rule.head) h → IsTrue (definite h) → IsOne rule.head
  pub bodies : (rule : Rule) → Contains setting.rules rule → (h q : Predicate)
      → Contains (head_predicates rule.head) h → IsTrue (definite h) → Contains (flat_map item_predicates rule.body) q
      → IsTrue (definite q)
  pub all_evaluated : (g : Aggregate) → ((q : Predicate) → Contains (aggregate_predicates g) q → IsTrue (definite q))
      → IsTrue (setting.evaluated g)
  pub inputs : (a : Value) → Contains setting.inputs a → IsTrue (definite (predicate_of a)) → ⊥
