-- What static conditions give of rules: conditions, and aggregates that are evaluated, are over definite atoms of lower components, and so
-- is all that a definite predicate depends on.
use Rattle.std.specs.Prelude.{ℕ, ◌<◌, List, All, Contains, IsTrue}
use Rattle.ap_term.specs.Value.{Value}
use Rattle.rule_form.specs.Possible.{Setting, level, IsHeadLevel}
use Rattle.rule_form.specs.Trees.{Literal, Pos, Not, Compare, Element, Aggregate, Item, Plain, Each, Agg, Choosable, Head, One, Choice, Nothing, Rule}
use Rattle.rule_form.specs.Values.{Substitution, IsAtom}

-- the atom is one for which the literal stands
abbrev pub IsAtomOf : Substitution → Literal → Value → Type 0
IsAtomOf u (Pos atom) b = IsAtom u atom b
IsAtomOf u (Not atom) b = IsAtom u atom b
IsAtomOf u (Compare left rel right) b = ⊥

-- b is an atom for which a literal of the condition stands
abbrev pub InCondition : List Literal → Value → Type 0
InCondition c b = (l : Literal) × (u : Substitution) × Contains c l × IsAtomOf u l b

-- b is an atom for which a literal of a condition of the aggregate stands
abbrev pub InAggregate : Aggregate → Value → Type 0
InAggregate g b = (e : Element) × Contains g.elements e × InCondition e.condition b

-- a is an atom for which the head stands
abbrev pub IsHeadAtom : Head → Value → Type 0
IsHeadAtom (One atom) a = (u : Substitution) × IsAtom u atom a
IsHeadAtom (Choice left elements right) a =
    (e : Choosable) × (u : Substitution) × Contains elements e × IsAtom u e.atom a
IsHeadAtom Nothing a = ⊥

-- the head is one atom
abbrev pub IsOne : Head → Type 0
IsOne (One atom) = Unit {0}
IsOne (Choice left elements right) = ⊥
IsOne Nothing = ⊥

-- a definite atom that is lower than each head
abbrev pub IsDefiniteBelow : Setting → (Value → Type 0) → Rule → Value → Type 0
IsDefiniteBelow setting definite rule b = definite b × ((n : ℕ) → IsHeadLevel setting rule.head n → level setting b < n)

-- what the item derives from is definite and lower than n
abbrev pub IsDefiniteItem : Setting → (Value → Type 0) → ℕ → Item → Type 0
IsDefiniteItem setting definite n (Plain l) =
    (u : Substitution) (b : Value) → IsAtomOf u l b → definite b × (level setting b < n)
IsDefiniteItem setting definite n (Each l c) =
    (u : Substitution) (b : Value) → IsAtomOf u l b → definite b × (level setting b < n)
IsDefiniteItem setting definite n (Agg g) = IsTrue (setting.evaluated g)

-- what static conditions give of one rule
pub record IsStatic (setting : Setting) (definite : Value → Type 0) (rule : Rule) : Type 0 where
  pub conditions : (l : Literal) (c : List Literal) → Contains rule.body (Each l c) → (b : Value) → InCondition c b
      → IsDefiniteBelow setting definite rule b
  pub aggregates : (g : Aggregate) → Contains rule.body (Agg g) → IsTrue (setting.evaluated g) → (b : Value)
      → InAggregate g b → IsDefiniteBelow setting definite rule b
  -- a rule for a definite atom
  pub head : (a : Value) → IsHeadAtom rule.head a → definite a → IsOne rule.head
  pub body : (a : Value) → IsHeadAtom rule.head a → definite a
      → All (IsDefiniteItem setting definite (level setting a)) rule.body

-- what they give of all rules, where no input is definite
pub record AreStatic (setting : Setting) (definite : Value → Type 0) : Type 0 where
  pub rules : (rule : Rule) → Contains setting.rules rule → IsStatic setting definite rule
  pub inputs : (a : Value) → Contains setting.inputs a → definite a → ⊥
