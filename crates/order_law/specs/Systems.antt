-- The orders of all statements at once, by recursion along what each statement names.
use Rattle.std.specs.Prelude.{◌≡◌, ◌↔◌, ℕ, ◌<◌, Bool, List, Contains, IsTrue}
use Rattle.ap_term.specs.Value.{Value}
use Rattle.element_form.specs.Facts.{Asked}
use Rattle.element_form.specs.Flips.{IsPath}
use Rattle.element_form.specs.Greater.{IsGreater}
use Rattle.element_form.specs.Ground.{Statement, HasName}
use Rattle.order_law.specs.Lawful.{IsLawful}
use Rattle.pref_kinds.specs.declared.built_in.BuiltIn.{BuiltIn}
use Rattle.pref_kinds.specs.declared.built_in.BuiltIn.TheVariants.{Subset, Superset, LessCardinality, MoreCardinality, LessWeight, MoreWeight, Aso, Poset, Cp, Pareto, Lexico, And, Neg}
use Rattle.type_law.specs.Orders.{Better, Bettereq, Eq}

-- a set, by the formulas that it satisfies
abbrev pub Satisfied : Type 0
Satisfied = Value → Bool

-- the three relations of each statement, by its name; the first set is the new one
pub record Relations : Type 0 where
  pub better : Value → Satisfied → Satisfied → Bool
  pub bettereq : Value → Satisfied → Satisfied → Bool
  pub eq : Value → Satisfied → Satisfied → Bool

-- what a statement may ask of two sets: worse is better with the sets exchanged
abbrev pub asked_of : Relations → Satisfied → Satisfied → Asked
asked_of r x y = record {
  new = x;
  old = y;
  better = λ q. r.better q x y;
  bettereq = λ q. r.bettereq q x y;
  eq = λ q. r.eq q x y;
  worse = λ q. r.better q y x;
  worseeq = λ q. r.bettereq q y x;
}

-- a statement of a built-in type
pub record Declared : Type 0 where
  pub kind : BuiltIn
  pub statement : Statement

-- the relations of each of these statements are those of its type, over those of the statements that it names
pub record AreOrders (statements : List Declared) (r : Relations) : Type 0 where
  pub better_is : (d : Declared) (x y : Satisfied) → Contains statements d
      → IsTrue (r.better d.statement.name x y) ↔ Better d.kind d.statement (asked_of r x y)
  pub bettereq_is : (d : Declared) (x y : Satisfied) → Contains statements d
      → IsTrue (r.bettereq d.statement.name x y) ↔ Bettereq d.kind d.statement (asked_of r x y)
  pub eq_is : (d : Declared) (x y : Satisfied) → Contains statements d
      → IsTrue (r.eq d.statement.name x y) ↔ Eq d.kind d.statement (asked_of r x y)

-- each named statement is one of these, and is lower
abbrev pub IsNamed : List Declared → (Value → ℕ) → Declared → Type 0
IsNamed statements level d = (q : Value) → HasName d.statement q → (e : Declared) × Contains statements e
    × (q ≡ e.statement.name) × (level q < level d.statement.name)

-- what the order of a statement rests on, besides what it names: no formula of `poset` is greater than itself, and no state of
-- `cp` reaches itself; `and` names a statement, and `neg` just one
abbrev pub HasOrder : BuiltIn → Statement → Type 0
HasOrder Poset st = (f : Value) → IsGreater st f f → ⊥
HasOrder Cp st = (u : Value) → IsPath st u u → ⊥
HasOrder And st = (q : Value) × HasName st q
HasOrder Neg st = (q : Value) × HasName st q × ((p : Value) → HasName st p → p ≡ q)
HasOrder Subset st = Unit {0}
HasOrder Superset st = Unit {0}
HasOrder LessCardinality st = Unit {0}
HasOrder MoreCardinality st = Unit {0}
HasOrder LessWeight st = Unit {0}
HasOrder MoreWeight st = Unit {0}
HasOrder Aso st = Unit {0}
HasOrder Pareto st = Unit {0}
HasOrder Lexico st = Unit {0}

-- the relations of the statement of this name are lawful
abbrev pub IsLawfulStatement : Relations → Value → Type 0
IsLawfulStatement r q = IsLawful (λ x y. IsTrue (r.better q x y)) (λ x y. IsTrue (r.bettereq q x y))
    (λ x y. IsTrue (r.eq q x y))

-- statements of built-in types that name only one another, with their orders
pub record AreBuiltIn (statements : List Declared) (r : Relations) : Type 0 where
  pub level : Value → ℕ
  pub orders : AreOrders statements r
  pub named : (d : Declared) → Contains statements d → IsNamed statements level d
  pub fits : (d : Declared) → Contains statements d → HasOrder d.kind d.statement

-- the first set of atoms is preferred to the second by the statement of this name; `satisfied` tells which formulas a set satisfies
abbrev pub Prefers : {S : Type 0} → Relations → Value → (S → Satisfied) → S → S → Type 0
Prefers r q satisfied x y = IsTrue (r.better q (satisfied x) (satisfied y))

-- no two of the statements have one name
abbrev pub AreApart : List Declared → Type 0
AreApart statements = (d e : Declared) → Contains statements d → Contains statements e
    → d.statement.name ≡ e.statement.name → d ≡ e
