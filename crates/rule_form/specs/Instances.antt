-- Instances of rules: one value for each term outside braces and conditional literals, with true comparisons.
use Rattle.std.specs.Prelude.{◌≡◌, ℕ, ℤ, Bool, true, not, ◌&&◌, List, [], ◌∷◌, ◌++◌, Option, Some, None, slice_get, IsTrue}
use Rattle.std.specs.Bool.{beq}
use Rattle.ap_term.specs.Value.{Value, integer, Values, none, also}
use Rattle.rule_form.specs.Globals.{Agrees, global_variables}
use Rattle.rule_form.specs.Trees.{Literal, Pos, Not, Compare, Guard, Aggregate, Item, Plain, Each, Agg, Head, One, Choice, Nothing, Rule}
use Rattle.rule_form.specs.Truth.{IsAggregateNumber, IsOfRange, compares}
use Rattle.rule_form.specs.Values.{Substitution, IsValue, AreValues, IsAtom, atom_value}

-- an aggregate of the body with the values of its guards
pub record GuardedAggregate : Type 0 where
  pub aggregate : Aggregate
  pub left : Option Value
  pub right : Option Value

-- `place` is the rule's number, and `outer` has the value of each term outside braces and conditional literals, in the order of the
-- text. The atoms are those of the head and of the plain literals of the body; `left` and `right` are the values of a choice's guards
pub record Instance : Type 0 where
  pub place : ℕ
  pub rule : Rule
  pub values : Substitution
  pub outer : List Value
  pub head : Option Value
  pub left : Option Value
  pub right : Option Value
  pub positive : List Value
  pub negative : List Value
  pub aggregates : List GuardedAggregate

-- the values as a list
abbrev pub value_list : Values → List Value
value_list none = []
value_list (also v vs) = v ∷ value_list vs

-- the value, if there is one
abbrev pub if_any : Option Value → List Value
if_any None = []
if_any (Some v) = v ∷ []

-- v is a value of the guard, if there is one
abbrev pub IsGuardValue : Substitution → Option Guard → Option Value → Type 0
IsGuardValue s None v = v ≡ None
IsGuardValue s (Some guard) v = (w : Value) × IsValue s guard.term w × IsOfRange w × (v ≡ Some w)

-- the values, the positive and negative atoms and the aggregates of a body
abbrev pub AreParts : Substitution → List Item → List Value → List Value → List Value → List GuardedAggregate → Type 0
AreParts s [] vs ps ns gs = (vs ≡ []) × (ps ≡ []) × (ns ≡ []) × (gs ≡ [])
AreParts s (Plain (Pos atom) ∷ items) vs ps ns gs =
    (ws : Values) × (rest qs : List Value) × AreValues s atom.terms ws × (vs ≡ value_list ws ++ rest)
    × (ps ≡ atom_value atom.name ws ∷ qs) × AreParts s items rest qs ns gs
AreParts s (Plain (Not atom) ∷ items) vs ps ns gs =
    (ws : Values) × (rest ms : List Value) × AreValues s atom.terms ws × (vs ≡ value_list ws ++ rest)
    × (ns ≡ atom_value atom.name ws ∷ ms) × AreParts s items rest ps ms gs
AreParts s (Plain (Compare left rel right) ∷ items) vs ps ns gs =
    (v w : Value) × (rest : List Value) × IsValue s left v × IsValue s right w × IsTrue (compares rel v w)
    × (vs ≡ v ∷ w ∷ rest) × AreParts s items rest ps ns gs
AreParts s (Each literal condition ∷ items) vs ps ns gs = AreParts s items vs ps ns gs
AreParts s (Agg g ∷ items) vs ps ns gs =
    (l r : Option Value) × (rest : List Value) × (more : List GuardedAggregate) × IsGuardValue s g.left l
    × IsGuardValue s g.right r
    × (vs ≡ if_any l ++ if_any r ++ rest) × (gs ≡ record {
      aggregate =
          g;
      left = l;
      right = r;
    } ∷ more) × AreParts s items rest ps ns more

-- the values, the atom and the values of the guards of a head
abbrev pub IsHeadPart : Substitution → Head → List Value → Option Value → Option Value → Option Value → Type 0
IsHeadPart s (One atom) vs h l r =
    (ws : Values) × AreValues s atom.terms ws × (vs ≡ value_list ws) × (h ≡ Some (atom_value atom.name ws))
    × (l ≡ None) × (r ≡ None)
IsHeadPart s (Choice left elements right) vs h l r =
    IsGuardValue s left l × IsGuardValue s right r × (vs ≡ if_any l ++ if_any r) × (h ≡ None)
IsHeadPart s Nothing vs h l r = (vs ≡ []) × (h ≡ None) × (l ≡ None) × (r ≡ None)

-- i is an instance of one of the rules
pub record IsInstance (rules : List Rule) (i : Instance) : Type 0 where
  pub rule : slice_get rules i.place ≡ Some i.rule
  pub of_head : List Value
  pub of_body : List Value
  pub head : IsHeadPart i.values i.rule.head of_head i.head i.left i.right
  pub body : AreParts i.values i.rule.body of_body i.positive i.negative i.aggregates
  pub outer : i.outer ≡ of_head ++ of_body

-- the same instance, but for values of variables that are not global
pub record IsSame (i j : Instance) : Type 0 where
  pub place : i.place ≡ j.place
  pub rule : i.rule ≡ j.rule
  pub values : Agrees (global_variables i.rule) i.values j.values
  pub outer : i.outer ≡ j.outer
  pub head : i.head ≡ j.head
  pub left : i.left ≡ j.left
  pub right : i.right ≡ j.right
  pub positive : i.positive ≡ j.positive
  pub negative : i.negative ≡ j.negative
  pub aggregates : i.aggregates ≡ j.aggregates

-- ---- conditions

-- the positive and the negative atoms of literals, with one value for each term, the comparisons being true
abbrev pub AreConditionAtoms : Substitution → List Literal → List Value → List Value → Type 0
AreConditionAtoms s [] ps ns = (ps ≡ []) × (ns ≡ [])
AreConditionAtoms s (Pos atom ∷ ls) ps ns =
    (a : Value) × (qs : List Value) × IsAtom s atom a × (ps ≡ a ∷ qs) × AreConditionAtoms s ls qs ns
AreConditionAtoms s (Not atom ∷ ls) ps ns =
    (a : Value) × (qs : List Value) × IsAtom s atom a × (ns ≡ a ∷ qs) × AreConditionAtoms s ls ps qs
AreConditionAtoms s (Compare left rel right ∷ ls) ps ns =
    (v w : Value) × IsValue s left v × IsValue s right w × IsTrue (compares rel v w) × AreConditionAtoms s ls ps ns

-- ---- truth of an aggregate in an instance

-- a guard that is not there holds
abbrev pub left_holds : Option Guard → Option Value → ℤ → Bool
left_holds None v n = true
left_holds (Some guard) None n = true
left_holds (Some guard) (Some v) n = compares guard.rel v (integer n)

-- the same for the guard on the right
abbrev pub right_holds : Option Guard → Option Value → ℤ → Bool
right_holds None v n = true
right_holds (Some guard) None n = true
right_holds (Some guard) (Some v) n = compares guard.rel (integer n) v

-- both guards hold of n, or one of them does not where the aggregate is negated
abbrev pub guards_hold : GuardedAggregate → ℤ → Bool
guards_hold g n =
    beq (not g.aggregate.negated) (left_holds g.aggregate.left g.left n && right_holds g.aggregate.right g.right n)

-- the guards hold of the aggregate's number
abbrev pub GuardedHolds : List (List ℕ) → (Value → Type 0) → (Value → Type 0) → Substitution → GuardedAggregate → Type 0
GuardedHolds globals has lacks s g =
    (n : ℤ) × IsAggregateNumber globals has lacks s g.aggregate.function g.aggregate.elements n
    × IsTrue (guards_hold g n)
