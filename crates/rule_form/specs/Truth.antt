-- Truth of bodies. Sets of atoms are given by their tests. Of two sets x and y, positive literals are read in y, and everything
-- else in x: so y is asked what the reduct by x asks for, and x = y gives truth in x.
use Rattle.std.specs.Prelude.{◌≡◌, ◌≢◌, ◌↔◌, ℕ, ℤ, pos, ◌+ℤ◌, Bool, true, not, ◌&&◌, List, [], ◌∷◌, All, AllPairs, Contains, Option, Some, None, IsTrue, IsFalse}
use Rattle.std.specs.Bool.{beq}
use Rattle.std.specs.Ordering.{is_eq, is_lt, is_le, is_gt, is_ge}
use Rattle.ap_syntax.specs.declared.rules.Function.{Function}
use Rattle.ap_syntax.specs.declared.rules.Function.TheVariants.{Count, Sum}
use Rattle.ap_syntax.specs.declared.terms.Rel.{Rel}
use Rattle.ap_syntax.specs.declared.terms.Rel.TheVariants.{Eq, Ne, Lt, Le, Gt, Ge}
use Rattle.ap_term.specs.Arithmetic.{is_integer}
use Rattle.ap_term.specs.Order.{value_cmp}
use Rattle.ap_term.specs.Value.{Value, integer, constant, string, compound, Values, none, also}
use Rattle.rule_form.specs.Globals.{Agrees, global_variables}
use Rattle.rule_form.specs.Trees.{Literal, Pos, Not, Compare, Guard, Element, Aggregate, Item, Plain, Each, Agg, Rule}
use Rattle.rule_form.specs.Values.{Substitution, IsValue, AreValues, IsAtom}

-- a set of atoms, by its test
abbrev pub AtomSet : Type 0
AtomSet = Value → Bool

-- comparisons go by the order of values
abbrev pub compares : Rel → Value → Value → Bool
compares Eq v w = is_eq (value_cmp v w)
compares Ne v w = not (is_eq (value_cmp v w))
compares Lt v w = is_lt (value_cmp v w)
compares Le v w = is_le (value_cmp v w)
compares Gt v w = is_gt (value_cmp v w)
compares Ge v w = is_ge (value_cmp v w)

-- ---- literals

-- the literal holds, with one value for each of its terms, where `has` tells the atoms that a positive literal may be over, and `lacks`
-- those that a negative one may be over
abbrev pub Holds : (Value → Type 0) → (Value → Type 0) → Substitution → Literal → Type 0
Holds has lacks s (Pos atom) = (a : Value) × IsAtom s atom a × has a
Holds has lacks s (Not atom) = (a : Value) × IsAtom s atom a × lacks a
Holds has lacks s (Compare left rel right) =
    (v w : Value) × IsValue s left v × IsValue s right w × IsTrue (compares rel v w)

-- the literal holds, with all values of its terms
abbrev pub HoldsForAll : (Value → Type 0) → (Value → Type 0) → Substitution → Literal → Type 0
HoldsForAll has lacks s (Pos atom) = (a : Value) → IsAtom s atom a → has a
HoldsForAll has lacks s (Not atom) = (a : Value) → IsAtom s atom a → lacks a
HoldsForAll has lacks s (Compare left rel right) =
    (v w : Value) → IsValue s left v → IsValue s right w → IsTrue (compares rel v w)

-- x has a
abbrev pub In : AtomSet → Value → Type 0
In x a = IsTrue (x a)

-- x does not have a
abbrev pub Out : AtomSet → Value → Type 0
Out x a = IsFalse (x a)

-- the literal is true, a positive one in y and any other in x
abbrev pub LiteralTrue : AtomSet → AtomSet → Substitution → Literal → Type 0
LiteralTrue x y s l = Holds (In y) (Out x) s l

-- the same with all values of its terms
abbrev pub LiteralTrueForAll : AtomSet → AtomSet → Substitution → Literal → Type 0
LiteralTrueForAll x y s l = HoldsForAll (In y) (Out x) s l

-- each literal of the condition is true
abbrev pub ConditionTrue : AtomSet → AtomSet → Substitution → List Literal → Type 0
ConditionTrue x y s condition = All (LiteralTrue x y s) condition

-- ---- aggregates

-- the tuple has a condition that holds
abbrev pub IsCounted : List (List ℕ) → (Value → Type 0) → (Value → Type 0) → Substitution → List Element → Values
    → Type 0
IsCounted globals has lacks s elements t = (e : Element) × (u : Substitution) × Contains elements e
    × Agrees globals s u × AreValues u e.terms t × All (Holds has lacks u) e.condition

-- the tuple has a condition that is true in x
abbrev pub Counts : List (List ℕ) → AtomSet → Substitution → List Element → Values → Type 0
Counts globals x s elements t = IsCounted globals (In x) (Out x) s elements t

-- what a tuple adds to a sum: its first member, if that is an integer
abbrev pub weight : Values → ℤ
weight none = pos 0
weight (also (integer n) vs) = n
weight (also (constant name) vs) = pos 0
weight (also (string bytes) vs) = pos 0
weight (also (compound name ws) vs) = pos 0

-- the sum of what f gives of the members
abbrev pub total : {X : Type 0} → (X → ℤ) → List X → ℤ
total f [] = pos 0
total f (t ∷ ts) = f t +ℤ total f ts

-- what an aggregate computes of its tuples
abbrev pub computed : Function → List Values → ℤ
computed Count tuples = total (λ t. pos 1) tuples
computed Sum tuples = total weight tuples

-- the distinct tuples whose condition holds are finitely many, and this number is computed of them
pub record IsAggregateNumber (globals : List (List ℕ)) (has lacks : Value
    → Type 0) (s : Substitution) (function : Function) (elements : List Element) (n : ℤ) : Type 0 where
  pub tuples : List Values
  pub distinct : AllPairs (λ t u. t ≢ u) tuples
  pub counts : (t : Values) → Contains tuples t ↔ IsCounted globals has lacks s elements t
  pub number : n ≡ computed function tuples

-- an integer among the values is in their range
abbrev pub IsOfRange : Value → Type 0
IsOfRange (integer n) = IsTrue (is_integer n)
IsOfRange (constant name) = Unit {0}
IsOfRange (string bytes) = Unit {0}
IsOfRange (compound name vs) = Unit {0}

-- a guard that is there has a value
abbrev pub HasGuardValue : Substitution → Option Guard → Type 0
HasGuardValue s None = Unit {0}
HasGuardValue s (Some guard) = (v : Value) × IsValue s guard.term v × IsOfRange v

-- each guard of the aggregate that is there has a value
abbrev pub HasGuardValues : Substitution → Aggregate → Type 0
HasGuardValues s g = HasGuardValue s g.left × HasGuardValue s g.right

-- b tells whether the guard holds of n, with one of the guard's values; a guard that is not there holds
abbrev pub LeftHolds : Substitution → ℤ → Option Guard → Bool → Type 0
LeftHolds s n None b = b ≡ true
LeftHolds s n (Some guard) b =
    (v : Value) × IsValue s guard.term v × IsOfRange v × (b ≡ compares guard.rel v (integer n))

-- the same for the guard on the right
abbrev pub RightHolds : Substitution → ℤ → Option Guard → Bool → Type 0
RightHolds s n None b = b ≡ true
RightHolds s n (Some guard) b =
    (v : Value) × IsValue s guard.term v × IsOfRange v × (b ≡ compares guard.rel (integer n) v)

-- its guards hold of its number, or one of them does not where it is negated
abbrev pub AggregateHolds : List (List ℕ) → (Value → Type 0) → (Value → Type 0) → Substitution → Aggregate → Type 0
AggregateHolds globals has lacks s g = (n : ℤ) × (l r : Bool)
    × IsAggregateNumber globals has lacks s g.function g.elements n × LeftHolds s n g.left l
    × RightHolds s n g.right r × IsTrue (beq (not g.negated) (l && r))

-- the aggregate is true in x
abbrev pub AggregateTrue : List (List ℕ) → AtomSet → Substitution → Aggregate → Type 0
AggregateTrue globals x s g = AggregateHolds globals (In x) (Out x) s g

-- ---- bodies

-- a part of a body: its literals are read by `has` and `lacks`, conditions of conditional literals by `held` and `unheld`, and `evaluate`
-- tells of aggregates. A conditional literal holds where each instance whose condition holds has a literal that holds
abbrev pub ItemHolds : (Value → Type 0) → (Value → Type 0) → (Value → Type 0) → (Value → Type 0)
    → (Aggregate → Type 0) → List (List ℕ) → Substitution → Item → Type 0
ItemHolds has lacks held unheld evaluate globals s (Plain literal) = Holds has lacks s literal
ItemHolds has lacks held unheld evaluate globals s (Each literal condition) =
    (u : Substitution) → Agrees globals s u → All (Holds held unheld u) condition → HoldsForAll has lacks u literal
ItemHolds has lacks held unheld evaluate globals s (Agg aggregate) = evaluate aggregate

-- the part is true: positive literals are read in y, and all else in x
abbrev pub ItemTrue : List (List ℕ) → AtomSet → AtomSet → Substitution → Item → Type 0
ItemTrue globals x y s item = ItemHolds (In y) (Out x) (In x) (Out x) (AggregateTrue globals x s) globals s item

-- the body of the rule is true
abbrev pub BodyTrue : AtomSet → AtomSet → Substitution → Rule → Type 0
BodyTrue x y s rule = All (ItemTrue (global_variables rule) x y s) rule.body
