-- What derives an atom in a set, unfolded along the trees: at a rule that is known this computes to a plain statement on the
-- values of its variables.
use Rattle.std.specs.Prelude.{◌≡◌, ◌≢◌, ◌↔◌, ◌⊎◌, ℕ, ℤ, Bool, true, false, not, ◌&&◌, List, [], ◌∷◌, AllPairs, Contains, IsTrue, IsFalse}
use Rattle.std.specs.Bool.{beq}
use Rattle.std.specs.Str.{bytes_eq}
use Rattle.ap_syntax.specs.declared.rules.Function.{Function}
use Rattle.ap_term.specs.Value.{Value, integer, constant, string, compound, Values, none, also}
use Rattle.rule_form.specs.Globals.{global_variables}
use Rattle.rule_form.specs.Trees.{Term, Variable, Anything, Fixed, Compound, Operation, Interval, Terms, nothing, more, Atom, Literal, Pos, Not, Compare, Element, Item, Plain, Each, Agg, Head, One, Choice, Nothing, Rule}
use Rattle.rule_form.specs.Truth.{AtomSet, compares, computed, LeftHolds, RightHolds}
use Rattle.rule_form.specs.Values.{Substitution, IsValue, atom_value}
use Rattle.rule_form.specs.AnswerSets.{HeadHas}

-- P where the test is true, and else nothing
abbrev pub When : Bool → Type 0 → Type 0
When true P = P
When false P = ⊥

-- ---- values

-- v is a value of the term, taken apart
abbrev mutual
  pub Matches : Substitution → Term → Value → Type 0
  Matches s (Variable name) v = v ≡ s name
  Matches s Anything v = Unit {0}
  Matches s (Fixed value) v = v ≡ value
  Matches s (Compound name parts) (compound other vs) = When (bytes_eq other name) (MatchesAll s parts vs)
  Matches s (Compound name parts) (integer n) = ⊥
  Matches s (Compound name parts) (constant n) = ⊥
  Matches s (Compound name parts) (string n) = ⊥
  Matches s (Operation op left right) v = IsValue s (Operation op left right) v
  Matches s (Interval low high) v = IsValue s (Interval low high) v

  pub MatchesAll : Substitution → Terms → Values → Type 0
  MatchesAll s nothing none = Unit {0}
  MatchesAll s nothing (also v vs) = ⊥
  MatchesAll s (more t ts) none = ⊥
  MatchesAll s (more t ts) (also v vs) = Matches s t v × MatchesAll s ts vs

-- P holds of a value of the term
abbrev mutual
  pub SomeValue : Substitution → Term → (Value → Type 0) → Type 0
  SomeValue s (Variable name) P = P (s name)
  SomeValue s Anything P = (v : Value) × P v
  SomeValue s (Fixed value) P = P value
  SomeValue s (Compound name parts) P = SomeValues s parts (λ vs. P (compound name vs))
  SomeValue s (Operation op left right) P = (v : Value) × IsValue s (Operation op left right) v × P v
  SomeValue s (Interval low high) P = (v : Value) × IsValue s (Interval low high) v × P v

  pub SomeValues : Substitution → Terms → (Values → Type 0) → Type 0
  SomeValues s nothing P = P none
  SomeValues s (more t ts) P = SomeValue s t (λ v. SomeValues s ts (λ vs. P (also v vs)))

-- P holds of each value of the term
abbrev mutual
  pub EveryValue : Substitution → Term → (Value → Type 0) → Type 0
  EveryValue s (Variable name) P = P (s name)
  EveryValue s Anything P = (v : Value) → P v
  EveryValue s (Fixed value) P = P value
  EveryValue s (Compound name parts) P = EveryValues s parts (λ vs. P (compound name vs))
  EveryValue s (Operation op left right) P = (v : Value) → IsValue s (Operation op left right) v → P v
  EveryValue s (Interval low high) P = (v : Value) → IsValue s (Interval low high) v → P v

  pub EveryValues : Substitution → Terms → (Values → Type 0) → Type 0
  EveryValues s nothing P = P none
  EveryValues s (more t ts) P = EveryValue s t (λ v. EveryValues s ts (λ vs. P (also v vs)))

-- a is an atom for which the atom stands, taken apart
abbrev pub AtomIs : Substitution → Atom → Value → Type 0
AtomIs s atom (constant name) = When (bytes_eq name atom.name) (MatchesAll s atom.terms none)
AtomIs s atom (compound name (also v vs)) = When (bytes_eq name atom.name) (MatchesAll s atom.terms (also v vs))
AtomIs s atom (compound name none) = ⊥
AtomIs s atom (integer n) = ⊥
AtomIs s atom (string n) = ⊥

-- ---- bodies

-- the literal is true in x
abbrev pub LiteralIs : AtomSet → Substitution → Literal → Type 0
LiteralIs x s (Pos atom) = SomeValues s atom.terms (λ vs. IsTrue (x (atom_value atom.name vs)))
LiteralIs x s (Not atom) = SomeValues s atom.terms (λ vs. IsFalse (x (atom_value atom.name vs)))
LiteralIs x s (Compare left rel right) = SomeValue s left (λ v. SomeValue s right (λ w. IsTrue (compares rel v w)))

-- the literal is true in x with all values of its terms
abbrev pub LiteralIsForAll : AtomSet → Substitution → Literal → Type 0
LiteralIsForAll x s (Pos atom) = EveryValues s atom.terms (λ vs. IsTrue (x (atom_value atom.name vs)))
LiteralIsForAll x s (Not atom) = EveryValues s atom.terms (λ vs. IsFalse (x (atom_value atom.name vs)))
LiteralIsForAll x s (Compare left rel right) = EveryValue s left (λ v. EveryValue s right (λ w. IsTrue (compares rel v w)))

-- each literal of the condition is true in x
abbrev pub ConditionIs : AtomSet → Substitution → List Literal → Type 0
ConditionIs x s [] = Unit {0}
ConditionIs x s (l ∷ ls) = LiteralIs x s l × ConditionIs x s ls

-- u has the values of s for these variables
abbrev pub AgreesOn : Substitution → Substitution → List (List ℕ) → Type 0
AgreesOn s u [] = Unit {0}
AgreesOn s u (name ∷ names) = (u name ≡ s name) × AgreesOn s u names

-- the element counts the tuple
abbrev pub CountsBy : List (List ℕ) → AtomSet → Substitution → Element → Values → Type 0
CountsBy globals x s e t =
    (u : Substitution) × AgreesOn s u globals × SomeValues u e.terms (λ vs. vs ≡ t) × ConditionIs x u e.condition

-- one of the elements counts the tuple
abbrev pub CountsIs : List (List ℕ) → AtomSet → Substitution → List Element → Values → Type 0
CountsIs globals x s [] t = ⊥
CountsIs globals x s (e ∷ es) t = CountsBy globals x s e t ⊎ CountsIs globals x s es t

-- n is computed of the tuples that count
pub record NumberIs (globals : List (List ℕ)) (x : AtomSet) (s : Substitution) (function : Function) (elements : List Element) (n : ℤ) : Type 0 where
  pub tuples : List Values
  pub distinct : AllPairs (λ t u. t ≢ u) tuples
  pub counts : (t : Values) → Contains tuples t ↔ CountsIs globals x s elements t
  pub number : n ≡ computed function tuples

-- the part of a body is true in x
abbrev pub ItemIs : List (List ℕ) → AtomSet → Substitution → Item → Type 0
ItemIs globals x s (Plain literal) = LiteralIs x s literal
ItemIs globals x s (Each literal condition) =
    (u : Substitution) → AgreesOn s u globals → ConditionIs x u condition → LiteralIsForAll x u literal
ItemIs globals x s (Agg g) = (n : ℤ) × (l r : Bool) × NumberIs globals x s g.function g.elements n
    × LeftHolds s n g.left l × RightHolds s n g.right r × IsTrue (beq (not g.negated) (l && r))

-- the body is true in x
abbrev pub BodyIs : List (List ℕ) → AtomSet → Substitution → List Item → Type 0
BodyIs globals x s [] = Unit {0}
BodyIs globals x s (i ∷ items) = ItemIs globals x s i × BodyIs globals x s items

-- ---- rules

-- a is the atom that is left of the head
abbrev pub HeadIs : List (List ℕ) → AtomSet → Substitution → Head → Value → Type 0
HeadIs globals x s (One atom) a = AtomIs s atom a
HeadIs globals x s (Choice left elements right) a = HeadHas globals x x s (Choice left elements right) a
HeadIs globals x s Nothing a = ⊥

-- the rule derives a in x
abbrev pub GivesBy : AtomSet → Rule → Value → Type 0
GivesBy x rule a =
    (s : Substitution) × HeadIs (global_variables rule) x s rule.head a × BodyIs (global_variables rule) x s rule.body

-- one of the rules derives a in x
abbrev pub Gives : AtomSet → List Rule → Value → Type 0
Gives x [] a = ⊥
Gives x (rule ∷ []) a = GivesBy x rule a
Gives x (rule ∷ next ∷ rules) a = GivesBy x rule a ⊎ Gives x (next ∷ rules) a

-- the name of an atom
abbrev pub atom_name : Value → List ℕ
atom_name (integer n) = []
atom_name (constant name) = name
atom_name (string bytes) = []
atom_name (compound name vs) = name

-- the head may derive an atom with the name
abbrev pub may_have : List ℕ → Head → Bool
may_have name (One atom) = bytes_eq name atom.name
may_have name (Choice left elements right) = true
may_have name Nothing = false

-- the rule stands if this is so
abbrev pub put_if : Bool → Rule → List Rule → List Rule
put_if true rule rules = rule ∷ rules
put_if false rule rules = rules

-- the rules whose heads have the name
abbrev pub named : List ℕ → List Rule → List Rule
named name [] = []
named name (rule ∷ rules) = put_if (may_have name rule.head) rule (named name rules)

-- values for variables that are written out, for use as a substitution
abbrev pub pick : Bool → Value → Value → Value
pick true v w = v
pick false v w = w

-- the value for this variable, and for others those of s
abbrev pub bind : List ℕ → Value → Substitution → Substitution
bind name v s other = pick (bytes_eq other name) v (s other)
