-- Answer sets of rules with variables (Gelfond and Lifschitz 1988), with choices and aggregates.
use Rattle.std.specs.Prelude.{◌≢◌, ◌↔◌, ℕ, pos, Bool, List, length, AllPairs, Contains, Option, Some, None, IsTrue}
use Rattle.ap_term.specs.Value.{Value, integer}
use Rattle.rule_form.specs.Globals.{Agrees, global_variables}
use Rattle.rule_form.specs.Trees.{Guard, Choosable, Head, One, Choice, Nothing, Rule}
use Rattle.rule_form.specs.Truth.{AtomSet, ConditionTrue, BodyTrue, HasGuardValue, IsOfRange, compares}
use Rattle.rule_form.specs.Values.{Substitution, IsValue, IsAtom}
use Rattle.sets.specs.Sets.{IsSubset}

-- ---- answer sets of anything that derives atoms

-- `derives x y a` says that the reduct by x has a rule with the head a whose body y has; `permits x` says that x meets the
-- constraints. A set of atoms is given by its test

-- y has the facts, and what the reduct by x derives of it
pub record IsClosed {A : Type 0} (derives : (A → Bool) → (A → Bool) → A → Type 0) (facts : A → Type 0)
    (x y : A → Bool) : Type 0 where
  pub has_facts : (a : A) → facts a → IsTrue (y a)
  pub has_heads : (a : A) → derives x y a → IsTrue (y a)

-- x is finite and closed under the reduct by x, no proper subset of it is, and the constraints are met
pub record IsStable {A : Type 0} (derives : (A → Bool) → (A → Bool) → A → Type 0) (permits : (A → Bool) → Type 0)
    (facts : A → Type 0) (x : A → Bool) : Type 0 where
  pub finite : (atoms : List A) × ((a : A) → IsTrue (x a) → Contains atoms a)
  pub closed : IsClosed derives facts x x
  pub minimal : (y : A → Bool) → IsSubset y x → IsClosed derives facts x y → IsSubset x y
  pub permitted : permits x

-- ---- rules with variables

-- the atom that is left of a head: a choice has its atoms that are in x, where the condition is true. Its guards have values
abbrev pub HeadHas : List (List ℕ) → AtomSet → AtomSet → Substitution → Head → Value → Type 0
HeadHas globals x y s (One atom) a = IsAtom s atom a
HeadHas globals x y s (Choice left elements right) a =
    HasGuardValue s left × HasGuardValue s right × (e : Choosable) × (u : Substitution) × Contains elements e
    × Agrees globals s u × IsAtom u e.atom a × IsTrue (x a) × ConditionTrue x y u e.condition
HeadHas globals x y s Nothing a = ⊥

-- an instance of the rule gives a rule with the head a to the reduct by x, and y has its body
abbrev pub RuleDerives : AtomSet → AtomSet → Rule → Value → Type 0
RuleDerives x y rule a = (s : Substitution) × HeadHas (global_variables rule) x y s rule.head a × BodyTrue x y s rule

-- one of the rules does
abbrev pub Derives : List Rule → AtomSet → AtomSet → Value → Type 0
Derives rules x y a = (rule : Rule) × Contains rules rule × RuleDerives x y rule a

-- these are the atoms of the choice that are in x, each once
abbrev pub IsChosen : List (List ℕ) → AtomSet → Substitution → Head → List Value → Type 0
IsChosen globals x s head atoms =
    AllPairs (λ a b. a ≢ b) atoms × ((a : Value) → Contains atoms a ↔ HeadHas globals x x s head a)

-- the number n meets each value of the guard on the left
abbrev pub LeftAdmits : Substitution → ℕ → Option Guard → Type 0
LeftAdmits s n None = Unit {0}
LeftAdmits s n (Some guard) =
    (v : Value) → IsValue s guard.term v → IsOfRange v → IsTrue (compares guard.rel v (integer (pos n)))

-- the number n meets each value of the guard on the right
abbrev pub RightAdmits : Substitution → ℕ → Option Guard → Type 0
RightAdmits s n None = Unit {0}
RightAdmits s n (Some guard) =
    (v : Value) → IsValue s guard.term v → IsOfRange v → IsTrue (compares guard.rel (integer (pos n)) v)

-- where the body is true, a choice's guards hold, and a constraint is not there
abbrev pub HeadPermits : List (List ℕ) → AtomSet → Substitution → Head → Type 0
HeadPermits globals x s (One atom) = Unit {0}
HeadPermits globals x s (Choice left elements right) =
    HasGuardValue s left → HasGuardValue s right → (atoms : List Value)
    → IsChosen globals x s (Choice left elements right) atoms → LeftAdmits s (length atoms) left
    × RightAdmits s (length atoms) right
HeadPermits globals x s Nothing = ⊥

-- x meets the constraints and the guards of choices
abbrev pub Permits : List Rule → AtomSet → Type 0
Permits rules x = (rule : Rule) (s : Substitution) → Contains rules rule → BodyTrue x x s rule
    → HeadPermits (global_variables rule) x s rule.head

-- x is an answer set of the rules with these facts
abbrev pub IsAnswerSet : List Rule → (Value → Type 0) → AtomSet → Type 0
IsAnswerSet rules facts x = IsStable (Derives rules) (Permits rules) facts x
