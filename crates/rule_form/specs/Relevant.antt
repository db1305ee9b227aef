-- Relevant instances.
use Rattle.std.specs.Prelude.{◌⊎◌, Bool, ◌<◌, List, [], ◌∷◌, All, Contains, IsTrue}
use Rattle.ap_syntax.specs.declared.terms.Rel.{Rel}
use Rattle.ap_term.specs.Value.{Value}
use Rattle.rule_form.specs.Instances.{Instance, GuardedAggregate, GuardedHolds}
use Rattle.rule_form.specs.Globals.{Agrees, global_variables}
use Rattle.rule_form.specs.Possible.{Setting, level, atom_level, IsPossible, IsCertain}
use Rattle.rule_form.specs.Trees.{Term, Aggregate, Atom, Literal, Pos, Not, Compare, Each, Choosable, Head, One, Choice, Nothing}
use Rattle.rule_form.specs.Truth.{Holds, compares}
use Rattle.rule_form.specs.Values.{Substitution, IsValue, IsAtom}

-- b is not certain
abbrev pub IsUncertain : Setting → Value → Type 0
IsUncertain setting b = IsCertain setting b → ⊥

-- the literal of a conditional literal of the instance, for an instance of it whose condition holds of the certain atoms
abbrev pub Stands : Setting → Instance → Substitution → Literal → Type 0
Stands setting i u l = (c : List Literal) × Contains i.rule.body (Each l c)
    × Agrees (global_variables i.rule) i.values u × All (Holds (IsCertain setting) (IsUncertain setting) u) c

-- the atoms that the body asks for, and those that it bars: of plain literals and of conditional ones
abbrev pub IsAsked : Setting → Instance → Value → Type 0
IsAsked setting i b =
    Contains i.positive b ⊎ ((atom : Atom) × (u : Substitution) × Stands setting i u (Pos atom) × IsAtom u atom b)

-- and the atoms that it bars
abbrev pub IsBarred : Setting → Instance → Value → Type 0
IsBarred setting i b =
    Contains i.negative b ⊎ ((atom : Atom) × (u : Substitution) × Stands setting i u (Not atom) × IsAtom u atom b)

-- no barred atom is certain in a lower component: than the head, or than one of the heads of a choice. Without heads each is lower
abbrev pub MayApply : Setting → Head → (Value → Type 0) → Type 0
MayApply setting (One atom) barred =
    (b : Value) → barred b → level setting b < atom_level setting atom → IsUncertain setting b
MayApply setting (Choice left [] right) barred = (b : Value) → barred b → IsUncertain setting b
MayApply setting (Choice left (first ∷ rest) right) barred = (e : Choosable) × Contains (first ∷ rest) e
    × ((b : Value) → barred b → level setting b < atom_level setting e.atom → IsUncertain setting b)
MayApply setting Nothing barred = (b : Value) → barred b → IsUncertain setting b

-- its positive atoms are possible, nothing that it bars is certain in a lower component, no conditional literal of it is over a false
-- comparison, and those of its aggregates that are looked at are true
pub record IsRelevantBy (setting : Setting) (looked_at : Aggregate → Bool) (i : Instance) : Type 0 where
  pub asked : (b : Value) → IsAsked setting i b → IsPossible setting b
  pub barred : MayApply setting i.rule.head (IsBarred setting i)
  pub compared : (u : Substitution) (l : Term) (rel : Rel) (r : Term) (v w : Value)
      → Stands setting i u (Compare l rel r) → IsValue u l v → IsValue u r w → IsTrue (compares rel v w)
  pub evaluated : (g : GuardedAggregate) → Contains i.aggregates g → IsTrue (looked_at g.aggregate)
      → GuardedHolds (global_variables i.rule) (IsCertain setting) (IsUncertain setting) i.values g

-- a relevant instance has the aggregates over definite predicates true
abbrev pub IsRelevant : Setting → Instance → Type 0
IsRelevant setting i = IsRelevantBy setting setting.evaluated i
