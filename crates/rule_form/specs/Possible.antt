-- Possible and certain atoms, component by component. A literal that is not over a lower component than the atom in question counts
-- as true for the possible atoms, and as false for the certain ones.
use Rattle.std.specs.Prelude.{◌≡◌, ◌⊎◌, ℕ, zero, suc, ◌<◌, Bool, true, false, List, All, Contains}
use Rattle.ap_term.specs.Value.{Value, integer, constant, string, compound, arity}
use Rattle.rule_form.specs.Globals.{Agrees, global_variables}
use Rattle.rule_form.specs.Trees.{Terms, nothing, more, Atom, Aggregate, Item, Choosable, Head, One, Choice, Nothing, Rule}
use Rattle.rule_form.specs.Truth.{HasGuardValue, HasGuardValues, Holds, ItemHolds, AggregateHolds}
use Rattle.rule_form.specs.Values.{Substitution, IsAtom}

-- P where the test is true, and else Q
abbrev pub If : Bool → Type 0 → Type 0 → Type 0
If true P Q = P
If false P Q = Q

-- the rules; the number of the component of a predicate, by name and arity; which aggregates are over definite predicates; the atoms
-- that are handed in as certain; the inputs
pub record Setting : Type 0 where
  pub rules : List Rule
  pub component : List ℕ → ℕ → ℕ
  pub evaluated : Aggregate → Bool
  pub certain : List Value
  pub inputs : List Value

-- the number of the component of an atom's predicate
abbrev pub level : Setting → Value → ℕ
level setting (integer n) = 0
level setting (constant name) = setting.component name 0
level setting (string bytes) = 0
level setting (compound name vs) = setting.component name (arity vs)

-- how many terms there are
abbrev pub terms_count : Terms → ℕ
terms_count nothing = 0
terms_count (more t ts) = suc (terms_count ts)

-- the number of the component of the predicate of an atom with variables
abbrev pub atom_level : Setting → Atom → ℕ
atom_level setting atom = setting.component atom.name (terms_count atom.terms)

-- the number of the component of a head's predicate, or of one of the predicates of a choice
abbrev pub IsHeadLevel : Setting → Head → ℕ → Type 0
IsHeadLevel setting (One atom) n = n ≡ atom_level setting atom
IsHeadLevel setting (Choice left elements right) n =
    (e : Choosable) × Contains elements e × (n ≡ atom_level setting e.atom)
IsHeadLevel setting Nothing n = ⊥

module _ (setting : Setting) (possible certain : Value → Type 0) (a : Value) where
  -- b is of a lower component than a
  abbrev pub Lower : Value → Type 0
  Lower b = level setting b < level setting a

  -- b is certain in a lower component
  abbrev pub Sure : Value → Type 0
  Sure b = Lower b × certain b

  -- b is not certain in a lower component
  abbrev pub Unsure : Value → Type 0
  Unsure b = Sure b → ⊥

  -- a positive literal over b counts as true for the possible atoms
  abbrev pub May : Value → Type 0
  May b = Lower b → possible b

  -- a negative literal over b does
  abbrev pub MayLack : Value → Type 0
  MayLack b = Lower b → certain b → ⊥

  -- a negative literal over b counts as true for the certain atoms; a positive one does where b is Sure
  abbrev pub MustLack : Value → Type 0
  MustLack b = Lower b × (possible b → ⊥)

  -- conditions of conditional literals, and aggregates over definite predicates, are read in the certain atoms of lower components;
  -- any other aggregate counts as P tells
  abbrev pub Judges : (Aggregate → Type 0) → List (List ℕ) → Substitution → Aggregate → Type 0
  Judges P globals s g = If (setting.evaluated g) (AggregateHolds globals Sure Unsure s g) (P g)

  -- the part counts as true for the possible atoms; an aggregate does where its guards have values, since there is no instance else
  abbrev pub MayItem : List (List ℕ) → Substitution → Item → Type 0
  MayItem globals s item = ItemHolds May MayLack Sure Unsure (Judges (HasGuardValues s) globals s) globals s item

  -- the part counts as true for the certain atoms
  abbrev pub MustItem : List (List ℕ) → Substitution → Item → Type 0
  MustItem globals s item = ItemHolds Sure MustLack Sure Unsure (Judges (λ g. ⊥) globals s) globals s item

  -- the condition of a choice's element is one of the parts
  abbrev pub MayHead : List (List ℕ) → Substitution → Head → Type 0
  MayHead globals s (One atom) = IsAtom s atom a
  MayHead globals s (Choice left elements right) = HasGuardValue s left × HasGuardValue s right × (e : Choosable)
      × (u : Substitution) × Contains elements e × Agrees globals s u × IsAtom u e.atom a
      × All (Holds May MayLack u) e.condition
  MayHead globals s Nothing = ⊥

  -- a choice makes nothing certain
  abbrev pub MustHead : Substitution → Head → Type 0
  MustHead s (One atom) = IsAtom s atom a
  MustHead s (Choice left elements right) = ⊥
  MustHead s Nothing = ⊥

  -- an instance of the rule makes a possible
  abbrev pub MakesPossible : Rule → Type 0
  MakesPossible rule = (s : Substitution) × MayHead (global_variables rule) s rule.head
      × All (MayItem (global_variables rule) s) rule.body

  -- an instance of the rule makes a certain
  abbrev pub MakesCertain : Rule → Type 0
  MakesCertain rule = (s : Substitution) × MustHead s rule.head × All (MustItem (global_variables rule) s) rule.body

-- the atoms of the components below n
abbrev mutual
  pub PossibleBelow : Setting → ℕ → Value → Type 0
  PossibleBelow setting zero a = ⊥
  PossibleBelow setting (suc n) a = Contains setting.certain a
      ⊎ (Contains setting.inputs a ⊎ ((rule : Rule) × Contains setting.rules rule
      × MakesPossible setting (λ b. PossibleBelow setting n b) (λ b. CertainBelow setting n b) a rule))

  -- the certain ones of these components
  pub CertainBelow : Setting → ℕ → Value → Type 0
  CertainBelow setting zero a = ⊥
  CertainBelow setting (suc n) a = Contains setting.certain a
      ⊎ ((rule : Rule) × Contains setting.rules rule
      × MakesCertain setting (λ b. PossibleBelow setting n b) (λ b. CertainBelow setting n b) a rule)

-- a is a possible atom
abbrev pub IsPossible : Setting → Value → Type 0
IsPossible setting a = PossibleBelow setting (suc (level setting a)) a

-- a is a certain atom
abbrev pub IsCertain : Setting → Value → Type 0
IsCertain setting a = CertainBelow setting (suc (level setting a)) a
