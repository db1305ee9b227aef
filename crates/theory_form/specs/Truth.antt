-- What an assignment says of a literal and of a clause. An assignment is the table of its values; a variable without a
-- place has no value.
use Rattle.std.specs.Prelude.{◌≡◌, ◌≢◌, ℕ, ◌<◌, ◌⊎◌, Bool, not, List, length, Option, Some, None, slice_index_or}
use Rattle.std.specs.List.{All}
use Rattle.theory_form.specs.declared.literals.Lit.{Lit}
use Rattle.theory_form.specs.declared.assignments.Truth.{Truth}
use Rattle.theory_form.specs.declared.assignments.Truth.TheVariants.{True, False, Free}

-- the value of a variable
abbrev pub value_of : List (Option Bool) → ℕ → Option Bool
value_of a v = slice_index_or a v None

-- the literal is true, or false, or its variable has no value
abbrev pub IsTrueIn : List (Option Bool) → Lit → Type 0
IsTrueIn a l = value_of a l.var.0 ≡ Some l.yes

abbrev pub IsFalseIn : List (Option Bool) → Lit → Type 0
IsFalseIn a l = value_of a l.var.0 ≡ Some (not l.yes)

abbrev pub IsFreeIn : List (Option Bool) → Lit → Type 0
IsFreeIn a l = value_of a l.var.0 ≡ None

-- this is what the assignment says of the literal
abbrev pub IsTruth : List (Option Bool) → Lit → Truth → Type 0
IsTruth a l True = IsTrueIn a l
IsTruth a l False = IsFalseIn a l
IsTruth a l Free = IsFreeIn a l

-- the literal at this place of the clause is true, or false, or has no value
pub record TrueAt (a : List (Option Bool)) (c : List Lit) (i : ℕ) : Type 0 where
  pub within : i < length c
  pub holds : (d : Lit) → IsTrueIn a (slice_index_or c i d)

pub record FalseAt (a : List (Option Bool)) (c : List Lit) (i : ℕ) : Type 0 where
  pub within : i < length c
  pub holds : (d : Lit) → IsFalseIn a (slice_index_or c i d)

pub record FreeAt (a : List (Option Bool)) (c : List Lit) (i : ℕ) : Type 0 where
  pub within : i < length c
  pub holds : (d : Lit) → IsFreeIn a (slice_index_or c i d)

-- every literal of the clause is false
abbrev pub IsFalseClause : List (Option Bool) → List Lit → Type 0
IsFalseClause a c = All (IsFalseIn a) c

-- The clause is unit at this place: the literal there has no value, and every other literal is false.
pub record IsUnitAt (a : List (Option Bool)) (c : List Lit) (i : ℕ) : Type 0 where
  pub free : FreeAt a c i
  pub rest : (k : ℕ) → k < length c → k ≢ i → FalseAt a c k

-- the clause is unit, and this is its literal without a value
pub record IsUnitBy (a : List (Option Bool)) (c : List Lit) (l : Lit) : Type 0 where
  pub place : ℕ
  pub unit : IsUnitAt a c place
  pub lit_is : (d : Lit) → slice_index_or c place d ≡ l

-- two places of the clause have no value
pub record TwoFree (a : List (Option Bool)) (c : List Lit) (i j : ℕ) : Type 0 where
  pub before : i < j
  pub first : FreeAt a c i
  pub second : FreeAt a c j

-- The clause is neither unit nor false: a literal is true, or two have no value.
abbrev pub IsSettled : List (Option Bool) → List Lit → Type 0
IsSettled a c = ((i : ℕ) × TrueAt a c i) ⊎ ((i j : ℕ) × TwoFree a c i j)
