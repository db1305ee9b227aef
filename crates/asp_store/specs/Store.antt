-- What a contract sees of a `Store`: the clauses by key, the entries of the trail, the newest first, how many places there
-- are for variables, and the key of the next clause that is added.
use Rattle.std.specs.Prelude.{◌≡◌, ◌≢◌, ℕ, ◌+◌, ◌<◌, ◌++◌, Bool, List, [], ◌∷◌, max, Option, Some, None, slice_index_or, Any}
use Rattle.std.specs.List.{All, Contains}
use Rattle.theory_form.specs.declared.literals.Lit.{Lit}
use Rattle.theory_form.specs.Literals.{IsAscending, opposite}
use Rattle.theory_form.specs.Truth.{IsUnitAt, IsFalseClause, IsSettled}
use Rattle.asp_trail.specs.declared.Entry.{Entry}
use Rattle.asp_trail.specs.declared.Why.{Why}
use Rattle.asp_trail.specs.declared.Why.TheVariants.{Decision, Clause}
use Rattle.asp_trail.specs.Trail.{values_of, why_in}

pub record State : Type 0 where
  pub clauses : List (Option (List Lit))
  pub entries : List Entry
  pub places : ℕ
  pub next_key : ℕ

-- the clause of a key
abbrev pub clause_at : List (Option (List Lit)) → ℕ → Option (List Lit)
clause_at cs id = slice_index_or cs id None

-- the assignment of a store
abbrev pub assigned : State → List (Option Bool)
assigned s = values_of s.places s.entries

-- the clause of this key has this literal without a value, and its others are false
pub record IsReason (cs : List (Option (List Lit))) (a : List (Option Bool)) (l : Lit) (id : ℕ) : Type 0 where
  pub clause : List Lit
  pub stored : clause_at cs id ≡ Some clause
  pub place : ℕ
  pub unit : IsUnitAt a clause place
  pub lit_is : (d : Lit) → slice_index_or clause place d ≡ l

-- this is a clause that implies the literal
abbrev pub IsImpliedBy : List (Option (List Lit)) → List (Option Bool) → Lit → Why → Type 0
IsImpliedBy cs a l Decision = ⊥
IsImpliedBy cs a l (Clause id) = IsReason cs a l id.0

-- the clause of this key is false
pub record IsConflict (cs : List (Option (List Lit))) (a : List (Option Bool)) (id : ℕ) : Type 0 where
  pub clause : List Lit
  pub stored : clause_at cs id ≡ Some clause
  pub all_false : IsFalseClause a clause

-- no clause is unit or false
abbrev pub AllSettled : List (Option (List Lit)) → List (Option Bool) → Type 0
AllSettled cs a = (id : ℕ) (c : List Lit) → clause_at cs id ≡ Some c → IsSettled a c

-- each variable of a clause has a place
abbrev pub IsWithin : ℕ → List Lit → Type 0
IsWithin n c = All (λ l. l.var.0 < n) c

abbrev pub AllWithin : List (Option (List Lit)) → ℕ → Type 0
AllWithin cs n = (id : ℕ) (c : List Lit) → clause_at cs id ≡ Some c → IsWithin n c

-- each clause ascends without repeats
abbrev pub AllAscending : List (Option (List Lit)) → Type 0
AllAscending cs = (id : ℕ) (c : List Lit) → clause_at cs id ≡ Some c → IsAscending c

-- why an entry stands where it stands
abbrev pub HasReason : List (Option (List Lit)) → List (Option Bool) → Lit → Why → Type 0
HasReason cs a l Decision = Unit {0}
HasReason cs a l (Clause id) = IsReason cs a l id.0

-- each entry with a clause as its reason is implied by that clause and the entries before it
abbrev pub HasReasons : List (Option (List Lit)) → ℕ → List Entry → Type 0
HasReasons cs n [] = Unit {0}
HasReasons cs n (e ∷ rest) = HasReason cs (values_of n rest) e.lit e.why × HasReasons cs n rest

-- each of these entries is implied by a clause and the entries before it
abbrev pub AreImplied : List (Option (List Lit)) → ℕ → List Entry → List Entry → Type 0
AreImplied cs n base [] = Unit {0}
AreImplied cs n base (e ∷ more) =
    ((id : ℕ) × (e.why ≡ Clause (record { 0 = id })) × IsReason cs (values_of n (more ++ base)) e.lit id) × AreImplied cs n base more

-- the trail grew by implied entries, so no level was opened and nothing older changed
pub record Grew (cs : List (Option (List Lit))) (n : ℕ) (old new : List Entry) : Type 0 where
  pub more : List Entry
  pub new_is : new ≡ more ++ old
  pub implied : AreImplied cs n old more

-- what is true of every store
pub record IsStore (cs : List (Option (List Lit))) (es : List Entry) (n : ℕ) : Type 0 where
  pub within : AllWithin cs n
  pub ascending : AllAscending cs
  pub reasons : HasReasons cs n es

-- an entry has the clause of this key as its reason
abbrev pub IsReasonOfSome : List Entry → ℕ → Type 0
IsReasonOfSome es id = Any (λ e. e.why ≡ Clause (record { 0 = id })) es

-- a variable was assigned with the clause of this key as its reason
abbrev pub IsBecauseOf : List Entry → ℕ → ℕ → Type 0
IsBecauseOf es v id = (level : ℕ) × (why_in es v ≡ Some (Clause (record { 0 = id }), level))

-- each literal of the clause is the opposite of one of these
abbrev pub IsNegated : List Lit → List Lit → Type 0
IsNegated assume c = All (λ l. Contains assume (opposite l)) c

-- each literal of the clause of this key is the opposite of an assumption
pub record IsRefuting (cs : List (Option (List Lit))) (assume : List Lit) (id : ℕ) : Type 0 where
  pub clause : List Lit
  pub stored : clause_at cs id ≡ Some clause
  pub negated : IsNegated assume clause

-- no clause is so
abbrev pub NoneRefuting : List (Option (List Lit)) → List Lit → Type 0
NoneRefuting cs assume = (id : ℕ) (c : List Lit) → clause_at cs id ≡ Some c → IsNegated assume c → ⊥

-- every clause of the first list stands under its key in the second
abbrev pub Keeps : List (Option (List Lit)) → List (Option (List Lit)) → Type 0
Keeps old new = (id : ℕ) (c : List Lit) → clause_at old id ≡ Some c → clause_at new id ≡ Some c

-- one clause more, under a key that had none
pub record Adds (old new : List (Option (List Lit))) (id : ℕ) (c : List Lit) : Type 0 where
  pub fresh : clause_at old id ≡ None
  pub added : clause_at new id ≡ Some c
  pub others : (k : ℕ) → k ≢ id → clause_at new k ≡ clause_at old k

-- one clause less
pub record Removes (old new : List (Option (List Lit))) (id : ℕ) : Type 0 where
  pub gone : clause_at new id ≡ None
  pub others : (k : ℕ) → k ≢ id → clause_at new k ≡ clause_at old k

-- how many places the variables of a clause need
abbrev pub places_of : List Lit → ℕ
places_of [] = 0
places_of (l ∷ c) = max (l.var.0 + 1) (places_of c)
