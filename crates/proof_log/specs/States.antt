-- What a contract sees of the state in which a step is judged.
use Rattle.std.specs.Prelude.{◌≡◌, ℕ, zero, suc, ◌+◌, ◌-◌, ◌<◌, ◌++◌, [], ◌∷◌, Bool, List, length, Option, Some, None, slice_set, IsTrue}
use Rattle.std.specs.Option.{option_and_then}
use Rattle.theory_form.specs.declared.literals.Lit.{Lit}
use Rattle.theory_form.specs.Numbers.{at_number, grown}
use Rattle.theory_form.specs.Theories.{TheoryView, clause_of}
use Rattle.theory_model.specs.Truth.{clause_true}
use Rattle.theory_model.specs.Models.{IsModel}

-- the theory; whether there is an `#optimize`; the clauses that steps added and that are not erased, by number, with
-- nothing at every other number; and how many places the working tables by variable have
pub record StateView : Type 0 where
  pub theory : TheoryView
  pub optimised : Bool
  pub added : List (Option (List Lit))
  pub places : ℕ

-- the clause of a number in a list by number
abbrev pub entry_of : List (Option (List Lit)) → ℕ → Option (List Lit)
entry_of slots id = option_and_then (λ slot. slot) (at_number slots id)

-- the first, if there is one, and else the second
abbrev pub either : Option (List Lit) → Option (List Lit) → Option (List Lit)
either None second = second
either (Some c) second = Some c

-- the clause of a number: the theory's, or the one that a step added under it
abbrev pub clause_among : TheoryView → List (Option (List Lit)) → ℕ → Option (List Lit)
clause_among t slots id = either (clause_of t id) (entry_of slots id)

abbrev pub added_of : StateView → ℕ → Option (List Lit)
added_of s id = entry_of s.added id

abbrev pub clause_in : StateView → ℕ → Option (List Lit)
clause_in s id = clause_among s.theory s.added id

-- the working tables have a place for each variable of the theory
abbrev pub IsReserved : StateView → Type 0
IsReserved s = length s.theory.variables < s.places

-- the list by number with this clause at a place, number k being at place k - 1
abbrev pub put : List (Option (List Lit)) → ℕ → List Lit → List (Option (List Lit))
put slots place c = slice_set (grown slots (place + 1) None) place (Some c)

-- the list by number without the clause of a number
abbrev pub taken : List (Option (List Lit)) → ℕ → List (Option (List Lit))
taken slots zero = slots
taken slots (suc place) = slice_set slots place None

-- The state with one more clause. It takes the next number, which the theory skips; a reserved entry of the theory is
-- used, if there is one.
abbrev pub with_clause : StateView → List Lit → StateView
with_clause s c = record s {
  theory = record s.theory { clauses = s.theory.clauses ++ None ∷ []; reserved = s.theory.reserved - 1 };
  added = put s.added (length s.theory.clauses) c;
}

-- the state without the added clause of a number
abbrev pub without_clause : StateView → ℕ → StateView
without_clause s id = record s { added = taken s.added id }

-- every clause that a step added and that is not erased is true in each model of the theory
abbrev pub AddedAreTrue : StateView → Type 0
AddedAreTrue s = (f : ℕ → Bool) → IsModel s.theory f → (id : ℕ) (c : List Lit) → added_of s id ≡ Some c → IsTrue (clause_true f c)
