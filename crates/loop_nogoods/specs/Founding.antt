-- The worklist that finds the founded variables of a program.
use Rattle.std.specs.Prelude.{◌≡◌, ◌≢◌, ℕ, ◌+◌, ◌<◌, ◌↔◌, ◌⊎◌, Bool, false, not, ◌&&◌, List, [], ◌∷◌, ◌++◌, length, take, Option, Some, slice_index_or, count_by, IsTrue, IsFalse}
use Rattle.std.specs.List.{All, Contains}
use Rattle.theory_form.specs.declared.literals.Lit.{Lit}
use Rattle.theory_form.specs.declared.literals.Var.{Var}
use Rattle.theory_form.specs.Theories.{TheoryView, block_of}
use Rattle.theory_form.specs.Truth.{value_of, IsFalseIn}
use Rattle.theory_model.specs.Loops.{IsExternal, is_internal, is_positive_in}
use Rattle.loop_nogoods.specs.declared.founding.Founding.{Founding}
use Rattle.loop_nogoods.specs.declared.waits.Wait.{Wait}
use Rattle.loop_nogoods.specs.Bodies.{body_lits, support_lits}
use Rattle.loop_nogoods.specs.Marks.{IsVariable, marked}
use Rattle.sets.specs.Sets.{IsSubset}
use Rattle.loop_nogoods.specs.Unfounded.{IsUnfounded}

-- an atom of the program that is not false
abbrev pub IsOpenAtom : TheoryView → ℕ → List (Option Bool) → ℕ → Type 0
IsOpenAtom t block a v = (block_of t v ≡ Some block) × (value_of a v ≢ Some false)

-- what waits for a variable
abbrev pub waits : List (List Wait) → ℕ → List Wait
waits table v = slice_index_or table v []

-- the open atoms that are not founded
abbrev pub unfounded_in : Founding → ℕ → Bool
unfounded_in s v = marked s.atoms v && not (marked s.founded v)

-- the literal is the positive one of such an atom
abbrev pub blocks : Founding → Lit → Bool
blocks s l = l.yes && unfounded_in s l.var.0

-- w has neither the variable, nor one whose positive literal is in the list
pub record Misses (w : ℕ → Bool) (v : ℕ) (lits : List Lit) : Type 0 where
  pub variable : IsFalse (w v)
  pub body : All (λ l. IsFalse (is_positive_in w l)) lits

-- this head waits for the variable
abbrev pub Awaits : Founding → ℕ → ℕ → Type 0
Awaits s v head = (e : Wait) × Contains (waits s.waiting v) e × (e.head.0 ≡ head)

-- the variable is founded, or waits for an open atom that stands positively in its body
abbrev pub IsRested : TheoryView → Founding → ℕ → Type 0
IsRested t s v = IsTrue (marked s.founded v) ⊎ ((l : Lit) × Contains (body_lits t v) l × IsTrue l.yes × IsTrue (marked s.atoms l.var.0) × Awaits s l.var.0 v)

-- each variable for which something waits is an open atom, or is founded or waits in turn
abbrev pub IsTended : TheoryView → Founding → Type 0
IsTended t s = (v : ℕ) (e : Wait) → Contains (waits s.waiting v) e → IsTrue (marked s.atoms v) ⊎ IsRested t s v

-- the support of the atom is false, or the atom is founded or waits for the support's body
abbrev pub IsSettled : List (Option Bool) → Founding → ℕ → Lit → Type 0
IsSettled a s v l = IsFalseIn a l ⊎ (IsTrue (marked s.founded v) ⊎ (IsTrue l.yes × IsFalse (marked s.atoms l.var.0) × Awaits s l.var.0 v))

-- so is each support of each open atom
abbrev pub AreSettled : TheoryView → List (Option Bool) → Founding → Type 0
AreSettled t a s = (v : ℕ) → IsTrue (marked s.atoms v) → All (IsSettled a s v) (support_lits t v)

-- w misses each founded variable and its body, and would miss what waits, if it missed what that waits for
pub record IsSound (t : TheoryView) (w : ℕ → Bool) (s : Founding) : Type 0 where
  pub founded : (v : ℕ) → IsTrue (marked s.founded v) → Misses w v (body_lits t v)
  pub waiting : (v : ℕ) (e : Wait) → Contains (waits s.waiting v) e → Misses w v (body_lits t v) → Misses w e.head.0 (take e.place (body_lits t e.head.0))

-- the tables have one length, heads have places, what is pending is founded, and what is founded is pending or nothing
-- waits for it
pub record IsFounding (s : Founding) : Type 0 where
  pub atoms_places : length s.atoms ≡ length s.founded
  pub waiting_places : length s.waiting ≡ length s.founded
  pub heads : (v : ℕ) (e : Wait) → Contains (waits s.waiting v) e → e.head.0 < length s.founded
  pub queued : (v : Var) → Contains s.pending.items v → IsTrue (marked s.founded v.0)
  pub pending : (v : ℕ) → IsTrue (marked s.founded v) → Contains s.pending.items (record { 0 = v }) ⊎ (waits s.waiting v ≡ [])

abbrev pub mark_count : List Bool → ℕ
mark_count marks = count_by (λ b. b) marks

-- what any part of the search does but for taking what waits
pub record Step (t : TheoryView) (old new : Founding) : Type 0 where
  pub atoms_same : new.atoms ≡ old.atoms
  pub places : length new.founded ≡ length old.founded
  pub founded : IsSubset (marked old.founded) (marked new.founded)
  pub kept : (v : ℕ) (e : Wait) → Contains (waits old.waiting v) e → Contains (waits new.waiting v) e
  pub added : (v : ℕ) (e : Wait) → Contains (waits new.waiting v) e → Contains (waits old.waiting v) e ⊎ (IsTrue (marked new.atoms v) ⊎ IsRested t new v)
  pub valid : IsFounding old → IsFounding new
  pub size : length new.pending.items + mark_count old.founded ≡ length old.pending.items + mark_count new.founded

-- open atoms are variables of the theory without bodies, and variables with bodies have places
pub record IsFit (t : TheoryView) (s : Founding) : Type 0 where
  pub known : (v : ℕ) → IsTrue (marked s.atoms v) → IsVariable t v
  pub atoms : (v : ℕ) → IsTrue (marked s.atoms v) → body_lits t v ≡ []
  pub bodies : (v : ℕ) → 0 < length (body_lits t v) → v < length s.founded

-- where the support is not false and does not rest on w, w does not have the atom
abbrev pub Keeps : TheoryView → List (Option Bool) → (ℕ → Bool) → ℕ → Lit → Type 0
Keeps t a w v l = (IsFalseIn a l → ⊥) → IsFalse (is_internal t w l) → IsFalse (w v)

-- the supports of those of these variables that are open atoms are settled
pub record SettlesAll (t : TheoryView) (a : List (Option Bool)) (old new : Founding) (vars : List Var) : Type 0 where
  pub step : Step t old new
  pub settled : All (λ v. IsTrue (marked new.atoms v.0) → All (IsSettled a new v.0) (support_lits t v.0)) vars
  pub sound : (w : ℕ → Bool) → IsSubset w (marked old.atoms) →
      ((v : ℕ) → IsTrue (marked old.atoms v) → All (Keeps t a w v) (support_lits t v)) → IsSound t w old → IsSound t w new

-- the table with one entry more that waits for a variable
pub record Appends (old new : List (List Wait)) (v : ℕ) (e : Wait) : Type 0 where
  pub size : length new ≡ length old
  pub here : waits new v ≡ waits old v ++ e ∷ []
  pub others : (x : ℕ) → x ≢ v → waits new x ≡ waits old x

-- the table after what waits for a variable was taken
pub record Takes (old new : List (List Wait)) (v : ℕ) (list : List Wait) : Type 0 where
  pub size : length new ≡ length old
  pub taken : list ≡ waits old v
  pub here : waits new v ≡ []
  pub others : (x : ℕ) → x ≢ v → waits new x ≡ waits old x

-- what the whole search does once each support is settled
pub record Drains (t : TheoryView) (old new : Founding) : Type 0 where
  pub atoms_same : new.atoms ≡ old.atoms
  pub valid : IsFounding new
  pub tended : IsTended t new
  pub settled : (a : List (Option Bool)) → AreSettled t a old → AreSettled t a new
  pub sound : (w : ℕ → Bool) → IsSubset w (marked old.atoms) → IsSound t w old → IsSound t w new

-- the tables with a place for each variable and nothing in them
pub record IsEmptied (t : TheoryView) (s : Founding) : Type 0 where
  pub atoms_places : length s.atoms ≡ length t.variables + 1
  pub founded_places : length s.founded ≡ length t.variables + 1
  pub waiting_places : length s.waiting ≡ length t.variables + 1
  pub atoms : (v : ℕ) → IsFalse (marked s.atoms v)
  pub founded : (v : ℕ) → IsFalse (marked s.founded v)
  pub waiting : (v : ℕ) → waits s.waiting v ≡ []
  pub pending : s.pending.items ≡ []

-- the search before its first step: the open atoms are marked, and nothing is founded, waits or is pending
pub record IsBegun (t : TheoryView) (block : ℕ) (a : List (Option Bool)) (s : Founding) : Type 0 where
  pub atoms_are : (v : ℕ) → IsTrue (marked s.atoms v) ↔ IsOpenAtom t block a v
  pub places : length t.variables < length s.founded
  pub founded : (v : ℕ) → IsFalse (marked s.founded v)
  pub waiting : (v : ℕ) → waits s.waiting v ≡ []
  pub valid : IsFounding s

-- The search at its end: what is open and not founded has every unfounded set, and its external supports are false.
pub record IsFinished (t : TheoryView) (block : ℕ) (a : List (Option Bool)) (s : Founding) : Type 0 where
  pub atoms_are : (v : ℕ) → IsTrue (marked s.atoms v) ↔ IsOpenAtom t block a v
  pub greatest : (w : ℕ → Bool) → IsUnfounded t block a w → IsSubset w (unfounded_in s)
  pub supports : (l : Lit) → IsExternal t (unfounded_in s) l → IsFalseIn a l
