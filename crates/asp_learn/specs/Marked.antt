-- Variables that a walk came to: a list of them, and their marks.
use Rattle.std.specs.Prelude.{◌≡◌, ℕ, ◌<◌, ◌==◌, Bool, true, false, if◌then◌else◌, List, length, slice_index_or, IsFalse}
use Rattle.std.specs.List.{All, list_any}
use Rattle.theory_form.specs.declared.literals.Var.{Var}
use Rattle.asp_store.specs.Store.{State}
use Rattle.asp_learn.specs.Conflicts.{AreClear}

-- the bit of a variable, which is clear where there is none
abbrev pub marked : List Bool → ℕ → Bool
marked marks v = slice_index_or marks v false

-- the variable stands in the list
abbrev pub has : List Var → ℕ → Bool
has vars v = list_any (λ w. w.0 == v) vars

-- the variables of the list are marked, which were clear before, and every other bit is as it was
pub record AreMarked (vars : List Var) (old new : List Bool) : Type 0 where
  pub size : length new ≡ length old
  pub bits : (v : ℕ) → marked new v ≡ (if has vars v then true else marked old v)
  pub fresh : All (λ w. (w.0 < length old) × IsFalse (marked old w.0)) vars

-- the variables of the list are clear, and every other bit is as it was
pub record AreCleared (vars : List Var) (old new : List Bool) : Type 0 where
  pub size : length new ≡ length old
  pub bits : (v : ℕ) → marked new v ≡ (if has vars v then false else marked old v)

-- of the variables of the store those of the list are marked
pub record OnlyMarked (s : State) (vars : List Var) (marks : List Bool) : Type 0 where
  pub base : List Bool
  pub clear : AreClear s base
  pub listed : AreMarked vars base marks
