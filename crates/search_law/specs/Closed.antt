-- What a search has found where every variable has a value.
use Rattle.std.specs.Prelude.{◌≡◌, ◌≢◌, ℕ, ◌<◌, Bool, false, List, length, Option, Some, None}
use Rattle.theory_form.specs.declared.rows.SumRow.{SumRow}
use Rattle.theory_form.specs.Theories.{TheoryView, row_of}
use Rattle.theory_form.specs.Truth.{value_of}
use Rattle.loop_nogoods.specs.Unfounded.{IsUnfounded}
use Rattle.agg_nogoods.specs.Implied.{IsAnswer}

-- every variable has a value
abbrev pub IsTotal : List (Option Bool) → Type 0
IsTotal a = (v : ℕ) → 0 < v → v < length a → value_of a v ≢ None

-- the truth values of a total assignment
abbrev pub truth_of : Option Bool → Bool
truth_of None = false
truth_of (Some b) = b

abbrev pub truths : List (Option Bool) → ℕ → Bool
truths a v = truth_of (value_of a v)

-- No program of the theory has an unfounded set, and no row implies a clause that is false or unit.
pub record IsClosed (t : TheoryView) (a : List (Option Bool)) : Type 0 where
  pub loops : (block : ℕ) → block < t.blocks → (u : ℕ → Bool) → IsUnfounded t block a u → ⊥
  pub sums : (v : ℕ) (row : SumRow) → row_of t v ≡ Some row → IsAnswer row a None
