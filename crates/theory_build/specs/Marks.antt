-- Tables of marks, one for each number from 1 on.
use Rattle.std.specs.Prelude.{◌≡◌, ℕ, ◌+◌, ◌<◌, Bool, false, ◌||◌, List, length, slice_index_or}

-- the table tells of each number up to n whether it is in the set
pub record AreMarks (n : ℕ) (set : ℕ → Bool) (marks : List Bool) : Type 0 where
  pub length_is : length marks ≡ n
  pub each : (k : ℕ) → k < n → slice_index_or marks k false ≡ set (k + 1)

-- the numbers of the set are marked besides
pub record Marks (old new : List Bool) (set : ℕ → Bool) : Type 0 where
  pub length_is : length new ≡ length old
  pub each : (k : ℕ) → k < length old → slice_index_or new k false ≡ slice_index_or old k false || set (k + 1)
