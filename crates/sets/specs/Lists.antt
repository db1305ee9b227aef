-- Lists that are counted from 1, and lists in ascending order.
use Rattle.std.specs.Prelude.{ℕ, zero, suc, ◌<◌, ◌≤◌, List, Option, None, slice_get}
use Rattle.std.specs.List.{AllPairs}

-- the member at a place, counted from 1
abbrev pub numbered : {X : Type 0} → List X → ℕ → Option X
numbered xs zero = None
numbered xs (suc place) = slice_get xs place

-- a number in a list of so many members that is counted from 1
abbrev pub IsNumberOf : ℕ → ℕ → Type 0
IsNumberOf members n = (0 < n) × (n ≤ members)

-- the number of each member is below those of all later ones, so none stands twice
abbrev pub IsAscending : {X : Type 0} → (X → ℕ) → List X → Type 0
IsAscending number xs = AllPairs (λ x y. number x < number y) xs
