-- The numbers of sets that were met.
use Rattle.std.specs.Prelude.{◌≢◌, ℕ, suc, ◌<◌, ◌^◌, Bool, List, All, Option, length, nat_eq}
use Rattle.std.specs.List.{AllPairs, position}
use Rattle.std.specs.Option.{option_map}
use Rattle.std.specs.Ordering.{on}
use lib.Pointwise.{pointwise}
use Rattle.ground_form.specs.declared.atoms.AtomId.{AtomId}
use Rattle.ground_form.specs.declared.atoms.SetId.{SetId}

-- whether two sets are the same: they have the same list of members
abbrev pub is_same : List AtomId → List AtomId → Bool
is_same = pointwise (on (λ (id : AtomId). id.0) nat_eq)

-- the number that has a place, which is counted from 0
abbrev pub number_at : ℕ → SetId
number_at place = record { 0 = suc place }

-- the number of a set among these, if it is one of them
abbrev pub number_of : List (List AtomId) → List AtomId → Option SetId
number_of met x = option_map number_at (position (is_same x) met)

-- the number that the next set takes
abbrev pub next_number : List (List AtomId) → SetId
next_number met = number_at (length met)

-- the set is none of these
abbrev pub IsNewSet : List (List AtomId) → List AtomId → Type 0
IsNewSet met x = All (λ other. other ≢ x) met

-- sets that were met: none of them twice, and so few that each has a number
pub record AreMet (met : List (List AtomId)) : Type 0 where
  pub once : AllPairs (λ x y. x ≢ y) met
  pub few : length met < 2 ^ 63
