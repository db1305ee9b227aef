-- Sets of atoms as lists of their numbers.
use Rattle.std.specs.Prelude.{ℕ, ◌==◌, Bool, List}
pub use Rattle.sets.specs.Sets.{nothing, IsSubset}
use Rattle.sets.specs.Sets as sets
use Rattle.sets.specs.Lists as lists
use Rattle.ground_form.specs.declared.atoms.AtomId.{AtomId}

-- the set of the members of a list
abbrev pub has : List AtomId → ℕ → Bool
has = sets.has (λ id a. id.0 == a)

-- each number is below all later ones
abbrev pub IsAscending : List AtomId → Type 0
IsAscending = lists.IsAscending (λ id. id.0)
