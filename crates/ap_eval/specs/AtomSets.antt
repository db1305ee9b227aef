-- Sets of atoms. A set is given by its test on the names of atoms.
use Rattle.std.specs.Prelude.{ℕ, Bool, List, IsTrue}
use Rattle.std.specs.List.{list_any}
use Rattle.std.specs.Str.{bytes_eq}

-- a set of atoms: whether the atom of this name is in it
abbrev pub AtomSet : Type 0
AtomSet = List ℕ → Bool

abbrev pub IsSubset : AtomSet → AtomSet → Type 0
IsSubset x y = (a : List ℕ) → IsTrue (x a) → IsTrue (y a)

-- the set of the members of a list
abbrev pub has : List (List ℕ) → AtomSet
has names a = list_any (λ b. bytes_eq b a) names
