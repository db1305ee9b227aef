-- Literals over atoms that are numbered: an atom's number, and the negative of one under `not`.
use Rattle.std.specs.Prelude.{◌*◌, ℕ, suc, ℤ, pos, negsuc, List}
use Rattle.std.specs.Ordering.{nat_cmp}
use Rattle.std.specs.Cmp.Lexicographic.{slice_cmp}
use Rattle.std.specs.declared.cmp.Ordering.{Ordering}
use Rattle.sets.specs.Lists.{IsAscending}

-- the place of a literal among all: by its atom, the positive one first
abbrev pub literal_place : ℤ → ℕ
literal_place (pos k) = k * 2
literal_place (negsuc k) = suc (suc k * 2)

-- the order of literals
abbrev pub literal_cmp : ℤ → ℤ → Ordering
literal_cmp c d = nat_cmp (literal_place c) (literal_place d)

-- the order of lists of literals: member by member, a proper prefix first
abbrev pub literals_cmp : List ℤ → List ℤ → Ordering
literals_cmp = slice_cmp literal_cmp

-- each literal stands before all later ones, so none stands twice
abbrev pub AreLiteralsInOrder : List ℤ → Type 0
AreLiteralsInOrder = IsAscending literal_place
