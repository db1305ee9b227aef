-- Variables and clauses are numbered from 1. In the lists of a theory number k stands at place k - 1. In the tables by
-- variable a variable's place is its number, and place 0 is no variable's; so a table with room for the variables up to
-- n has n + 1 places.
use Rattle.std.specs.Prelude.{ℕ, zero, suc, ◌-◌, ◌++◌, List, length, Option, None, slice_get, replicate}

-- the entry of a number
abbrev pub at_number : {A : Type 0} → List A → ℕ → Option A
at_number xs zero = None
at_number xs (suc k) = slice_get xs k

-- a table with at least this many places, where each new one has this value
abbrev pub grown : {A : Type 0} → List A → ℕ → A → List A
grown table places x = table ++ replicate (places - length table) x
