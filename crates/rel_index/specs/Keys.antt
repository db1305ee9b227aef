-- The key that a row has at some places, and the rows that have a key.
use Rattle.std.specs.Prelude.{◌≢◌, ℕ, ◌+◌, Bool, List, [], ◌∷◌, map, filter, AllPairs, slice_index_or, nat_eq}
use Rattle.std.specs.declared.cmp.Ordering.{Ordering}
use Rattle.std.specs.Ordering.{on, nat_cmp}
use Rattle.std.specs.Cmp.Lexicographic.{slice_cmp}
use lib.Pointwise.{pointwise}
use Rattle.ap_term.specs.declared.shape.TermId.{TermId}

-- the members of a row at some places, where the row has them
abbrev pub key_of : List ℕ → List TermId → List TermId
key_of places row = map (λ p. slice_index_or row p (record { 0 = 0 })) places

-- whether two keys have the same members in the same order
abbrev pub is_same_key : List TermId → List TermId → Bool
is_same_key = pointwise (on (λ id. id.0) nat_eq)

-- the keys of the rows, each with the place of its row, where the first place is counted as i
abbrev pub keyed_from : ℕ → List ℕ → List (List TermId) → List (List TermId × ℕ)
keyed_from i places [] = []
keyed_from i places (row ∷ rows) = (key_of places row, i) ∷ keyed_from (i + 1) places rows

-- the places that stand beside a key, in their order
abbrev pub places_beside : List TermId → List (List TermId × ℕ) → List ℕ
places_beside key entries = map (λ e. e.1) (filter (λ e. is_same_key e.0 key) entries)

-- the places of the rows whose members at these places are the key, ascending
abbrev pub rows_with : List ℕ → List TermId → List (List TermId) → List ℕ
rows_with places key rows = places_beside key (keyed_from 0 places rows)

-- no place stands twice
abbrev pub AreDistinct : List ℕ → Type 0
AreDistinct places = AllPairs (λ p q. p ≢ q) places

-- an order of keys: the first members that differ decide
abbrev pub key_cmp : List TermId → List TermId → Ordering
key_cmp = slice_cmp (on (λ id. id.0) nat_cmp)
