-- Sets of names, as lists.
use Rattle.std.specs.Prelude.{◌≡◌, ℕ, ◌<◌, ◌||◌, List, ◌++◌}
use Rattle.std.specs.Set.{distinct_count}
use Rattle.std.specs.Str.{bytes_eq}
use Rattle.ap_eval.specs.AtomSets.{has}

-- new has the members of old and these names
abbrev pub Adds : List (List ℕ) → List (List ℕ) → List (List ℕ) → Type 0
Adds old names new = (q : List ℕ) → has new q ≡ (has old q || has names q)

-- old and these names have more than 12 members
abbrev pub ExceedsTwelve : List (List ℕ) → List (List ℕ) → Type 0
ExceedsTwelve old names = 12 < distinct_count bytes_eq (old ++ names)
