-- Sets of names, as lists.
use Rattle.std.specs.Prelude.{ℕ, Bool, List}
use Rattle.std.specs.List.{list_any}
use Rattle.std.specs.Str.{bytes_eq}

-- whether a name is among these
abbrev pub is_named : List (List ℕ) → List ℕ → Bool
is_named names name = list_any (λ other. bytes_eq other name) names
