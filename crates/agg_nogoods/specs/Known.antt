-- Variables whose values are known.
use Rattle.std.specs.Prelude.{ℕ, Bool, true, false, if◌then◌else◌, ◌==◌, List, Option, Some, None}
use Rattle.std.specs.List.{list_any}
use Rattle.theory_form.specs.declared.literals.Lit.{Lit}
use Rattle.theory_form.specs.Order.{lit_eq}
use Rattle.theory_form.specs.Truth.{value_of}

-- whether a clause has a literal
abbrev pub has : List Lit → Lit → Bool
has c l = list_any (lit_eq l) c

-- the value that a variable has where the clause is false
abbrev pub known_where_false : List Lit → ℕ → Option Bool
known_where_false c v =
    if has c (record { var = record { 0 = v }; yes = true }) then Some false else
    (if has c (record { var = record { 0 = v }; yes = false }) then Some true else None)

-- the value that a variable has in an assignment where one variable is taken to have a value
abbrev pub known_with : List (Option Bool) → ℕ → Bool → ℕ → Option Bool
known_with a own holds v = if v == own then Some holds else value_of a v
