-- Bindings: the ids of the places that have their values.
use Rattle.std.specs.Prelude.{◌≡◌, ℕ, Bool, List, Option, None, IfSome, slice_index_or}
use Rattle.std.specs.Option.{is_some}
use Rattle.ap_term.specs.declared.shape.TermId.{TermId}
use Rattle.ap_term.specs.Table.{IsIdOf, value_at}
use Rattle.ap_term.specs.Value.{Value}
use Rattle.join_form.specs.Patterns.{Assignment}

-- the id of a place, if it has one
abbrev pub bound_at : List (Option TermId) → ℕ → Option TermId
bound_at binding place = slice_index_or binding place None

-- whether a place has its value
abbrev pub is_bound : List (Option TermId) → ℕ → Bool
is_bound binding place = is_some (bound_at binding place)

-- the assignment gives each bound place its value
abbrev pub Fits : List Value → Assignment → List (Option TermId) → Type 0
Fits table a binding = (place : ℕ) → IfSome (bound_at binding place) (λ id. a place ≡ value_at table id)

-- the ids of a binding are those of the table
abbrev pub IsBindingOf : List Value → List (Option TermId) → Type 0
IsBindingOf table binding = (place : ℕ) → IfSome (bound_at binding place) (IsIdOf table)
