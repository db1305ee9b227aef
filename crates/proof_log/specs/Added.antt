-- How the clauses that steps added are kept: nothing is kept for the numbers before the first of them.
use Rattle.std.specs.Prelude.{◌≡◌, ℕ, ◌-◌, ◌<◌, ◌≤◌, ◌⊎◌, ◌++◌, [], List, Option, None, replicate, vec_capacity}
use Rattle.theory_form.specs.declared.literals.Lit.{Lit}
use Rattle.proof_log.specs.declared.added.Added.{Added}

-- they are these, by number
abbrev pub slots_of : Added → List (Option (List Lit))
slots_of a = replicate a.offset None ++ a.items.items

-- nothing is kept yet
abbrev pub IsEmpty : Added → Type 0
IsEmpty a = (a.offset ≡ 0) × (a.items.items ≡ [])

-- a clause can be put at this place without memory
abbrev pub HasRoomAt : Added → ℕ → Type 0
HasRoomAt a place = (IsEmpty a × (0 < vec_capacity a.items)) ⊎ ((a.offset ≤ place) × (place - a.offset < vec_capacity a.items))
