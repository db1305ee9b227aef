-- What a contract sees of a `Trail`: its entries, the newest first, and how many places there are for variables.
use Rattle.std.specs.Prelude.{◌≡◌, ◌==◌, ℕ, suc, ◌<◌, ◌≤◌, Bool, List, [], ◌∷◌, length, map, replicate, Option, Some, None, slice_index_or, slice_set, if◌then◌else◌, nat_le, reverse}
use Rattle.theory_form.specs.declared.literals.Lit.{Lit}
use Rattle.theory_form.specs.Truth.{IsFreeIn}
use Rattle.asp_trail.specs.declared.Entry.{Entry}
use Rattle.asp_trail.specs.declared.Reason.{Reason}
use Rattle.asp_trail.specs.declared.Why.{Why}
use Rattle.asp_trail.specs.declared.Why.TheVariants.{Decision, Clause}

pub record TrailView : Type 0 where
  pub entries : List Entry
  pub places : ℕ

-- the assignment that the entries make, with so many places
abbrev pub values_of : ℕ → List Entry → List (Option Bool)
values_of n [] = replicate n None
values_of n (e ∷ rest) = slice_set (values_of n rest) e.lit.var.0 (Some e.lit.yes)

-- one more level after a decision
abbrev pub level_after : Why → ℕ → ℕ
level_after Decision k = suc k
level_after (Clause id) k = k

-- how many levels are open
abbrev pub level_of : List Entry → ℕ
level_of [] = 0
level_of (e ∷ rest) = level_after e.why (level_of rest)

-- why and at which level a variable was assigned
abbrev pub why_in : List Entry → ℕ → Option (Why × ℕ)
why_in [] v = None
why_in (e ∷ rest) v = if e.lit.var.0 == v then Some (e.why, level_of (e ∷ rest)) else why_in rest v

-- the entries without those above a level
abbrev pub back : ℕ → List Entry → List Entry
back k [] = []
back k (e ∷ rest) = if nat_le (level_of (e ∷ rest)) k then e ∷ rest else back k rest

-- each entry assigns a variable that has a place and had no value before
abbrev pub IsTrail : ℕ → List Entry → Type 0
IsTrail n [] = Unit {0}
IsTrail n (e ∷ rest) = (e.lit.var.0 < n) × IsFreeIn (values_of n rest) e.lit × IsTrail n rest

-- the fields of a trail hold these entries
pub record Holds (values : List (Option Bool)) (items : List Entry) (level room : ℕ) : Type 0 where
  pub same : values ≡ values_of (length values) (reverse items)
  pub trail : IsTrail (length values) (reverse items)
  pub level_is : level ≡ level_of (reverse items)
  pub room_is : length values ≤ room

-- what stands in the table of reasons where nothing was assigned yet
abbrev pub no_reason : Reason
no_reason = record { why = Decision; level = 0 }

-- the table of reasons tells why and at which level each entry was assigned
abbrev pub AreRecorded : List Reason → List Entry → Type 0
AreRecorded table [] = Unit {0}
AreRecorded table (e ∷ rest) =
    (slice_index_or table e.lit.var.0 no_reason ≡ record { why = e.why; level = level_of (e ∷ rest) }) × AreRecorded table rest

-- what is true of the fields of every trail
pub record HoldsTrail (values : List (Option Bool)) (items : List Entry) (lits : List Lit) (reasons : List Reason) (level room lits_room : ℕ) : Type 0 where
  pub holds : Holds values items level room
  pub lits_are : lits ≡ map (λ e. e.lit) items
  pub recorded : AreRecorded reasons (reverse items)
  pub reasons_room : length values ≤ length reasons
  pub lits_room_is : length values ≤ lits_room
