-- The first in the texts.
use Rattle.std.specs.Prelude.{◌≡◌, ℕ, ◌<◌, Bool, ◌&&◌, ◌||◌, ◌==◌, nat_lt, if◌then◌else◌, List, ◌∷◌, ◌++◌, Option, Some, None, All, ◌⊎◌}
use Rattle.ap_bindings.specs.declared.search.Failing.{Failing}

pub record Place : Type 0 where
  pub file : ℕ
  pub at : ℕ

-- in an earlier file, or earlier in the same file
abbrev pub IsBefore : Place → Place → Type 0
IsBefore p q = (p.file < q.file) ⊎ ((p.file ≡ q.file) × (p.at < q.at))

-- x fails, at this place. All others of the list that fail are behind it; at the same place they follow in the list
pub record IsFirst {X : Type 0} (place : X → Place) (Fails : X → Type 0) (all : List X) (first : Place) (x : X) : Type 0 where
  pub here : place x ≡ first
  pub fails : Fails x
  pub others : (before : List X) × (after : List X) × (all ≡ before ++ x ∷ after)
      × All (λ y. Fails y → IsBefore first (place y)) before × All (λ y. Fails y → IsBefore (place y) first → ⊥) after

-- none of them fails
abbrev pub NoneFails : {X : Type 0} → (X → Type 0) → List X → Type 0
NoneFails Fails all = All (λ x. Fails x → ⊥) all

-- ---- searches for the first, of which `what` is told

abbrev pub failing_place : {T : Type 0} → Failing T → Place
failing_place f = record { file = f.file; at = f.at }

-- none fails, or this is the first that does, and `what` is true of it
abbrev pub IsFirstFailing : {X T : Type 0} → (X → Place) → (X → Type 0) → (X → T → Type 0) → List X → Option (Failing T) → Type 0
IsFirstFailing place Fails Tells all None = NoneFails Fails all
IsFirstFailing {X = X} place Fails Tells all (Some f) = (x : X) × IsFirst place Fails all (failing_place f) x × Tells x f.what

abbrev pub is_earlier : {T : Type 0} → Failing T → Failing T → Bool
is_earlier f g = nat_lt f.file g.file || ((f.file == g.file) && nat_lt f.at g.at)

-- the other only if it is earlier
abbrev pub earlier_of : {T : Type 0} → Failing T → Failing T → Failing T
earlier_of f g = if is_earlier g f then g else f

abbrev pub first_failing : {T : Type 0} → Option (Failing T) → Option (Failing T) → Option (Failing T)
first_failing None other = other
first_failing (Some f) None = Some f
first_failing (Some f) (Some g) = Some (earlier_of f g)
