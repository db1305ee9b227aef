-- What is counted: more than a number of members, and instances by their number and values.
use Rattle.std.specs.Prelude.{◌≡◌, ◌≢◌, ◌<◌, ℕ, List, AllPairs, All, length}
use Rattle.ap_term.specs.Value.{Value}
use Rattle.rule_form.specs.Instances.{Instance, IsInstance}
use Rattle.rule_form.specs.Possible.{Setting}
use Rattle.rule_form.specs.Relevant.{IsRelevant}

-- more than n members, of a set that no list need hold whole
pub record MoreThan {X : Type 0} (n : ℕ) (P : X → Type 0) : Type 0 where
  pub members : List X
  pub distinct : AllPairs (λ a b. a ≢ b) members
  pub all : All P members
  pub longer : n < length members

-- an instance by its number and its values
pub record InstanceKey : Type 0 where
  pub place : ℕ
  pub outer : List Value

-- an instance with this number and these values has P
abbrev pub HasInstance : (Instance → Type 0) → InstanceKey → Type 0
HasInstance P key = (i : Instance) × (i.place ≡ key.place) × (i.outer ≡ key.outer) × P i

-- a relevant instance has this number and these values
abbrev pub IsRelevantKey : Setting → InstanceKey → Type 0
IsRelevantKey setting key = HasInstance (λ i. IsInstance setting.rules i × IsRelevant setting i) key
