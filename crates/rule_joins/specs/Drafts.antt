-- How far a rule is compiled: its variables with their places, how many places there are, and the steps.
use Rattle.std.specs.Prelude.{◌≡◌, ◌≢◌, ◌<◌, ◌≤◌, ◌⊎◌, ℕ, ◌+◌, pos, List, [], ◌∷◌, ◌++◌, map, All, AllPairs, Contains, if◌then◌else◌}
use Rattle.std.specs.Str.{bytes_eq}
use Rattle.ap_term.specs.Table.{KeepsIds}
use Rattle.ap_term.specs.Value.{Value, integer}
use Rattle.join_form.specs.declared.step.Step.{Step}
use Rattle.join_form.specs.Patterns.{Assignment}
use Rattle.join_form.specs.Steps.{StepHolds, IsStepOf}
use Rattle.rule_form.specs.Values.{Substitution}

-- a variable by its name, and its place
abbrev pub Placed : Type 0
Placed = List ℕ × ℕ

-- places are numbered from 0
pub record Drafted : Type 0 where
  pub variables : List Placed
  pub places : ℕ
  pub steps : List Step

-- the names of the variables that have a place
abbrev pub names_of : List Placed → List (List ℕ)
names_of variables = map (λ (v : Placed). v.0) variables

-- each variable has at its place the value that s gives it
abbrev pub Carries : List Placed → Assignment → Substitution → Type 0
Carries variables a s = All (λ (v : Placed). a v.1 ≡ s v.0) variables

-- each step holds, over the rows of each relation
abbrev pub AllHold : List Value → List (List (List Value)) → Assignment → List Step → Type 0
AllHold table rows a steps = All (StepHolds table rows a) steps

-- b has the values of a at the places below n
abbrev pub SameBelow : ℕ → Assignment → Assignment → Type 0
SameBelow n a b = (place : ℕ) → place < n → b place ≡ a place

-- each variable has one place, and the steps are over the places and the table
pub record IsDraft (table : List Value) (draft : Drafted) : Type 0 where
  pub within : All (λ (v : Placed). v.1 < draft.places) draft.variables
  pub once : AllPairs (λ (v w : Placed). v.0 ≢ w.0) draft.variables
  pub over : All (IsStepOf table draft.places) draft.steps

-- ids, places and steps that were there stay
pub record Grows (old : List Value) (from : Drafted) (new : List Value) (to : Drafted) : Type 0 where
  pub table : KeepsIds old new
  pub variables : (more : List Placed) × (to.variables ≡ from.variables ++ more)
  pub places : from.places ≤ to.places
  pub steps : (more : List Step) × (to.steps ≡ from.steps ++ more)

-- the variable has this place: it had it, or it is the next one
abbrev pub IsPlacedIn : Drafted → List ℕ → ℕ → Drafted → Type 0
IsPlacedIn old name place new = (Contains old.variables (name, place) × (new ≡ old))
    ⊎ ((Contains (names_of old.variables) name → ⊥) × (place ≡ old.places)
    × (new ≡ record { variables = old.variables ++ (name, place) ∷ []; places = old.places + 1; steps = old.steps }))

-- the draft of a rule whose steps are taken out
abbrev pub IsBase : List Value → Drafted → Type 0
IsBase table draft = IsDraft table draft × (draft.steps ≡ [])

-- the substitution that an assignment gives: each variable has the value at its place, and another name 0
abbrev pub reading : List Placed → Assignment → Substitution
reading [] a name = integer (pos 0)
reading (v ∷ vs) a name = if bytes_eq v.0 name then a v.1 else reading vs a name
