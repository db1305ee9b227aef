-- In which order steps can be taken: what must be bound before a step, and what is bound after it. The bound places are given by their test.
use Rattle.std.specs.Prelude.{◌<◌, ℕ, ◌==◌, Bool, ◌||◌, List, [], ◌∷◌, length, All, IsTrue, slice_index_or}
use Rattle.std.specs.List.{flat_map, list_any, AllPairs}
use Rattle.join_form.specs.declared.pattern.Pattern.{Pattern}
use Rattle.join_form.specs.declared.pattern.Pattern.TheVariants.{Known}
use Rattle.join_form.specs.declared.step.Step.{Step}
use Rattle.join_form.specs.declared.step.Step.TheVariants.{Row, Missing, Compute, Between, Same, Compare}
use Rattle.join_form.specs.Patterns.{places_of}

-- the places of the pattern are bound
abbrev pub IsBound : (ℕ → Bool) → Pattern → Type 0
IsBound bound pattern = All (λ place. IsTrue (bound place)) (places_of pattern)

-- the member at this position is there, and what it has to be is bound
abbrev pub IsKey : (ℕ → Bool) → List Pattern → ℕ → Type 0
IsKey bound patterns at = (at < length patterns) × IsBound bound (slice_index_or patterns at (Known (record { 0 = 0 })))

-- what a step needs is bound
abbrev pub IsReady : (ℕ → Bool) → Step → Type 0
IsReady bound (Row relation patterns key) =
    All (IsKey bound patterns) key × AllPairs (λ m n. m < n) key
IsReady bound (Missing relation patterns) = All (IsBound bound) patterns
IsReady bound (Compute op left right place) = IsBound bound left × IsBound bound right
IsReady bound (Between low high place) = IsBound bound low × IsBound bound high
IsReady bound (Same left right) = IsBound bound right
IsReady bound (Compare left order right) = IsBound bound left × IsBound bound right

-- the places that a step binds
abbrev pub binds : Step → List ℕ
binds (Row relation patterns key) = flat_map places_of patterns
binds (Missing relation patterns) = []
binds (Compute op left right place) = place ∷ []
binds (Between low high place) = place ∷ []
binds (Same left right) = places_of left
binds (Compare left order right) = []

-- what is bound after a step
abbrev pub binds_after : (ℕ → Bool) → Step → ℕ → Bool
binds_after bound step n = bound n || list_any (λ place. place == n) (binds step)

-- what is bound after all of them
abbrev pub bound_after : (ℕ → Bool) → List Step → ℕ → Bool
bound_after bound [] = bound
bound_after bound (step ∷ steps) = bound_after (binds_after bound step) steps

-- each step has what it needs, once those before it are taken
abbrev pub AreReady : (ℕ → Bool) → List Step → Type 0
AreReady bound [] = Unit {0}
AreReady bound (step ∷ steps) = IsReady bound step × AreReady (binds_after bound step) steps
