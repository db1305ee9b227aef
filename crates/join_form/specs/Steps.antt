-- When a step holds.
use Rattle.std.specs.Prelude.{◌≡◌, ◌<◌, ℕ, ℤ, ◌≤ℤ◌, Bool, not, List, [], ◌∷◌, ◌++◌, Some, Contains, All, IsTrue, slice_index_or}
use Rattle.std.specs.List.{flat_map}
use Rattle.std.specs.Ordering.{is_eq, is_lt, is_le, is_gt, is_ge}
use Rattle.ap_term.specs.Arithmetic.{compute}
use Rattle.ap_term.specs.Order.{value_cmp}
use Rattle.ap_term.specs.Value.{Value, integer}
use Rattle.join_form.specs.declared.pattern.Pattern.{Pattern}
use Rattle.join_form.specs.declared.step.Comparison.{Comparison}
use Rattle.join_form.specs.declared.step.Comparison.TheVariants.{Eq, Ne, Lt, Le, Gt, Ge}
use Rattle.join_form.specs.declared.step.Step.{Step}
use Rattle.join_form.specs.declared.step.Step.TheVariants.{Row, Missing, Compute, Between, Same, Compare}
use Rattle.join_form.specs.Patterns.{Assignment, pattern_value, pattern_values, places_of, IsPatternOf}

-- whether two values stand in this order
abbrev pub compares : Comparison → Value → Value → Bool
compares Eq v w = is_eq (value_cmp v w)
compares Ne v w = not (is_eq (value_cmp v w))
compares Lt v w = is_lt (value_cmp v w)
compares Le v w = is_le (value_cmp v w)
compares Gt v w = is_gt (value_cmp v w)
compares Ge v w = is_ge (value_cmp v w)

-- the relation of this number has a row with these values. `rows` has the rows of each relation; there is none of a greater number
abbrev pub HasRow : List (List (List Value)) → ℕ → List Value → Type 0
HasRow rows relation values = Contains (slice_index_or rows relation []) values

-- the step holds of the values of its places
abbrev pub StepHolds : List Value → List (List (List Value)) → Assignment → Step → Type 0
StepHolds table rows a (Row relation patterns key) = HasRow rows relation (pattern_values table a patterns)
StepHolds table rows a (Missing relation patterns) = HasRow rows relation (pattern_values table a patterns) → ⊥
StepHolds table rows a (Compute op left right place) = (i j k : ℤ) × (pattern_value table a left ≡ integer i)
    × (pattern_value table a right ≡ integer j) × (compute op i j ≡ Some k) × (a place ≡ integer k)
StepHolds table rows a (Between low high place) = (i j k : ℤ) × (pattern_value table a low ≡ integer i)
    × (pattern_value table a high ≡ integer j) × (i ≤ℤ k) × (k ≤ℤ j) × (a place ≡ integer k)
StepHolds table rows a (Same left right) = pattern_value table a left ≡ pattern_value table a right
StepHolds table rows a (Compare left order right) =
    IsTrue (compares order (pattern_value table a left) (pattern_value table a right))

-- ---- what stands in a step

-- the places of a step
abbrev pub step_places : Step → List ℕ
step_places (Row relation patterns key) = flat_map places_of patterns
step_places (Missing relation patterns) = flat_map places_of patterns
step_places (Compute op left right place) = place ∷ places_of left ++ places_of right
step_places (Between low high place) = place ∷ places_of low ++ places_of high
step_places (Same left right) = places_of left ++ places_of right
step_places (Compare left order right) = places_of left ++ places_of right

-- the step is over so many places, and its ids are those of the table
abbrev pub IsStepOf : List Value → ℕ → Step → Type 0
IsStepOf table places (Row relation patterns key) = All (IsPatternOf table places) patterns
IsStepOf table places (Missing relation patterns) = All (IsPatternOf table places) patterns
IsStepOf table places (Compute op left right place) =
    IsPatternOf table places left × IsPatternOf table places right × (place < places)
IsStepOf table places (Between low high place) =
    IsPatternOf table places low × IsPatternOf table places high × (place < places)
IsStepOf table places (Same left right) = IsPatternOf table places left × IsPatternOf table places right
IsStepOf table places (Compare left order right) = IsPatternOf table places left × IsPatternOf table places right
