-- The value of a pattern under an assignment of values to places.
use Rattle.std.specs.Prelude.{ℕ, ◌<◌, List, [], ◌∷◌, All, map}
use Rattle.std.specs.List.{flat_map}
use Rattle.ap_term.specs.declared.shape.TermId.{TermId}
use Rattle.ap_term.specs.Table.{IsIdOf, value_at}
use Rattle.ap_term.specs.Value.{Value, compound, arguments_from}
use Rattle.join_form.specs.declared.pattern.Pattern.{Pattern, fold-Pattern}
use Rattle.join_form.specs.declared.pattern.Pattern.TheOpen.{Pattern-F}

-- a value for each place
abbrev pub Assignment : Type 0
Assignment = ℕ → Value

-- one level of a pattern, its parts having their values
abbrev pub value_step : List Value → Assignment → Pattern-F Value → Value
value_step table a (Pattern-F.Place place) = a place
value_step table a (Pattern-F.Known id) = value_at table id
value_step table a (Pattern-F.Compound name parts) = compound name (arguments_from parts)

-- the value of a pattern, where ids are those of the table
abbrev pub pattern_value : List Value → Assignment → Pattern → Value
pattern_value table a = fold-Pattern Value (value_step table a)

-- the values of patterns, in their order
abbrev pub pattern_values : List Value → Assignment → List Pattern → List Value
pattern_values table a patterns = map (pattern_value table a) patterns

-- ---- what stands in a pattern

-- one level, with the places in its parts
abbrev pub places_step : Pattern-F (List ℕ) → List ℕ
places_step (Pattern-F.Place place) = place ∷ []
places_step (Pattern-F.Known id) = []
places_step (Pattern-F.Compound name parts) = flat_map (λ part. part) parts

-- the places in a pattern, from left to right
abbrev pub places_of : Pattern → List ℕ
places_of = fold-Pattern (List ℕ) places_step

-- one level, with the ids in its parts
abbrev pub ids_step : Pattern-F (List TermId) → List TermId
ids_step (Pattern-F.Place place) = []
ids_step (Pattern-F.Known id) = id ∷ []
ids_step (Pattern-F.Compound name parts) = flat_map (λ part. part) parts

-- the ids in a pattern, from left to right
abbrev pub ids_of : Pattern → List TermId
ids_of = fold-Pattern (List TermId) ids_step

-- the pattern has so many places, and its ids are those of the table
abbrev pub IsPatternOf : List Value → ℕ → Pattern → Type 0
IsPatternOf table places pattern = All (λ place. place < places) (places_of pattern) × All (IsIdOf table) (ids_of pattern)
