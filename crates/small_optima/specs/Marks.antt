-- Sets of elements as lists of marks, one for each element.
use Rattle.std.specs.Prelude.{Bool, not, ◌&&◌, ◌||◌, List}
use Rattle.std.specs.List.{list_all, zip}

-- each element that is marked in the first is marked in the second
abbrev pub marks_part : List Bool → List Bool → Bool
marks_part xs ys = list_all (λ pair. not pair.0 || pair.1) (zip xs ys)

-- a proper part
abbrev pub marks_better : List Bool → List Bool → Bool
marks_better xs ys = marks_part xs ys && not (marks_part ys xs)
