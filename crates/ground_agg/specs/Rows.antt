-- Pairs in order as rows.
use Rattle.std.specs.Prelude.{Bool, List, [], ◌∷◌, ◌++◌, nat_eq, if◌then◌else◌}
use Rattle.std.specs.Ordering.{on}
use lib.Pointwise.{pointwise}
use Rattle.ap_term.specs.declared.shape.TermId.{TermId}
use Rattle.ground_agg.specs.declared.pair.Pair.{Pair}
use Rattle.ground_agg.specs.declared.row.TupleRow.{TupleRow}

-- whether two tuples have the same members
abbrev pub is_same_tuple : List TermId → List TermId → Bool
is_same_tuple = pointwise (on (λ id. id.0) nat_eq)

-- the row of one pair
abbrev pub row_of : Pair → TupleRow
row_of p = record { tuple = p.tuple; conditions = p.condition ∷ [] }

-- the row with one more condition
abbrev pub with_condition : TupleRow → Pair → TupleRow
with_condition row p = record { tuple = row.tuple; conditions = row.conditions ++ p.condition ∷ [] }

-- the rows of pairs in order, where a row was begun: a pair of another tuple begins the next one
abbrev pub rows_from : TupleRow → List Pair → List TupleRow
rows_from row [] = row ∷ []
rows_from row (p ∷ ps) = if is_same_tuple p.tuple row.tuple then rows_from (with_condition row p) ps else row ∷ rows_from (row_of p) ps

abbrev pub rows_of : List Pair → List TupleRow
rows_of [] = []
rows_of (p ∷ ps) = rows_from (row_of p) ps
