-- The tuples of an aggregate with their conditions, each once and in order.
use Rattle.std.specs.Prelude.{◌≡◌, ◌≢◌, ℕ, ℤ, ◌<◌, ◌↔◌, List, map, length, All, AllPairs, Contains}
use Rattle.std.specs.declared.cmp.Ordering.TheVariants.{Less}
use Rattle.ap_term.specs.declared.shape.TermId.{TermId}
use Rattle.ap_term.specs.Value.{Value}
use Rattle.ap_term.specs.Table.{IsIdOf}
use Rattle.sets.specs.Literals.{AreLiteralsInOrder}
use Rattle.ground_agg.specs.Tuples.{tuple_cmp, condition_cmp}
use Rattle.ground_agg.specs.declared.pair.Pair.{Pair}
use Rattle.ground_agg.specs.declared.row.TupleRow.{TupleRow}

-- a pair whose tuple is made of values of the table, and whose condition is a set: its literals are in order, each once
pub record IsPairOf (table : List Value) (pair : Pair) : Type 0 where
  pub members : All (IsIdOf table) pair.tuple
  pub condition : AreLiteralsInOrder pair.condition

-- the rows that gather the pairs that were found
pub record IsGathered (table : List Value) (found : List Pair) (rows : List TupleRow) : Type 0 where
  -- each tuple is before the next ones
  pub ordered : AllPairs (λ (r : TupleRow) (s : TupleRow). tuple_cmp table r.tuple s.tuple ≡ Less) rows
  -- the tuples are those that were found
  pub tuples : (t : List TermId) → Contains (map (λ (r : TupleRow). r.tuple) rows) t ↔ Contains (map (λ (p : Pair). p.tuple) found) t
  -- each condition of a row is before the next ones
  pub sorted : All (λ (r : TupleRow). AllPairs (λ c d. condition_cmp c d ≡ Less) r.conditions) rows
  -- the conditions of a row are those that were found with its tuple
  pub conditions : (r : TupleRow) → Contains rows r → (c : List ℤ) → Contains r.conditions c ↔ Contains found (record { tuple = r.tuple; condition = c })

-- more than n different pairs were found
pub record HasMoreThan (n : ℕ) (found : List Pair) : Type 0 where
  pub members : List Pair
  pub different : AllPairs (λ p q. p ≢ q) members
  pub found_all : All (Contains found) members
  pub more : n < length members
