-- Pairs in order, and two lists of them as one.
use Rattle.std.specs.Prelude.{◌≡◌, ◌↔◌, List, [], ◌∷◌, AllPairs, Contains}
use Rattle.std.specs.declared.cmp.Ordering.{Ordering}
use Rattle.std.specs.declared.cmp.Ordering.TheVariants.{Less, Equal, Greater}
use Rattle.std.specs.Ordering.{ordering_then}
use Rattle.ap_term.specs.Value.{Value}
use Rattle.ground_agg.specs.Tuples.{tuple_cmp, condition_cmp}
use Rattle.ground_agg.specs.declared.pair.Pair.{Pair}

-- pairs by their tuples, and then by their conditions
abbrev pub pair_cmp : List Value → Pair → Pair → Ordering
pair_cmp table p q = ordering_then (tuple_cmp table p.tuple q.tuple) (condition_cmp p.condition q.condition)

-- the pairs that were found, in order and each once
pub record AreInOrder (table : List Value) (found pairs : List Pair) : Type 0 where
  pub ordered : AllPairs (λ p q. pair_cmp table p q ≡ Less) pairs
  pub members : (p : Pair) → Contains pairs p ↔ Contains found p

-- one of three, by how two compare
abbrev pub by_order : {X : Type 0} → Ordering → X → X → X → X
by_order Less x y z = x
by_order Equal x y z = y
by_order Greater x y z = z

-- x goes among the ys, and what is left of its own list among the ys that are left then
abbrev pub merge_with : {X : Type 0} → (X → X → Ordering) → X → (List X → List X) → List X → List X
merge_with cmp x rest [] = x ∷ rest []
merge_with cmp x rest (y ∷ ys) = by_order (cmp x y) (x ∷ rest (y ∷ ys)) (x ∷ rest ys) (y ∷ merge_with cmp x rest ys)

-- two ascending lists as one, with what both have in it once
abbrev pub merge : {X : Type 0} → (X → X → Ordering) → List X → List X → List X
merge cmp [] ys = ys
merge cmp (x ∷ xs) ys = merge_with cmp x (merge cmp xs) ys
