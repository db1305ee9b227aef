-- Pairs that the order does not tell apart are the same.
use Rattle.std.proofs.Common.{◌≡◌, List, [], ◌∷◌, map, All, refl, ap₂, Ordering, Less, Equal, Greater}
use Rattle.std.specs.Ordering.{ordering_then}
use Rattle.std.proofs.lemmas.List.Elements.{All-head, All-tail}
use Rattle.ap_term.specs.declared.shape.TermId.{TermId}
use Rattle.ap_term.specs.Value.{Value, arguments_from}
use Rattle.ap_term.specs.Table.{IsIdOf, value_at, HasDistinctValues}
use Rattle.ap_term.proofs.OrderLemmas.{value_same}
use Rattle.sets.proofs.LiteralLemmas.{same_literals}
use Rattle.ground_agg.specs.Tuples.{tuple_cmp, tuple_value, condition_cmp}
use Rattle.ground_agg.specs.Gathered.{IsPairOf}
use Rattle.ground_agg.specs.Merged.{pair_cmp}
use Rattle.ground_agg.specs.declared.pair.Pair.{Pair}

pub then_parts : (o p : Ordering) → ordering_then o p ≡ Equal → (o ≡ Equal) × (p ≡ Equal)
then_parts Less p e = cc
then_parts Equal p e = (refl, e)
then_parts Greater p e = cc

module _ (table : List Value) (apart : HasDistinctValues table) where
  same_ids : (a b : List TermId) → All (IsIdOf table) a → All (IsIdOf table) b → arguments_from (map (value_at table) a) ≡ arguments_from (map (value_at table) b) → a ≡ b
  same_ids [] [] h k e = refl
  same_ids [] (y ∷ b) h k e = cc
  same_ids (x ∷ a) [] h k e = cc
  same_ids (x ∷ a) (y ∷ b) h k e =
      let first : value_at table x ≡ value_at table y = cc in
      let rest : arguments_from (map (value_at table) a) ≡ arguments_from (map (value_at table) b) = cc in
      ap₂ ◌∷◌ (apart x y (All-head (IsIdOf table) x a h) (All-head (IsIdOf table) y b k) first) (same_ids a b (All-tail (IsIdOf table) x a h) (All-tail (IsIdOf table) y b k) rest)

  pub same_tuples : (a b : List TermId) → All (IsIdOf table) a → All (IsIdOf table) b → tuple_cmp table a b ≡ Equal → a ≡ b
  same_tuples a b h k e =
      let values : tuple_value table a ≡ tuple_value table b = value_same (tuple_value table a) (tuple_value table b) e in
      same_ids a b h k cc

  pub same_pairs : (p q : Pair) → IsPairOf table p → IsPairOf table q → pair_cmp table p q ≡ Equal → p ≡ q
  same_pairs p q h k e =
      let parts = then_parts (tuple_cmp table p.tuple q.tuple) (condition_cmp p.condition q.condition) e in
      ap₂ (λ t c. record { tuple = t; condition = c }) (same_tuples p.tuple q.tuple h.members k.members parts.0) (same_literals p.condition q.condition parts.1)
