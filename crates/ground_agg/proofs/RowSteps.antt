-- Steps of the loop that makes rows of pairs.
use Rattle.std.proofs.Common.{◌≡◌, ℕ, ◌+◌, ◌<◌, Bool, true, false, cond, List, [], ◌∷◌, ◌++◌, map, length, get_or, drop, sym, ap, ap₂, ◌∙◌, append_assoc}
use Rattle.std.proofs.lemmas.List.{drop_more}
use denote.Ref.{Bor}
use Rattle.ground_agg.specs.Rows.{is_same_tuple, row_of, rows_from, with_condition}
use Rattle.ground_agg.specs.declared.pair.Pair.{Pair}
use Rattle.ground_agg.specs.declared.row.TupleRow.{TupleRow}

module _ (rest : List (Bor Pair)) (i : ℕ) (x : Bor Pair) (low : i < length rest) (is : x ≡ get_or rest i x) (all done : List TupleRow) (row : TupleRow)
    (before : all ≡ done ++ rows_from row (map (λ p. p.now) (drop i rest))) where
  abbrev left : List Pair
  left = map (λ (p : Bor Pair). p.now) (drop (i + 1) rest)

  looked : (b : Bool) → b ≡ is_same_tuple x.now.tuple row.tuple → all ≡ done ++ cond b (rows_from (with_condition row x.now) left) (row ∷ rows_from (row_of x.now) left)
  looked b same =
      before ∙ ap (λ ps. done ++ rows_from row (map (λ (p : Bor Pair). p.now) ps)) (drop_more rest i x low ∙ ap (λ y. y ∷ drop (i + 1) rest) (sym is))
      ∙ ap (λ c. done ++ cond c (rows_from (with_condition row x.now) left) (row ∷ rows_from (row_of x.now) left)) (sym same)

  pub same_step : (next : List TupleRow) (next_row : TupleRow) → true ≡ is_same_tuple x.now.tuple row.tuple → next_row ≡ with_condition row x.now → next ≡ done → all ≡ next ++ rows_from next_row left
  same_step next next_row same grown kept = looked true same ∙ ap₂ (λ rows r. rows ++ rows_from r left) (sym kept) (sym grown)

  pub other_step : (next : List TupleRow) (next_row : TupleRow) → false ≡ is_same_tuple x.now.tuple row.tuple → next_row ≡ row_of x.now → next ≡ done ++ row ∷ [] → all ≡ next ++ rows_from next_row left
  other_step next next_row other begun pushed =
      looked false other ∙ sym (append_assoc done (row ∷ []) (rows_from (row_of x.now) left)) ∙ ap₂ (λ rows r. rows ++ rows_from r left) (sym pushed) (sym begun)
