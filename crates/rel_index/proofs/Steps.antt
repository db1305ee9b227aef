-- Steps of the loops over the rows of a relation.
use Rattle.std.proofs.Common.{◌≡◌, ℕ, ◌+◌, ◌<◌, Bool, true, false, List, [], ◌∷◌, ◌++◌, map, length, get_or, cond, filter, drop, Some, slice_get, refl, sym, ap, ap₂, subst, arith, ◌∙◌, append_assoc}
use Rattle.std.specs.List.{zip}
use Rattle.std.specs.List.Sorted.{IsSorted, IsSortedByKey}
use Rattle.std.specs.Ordering.{is_lt}
use Rattle.std.proofs.lemmas.List.{drop_more, get_or-map, length-map}
use Rattle.std.proofs.lemmas.Option.{slice_get_within, get_or_from_slice_get}
use Rattle.ap_term.specs.declared.shape.TermId.{TermId}
use Rattle.rel_index.specs.Keys.{is_same_key, key_cmp, key_of, keyed_from, places_beside}

-- the row at a place is the first of those from there on
drop_got : {X : Type 0} (xs : List X) (i : ℕ) (x : X) → slice_get xs i ≡ Some x → drop i xs ≡ x ∷ drop (i + 1) xs
drop_got xs i x got = drop_more xs i x (slice_get_within xs i x got) ∙ ap (λ y. y ∷ drop (i + 1) xs) (get_or_from_slice_get xs i x x got)

module _ (places : List ℕ) (rows : List (List TermId)) (i : ℕ) (row : List TermId) (got : slice_get rows i ≡ Some row) where
  keyed_more : keyed_from i places (drop i rows) ≡ (key_of places row, i) ∷ keyed_from (i + 1) places (drop (i + 1) rows)
  keyed_more = ap (keyed_from i places) (drop_got rows i row got)

  -- one more row gets its key
  pub keyed_step : (all done next : List (List TermId × ℕ)) (key : List TermId) → all ≡ done ++ keyed_from i places (drop i rows) → key ≡ key_of places row → next ≡ done ++ (key, i) ∷ []
      → all ≡ next ++ keyed_from (i + 1) places (drop (i + 1) rows)
  keyed_step all done next key before is pushed =
      let rest = keyed_from (i + 1) places (drop (i + 1) rows) in
      before ∙ ap (λ es. done ++ es) (keyed_more ∙ ap (λ k. (k, i) ∷ rest) (sym is)) ∙ sym (append_assoc done ((key, i) ∷ []) rest) ∙ ap (λ es. es ++ rest) (sym pushed)

  -- one more row is looked at: it has the key, or it has another
  module _ (key : List TermId) (all done next : List ℕ) (before : all ≡ done ++ places_beside key (keyed_from i places (drop i rows))) where
    -- the rows behind it
    abbrev rest : List (List TermId × ℕ)
    rest = filter (λ e. is_same_key e.0 key) (keyed_from (i + 1) places (drop (i + 1) rows))

    looked : (b : Bool) → b ≡ is_same_key (key_of places row) key → all ≡ done ++ map (λ (e : List TermId × ℕ). e.1) (cond b ((key_of places row, i) ∷ rest) rest)
    looked b is =
        before ∙ ap (λ es. done ++ places_beside key es) keyed_more
        ∙ ap (λ c. done ++ map (λ (e : List TermId × ℕ). e.1) (cond c ((key_of places row, i) ∷ rest) rest)) (sym is)

    pub found_step : true ≡ is_same_key (key_of places row) key → next ≡ done ++ i ∷ [] → all ≡ next ++ places_beside key (keyed_from (i + 1) places (drop (i + 1) rows))
    found_step is pushed = looked true is ∙ sym (append_assoc done (i ∷ []) (map (λ e. e.1) rest)) ∙ ap (λ ps. ps ++ map (λ e. e.1) rest) (sym pushed)

    pub passed_step : false ≡ is_same_key (key_of places row) key → next ≡ done → all ≡ next ++ places_beside key (keyed_from (i + 1) places (drop (i + 1) rows))
    passed_step is same = looked false is ∙ ap (λ ps. ps ++ map (λ e. e.1) rest) (sym same)

-- lists of pairs are the pairs of their two lists
pub zip-parts : {K X : Type 0} (es : List (K × X)) → zip (map (λ e. e.0) es) (map (λ e. e.1) es) ≡ es
zip-parts [] = refl
zip-parts (e ∷ es) = ap (λ rest. e ∷ rest) (zip-parts es)

-- the keys of pairs in order are in order
pub sorted_keys : (es : List (List TermId × ℕ)) → IsSortedByKey (λ e. e.0) key_cmp es → IsSorted key_cmp (map (λ e. e.0) es)
sorted_keys es up k d low high =
    let shorter : k + 1 < length es = subst (λ n. k + 1 < n) (length-map es (λ e. e.0)) high in
    let at : get_or (map (λ e. e.0) es) k d ≡ (get_or es k (d, 0)).0 = get_or-map (λ e. e.0) es k (d, 0) d (omega arith) in
    let after : get_or (map (λ e. e.0) es) (k + 1) d ≡ (get_or es (k + 1) (d, 0)).0 = get_or-map (λ e. e.0) es (k + 1) (d, 0) d shorter in
    ap₂ (λ a b. is_lt (key_cmp a b)) after at ∙ up k (d, 0) low shorter
