-- The end of a merge: what is left of one list goes behind what is merged.
use Rattle.std.proofs.Common.{◌≡◌, ℕ, ◌≤◌, ◌-◌, List, [], ◌++◌, map, length, take, drop, sym, ap, ◌∙◌, inl, inr, ⊎_elim, Ordering, append_assoc}
use Rattle.std.specs.Prelude.{◌⊎◌}
use Rattle.std.proofs.lemmas.List.{map-append, drop_all, take_rest}
use denote.Ref.{Bor}
use Rattle.ground_agg.specs.Merged.{merge}
use Rattle.ground_agg.proofs.MergeLemmas.{merge_last}

module _ {X : Type 0} (cmp : X → X → Ordering) (left right done first last : List (Bor X)) (i j : ℕ) where
  abbrev values : List (Bor X) → List X
  values = map (λ (p : Bor X). p.now)

  pub merge_end : (all : List X) → all ≡ map (λ (p : Bor X). p.now) done ++ merge cmp (map (λ (p : Bor X). p.now) (drop i left)) (map (λ (p : Bor X). p.now) (drop j right))
      → (length left ≤ i) ⊎ (length right ≤ j) → first ≡ done ++ take (length left - i) (drop i left) → last ≡ first ++ take (length right - j) (drop j right) → map (λ (p : Bor X). p.now) last ≡ all
  merge_end all before over pushed_part more_part =
      let pushed = pushed_part ∙ ap (λ ps. done ++ ps) (take_rest left i) in
      let more = more_part ∙ ap (λ ps. first ++ ps) (take_rest right j) in
      let none : (values (drop i left) ≡ []) ⊎ (values (drop j right) ≡ []) = ⊎_elim (λ le. inl (ap values (drop_all i left le))) (λ le. inr (ap values (drop_all j right le))) over in
      ap values (more ∙ ap (λ ps. ps ++ drop j right) pushed) ∙ map-append (λ (p : Bor X). p.now) (done ++ drop i left) (drop j right)
      ∙ ap (λ vs. vs ++ values (drop j right)) (map-append (λ (p : Bor X). p.now) done (drop i left)) ∙ append_assoc (values done) (values (drop i left)) (values (drop j right))
      ∙ ap (λ vs. values done ++ vs) (sym (merge_last cmp (values (drop i left)) (values (drop j right)) none)) ∙ sym before
