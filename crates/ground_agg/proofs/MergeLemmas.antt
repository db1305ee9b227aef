-- What a merge of two ascending lists has in it, and that it ascends.
use Rattle.std.proofs.Common.{◌≡◌, ◌↔◌, List, [], ◌∷◌, ◌++◌, refl, sym, ap, subst, ◌∙◌, inl, inr, ⊎_elim, Ordering, Less, Equal, Greater}
use Rattle.std.specs.Prelude.{◌⊎◌}
use Rattle.std.proofs.lemmas.List.{append-nil}
use Rattle.ground_agg.specs.Merged.{by_order, merge, merge_with}

-- membership by recursion
abbrev pub IsIn : {X : Type 0} → X → List X → Type 0
IsIn z [] = ⊥
IsIn z (x ∷ xs) = (x ≡ z) ⊎ IsIn z xs

-- a fact of each, by recursion
abbrev pub Each : {X : Type 0} → (X → Type 0) → List X → Type 0
Each P [] = Unit {0}
Each P (x ∷ xs) = P x × Each P xs

module _ {X : Type 0} (cmp : X → X → Ordering) where
  -- each is below those behind it
  abbrev pub Ascends : List X → Type 0
  Ascends [] = Unit {0}
  Ascends (x ∷ xs) = Each (λ y. cmp x y ≡ Less) xs × Ascends xs

  -- nothing is left to merge
  merge_none : (xs : List X) → merge cmp xs [] ≡ xs
  merge_none [] = refl
  merge_none (x ∷ xs) = ap (λ ys. x ∷ ys) (merge_none xs)

  pub merge_last : (xs ys : List X) → (xs ≡ []) ⊎ (ys ≡ []) → merge cmp xs ys ≡ xs ++ ys
  merge_last xs ys e =
      ⊎_elim (λ is. ap (λ zs. merge cmp zs ys) is ∙ ap (λ zs. zs ++ ys) (sym is))
      (λ is. ap (merge cmp xs) is ∙ merge_none xs ∙ sym (append-nil xs) ∙ ap (λ zs. xs ++ zs) (sym is)) e

  -- what holds of each of two lists holds of each of their merge
  module _ (P : X → Type 0) where
    each_with : (x : X) (rest : List X → List X) → P x → ((ys : List X) → Each P ys → Each P (rest ys)) → (ys : List X) → Each P ys → Each P (merge_with cmp x rest ys)
    each_with x rest here later [] h = (here, later [] tt)
    each_with x rest here later (y ∷ ys) h =
        elim (cmp x y) as (λ o. Each P (by_order o (x ∷ rest (y ∷ ys)) (x ∷ rest ys) (y ∷ merge_with cmp x rest ys))) [
          | Less ↦ (here, later (y ∷ ys) h)
          | Equal ↦ (here, later ys h.1)
          | Greater ↦ (h.0, each_with x rest here later ys h.1)
        ]

    pub each_merged : (xs ys : List X) → Each P xs → Each P ys → Each P (merge cmp xs ys)
    each_merged [] ys h k = k
    each_merged (x ∷ xs) ys h k = each_with x (merge cmp xs) h.0 (λ zs. each_merged xs zs h.1) ys k

  -- the merge of two ascending lists ascends, where the order is one along a chain and both ways round
  module _ (P : X → Type 0) (chain : (x y z : X) → cmp x y ≡ Less → cmp y z ≡ Less → cmp x z ≡ Less)
      (turned : (x y : X) → cmp x y ≡ Greater → cmp y x ≡ Less) (same : (x y : X) → P x → P y → cmp x y ≡ Equal → x ≡ y) where
    further : (x y : X) (ys : List X) → cmp x y ≡ Less → Each (λ z. cmp y z ≡ Less) ys → Each (λ z. cmp x z ≡ Less) ys
    further x y [] e h = tt
    further x y (z ∷ zs) e h = (chain x y z e h.0, further x y zs e h.1)

    ascends_with : (x : X) (xs : List X) → P x → Each (λ z. cmp x z ≡ Less) xs → Each P xs → ((ys : List X) → Each P ys → Ascends ys → Ascends (merge cmp xs ys))
        → (ys : List X) → Each P ys → Ascends ys → Ascends (merge_with cmp x (merge cmp xs) ys)
    ascends_with x xs px below all later [] h up = (each_merged (λ z. cmp x z ≡ Less) xs [] below tt, later [] tt tt)
    ascends_with x xs px below all later (y ∷ ys) h up = by_case (ascends_with x xs px below all later ys h.1 up.1) (cmp x y) refl
      where
        by_case : Ascends (merge_with cmp x (merge cmp xs) ys) → (o : Ordering) → cmp x y ≡ o → Ascends (by_order o (x ∷ merge cmp xs (y ∷ ys)) (x ∷ merge cmp xs ys) (y ∷ merge_with cmp x (merge cmp xs) ys))
        by_case behind Less e = (each_merged (λ z. cmp x z ≡ Less) xs (y ∷ ys) below (e, further x y ys e up.0), later (y ∷ ys) h up)
        by_case behind Equal e =
            (each_merged (λ z. cmp x z ≡ Less) xs ys below (subst (λ w. Each (λ z. cmp w z ≡ Less) ys) (sym (same x y px h.0 e)) up.0), later ys h.1 up.1)
        by_case behind Greater e =
            let back : cmp y x ≡ Less = turned x y e in
            (each_merged (λ z. cmp y z ≡ Less) (x ∷ xs) ys (back, further y x xs back below) up.0, behind)

    pub ascends_merged : (xs ys : List X) → Each P xs → Ascends xs → Each P ys → Ascends ys → Ascends (merge cmp xs ys)
    ascends_merged [] ys h up k down = down
    ascends_merged (x ∷ xs) ys h up k down = ascends_with x xs h.0 up.0 h.1 (λ zs q r. ascends_merged xs zs h.1 up.1 q r) ys k down

  -- the merge has what one of the two has, where those that tie are the same
  module _ (P : X → Type 0) (same : (x y : X) → P x → P y → cmp x y ≡ Equal → x ≡ y) where
    in_with : (z x : X) (xs : List X) (rest : List X → List X) → P x
        → ((ys : List X) → Each P ys → IsIn z (rest ys) ↔ (IsIn z xs ⊎ IsIn z ys))
        → (ys : List X) → Each P ys → IsIn z (merge_with cmp x rest ys) ↔ (IsIn z (x ∷ xs) ⊎ IsIn z ys)
    in_with z x xs rest px later [] h = (
      λ i. ⊎_elim (λ e. inl (inl e)) (λ r. ⊎_elim (λ k. inl (inr k)) (λ k. inr k) ((later [] tt).0 r)) i,
      λ i. ⊎_elim (λ k. ⊎_elim (λ e. inl e) (λ r. inr ((later [] tt).1 (inl r))) k) (λ k. absurd k) i,
    )
    in_with z x xs rest px later (y ∷ ys) h = by_case (in_with z x xs rest px later ys h.1) (cmp x y) refl
      where
        by_case : IsIn z (merge_with cmp x rest ys) ↔ (IsIn z (x ∷ xs) ⊎ IsIn z ys) → (o : Ordering) → cmp x y ≡ o → IsIn z (by_order o (x ∷ rest (y ∷ ys)) (x ∷ rest ys) (y ∷ merge_with cmp x rest ys)) ↔ (IsIn z (x ∷ xs) ⊎ IsIn z (y ∷ ys))
        by_case behind Less e = (
          λ i. ⊎_elim (λ e. inl (inl e)) (λ r. ⊎_elim (λ k. inl (inr k)) (λ k. inr k) ((later (y ∷ ys) h).0 r)) i,
          λ i. ⊎_elim (λ k. ⊎_elim (λ e. inl e) (λ r. inr ((later (y ∷ ys) h).1 (inl r))) k) (λ k. inr ((later (y ∷ ys) h).1 (inr k))) i,
        )
        by_case behind Equal e = (
          λ i. ⊎_elim (λ e. inl (inl e)) (λ r. ⊎_elim (λ k. inl (inr k)) (λ k. inr (inr k)) ((later ys h.1).0 r)) i,
          λ i. ⊎_elim (λ k. ⊎_elim (λ e. inl e) (λ r. inr ((later ys h.1).1 (inl r))) k)
              (λ k. ⊎_elim (λ is. inl (same x y px h.0 e ∙ is)) (λ r. inr ((later ys h.1).1 (inr r))) k) i,
        )
        by_case behind Greater e = (
          λ i. ⊎_elim (λ e. inr (inl e)) (λ r. ⊎_elim (λ k. inl k) (λ k. inr (inr k)) (behind.0 r)) i,
          λ i. ⊎_elim (λ k. inr (behind.1 (inl k))) (λ k. ⊎_elim (λ e. inl e) (λ r. inr (behind.1 (inr r))) k) i,
        )

    pub in_merged : (z : X) (xs ys : List X) → Each P xs → Each P ys → IsIn z (merge cmp xs ys) ↔ (IsIn z xs ⊎ IsIn z ys)
    in_merged z [] ys h k = (λ i. inr i, λ i. ⊎_elim (λ e. absurd e) (λ e. e) i)
    in_merged z (x ∷ xs) ys h k = in_with z x xs (merge cmp xs) h.0 (λ zs q. in_merged z xs zs h.1 q) ys k
