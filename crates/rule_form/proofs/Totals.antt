-- A total over distinct members rests on which they are.
use Rattle.std.proofs.Common.{◌≡◌, ◌≢◌, suc, ℤ, List, [], ◌∷◌, ◌++◌, Contains, AllPairs, refl, sym, subst, ap, ◌∙◌, ⊎_elim, inl, inr, arith}
use Rattle.std.specs.Prelude.{◌⊎◌, ◌↔◌, ◌+ℤ◌}
use Rattle.std.proofs.lemmas.Int.{ints}
use Rattle.rule_form.specs.Truth.{total}
use Rattle.rule_form.proofs.Stable.{IsSettled}
use Rattle.rule_form.proofs.Unfolds.{here, there, first_or_rest, nothing_in}

-- each member is none of those behind it
abbrev pub Apart : {X : Type 0} → List X → Type 0
Apart [] = Unit {0}
Apart (x ∷ xs) = (Contains xs x → ⊥) × Apart xs

pub apart : {X : Type 0} (xs : List X) → AllPairs (λ x y. x ≢ y) xs → Apart xs
apart [] h = tt
apart (x ∷ xs) h = (λ (k, lt, e). h 0 (suc k) x (omega arith) (omega (arith, lt)) (sym e), apart xs (λ i j d lt below. h (suc i) (suc j) d (omega (arith, lt)) (omega (arith, below))))

pub mid : {X : Type 0} (front : List X) (t : X) (back : List X) → Contains (front ++ t ∷ back) t
mid [] t back = here t back
mid (x ∷ front) t back = there x (front ++ t ∷ back) t (mid front t back)

wider : {X : Type 0} (front : List X) (t : X) (back : List X) (b : X) → Contains (front ++ back) b → Contains (front ++ t ∷ back) b
wider [] t back b c = there t back b c
wider (x ∷ front) t back b c = ⊎_elim (λ e. subst (Contains (x ∷ (front ++ t ∷ back))) e (here x (front ++ t ∷ back))) (λ r. there x (front ++ t ∷ back) b (wider front t back b r)) (first_or_rest x (front ++ back) b c)

narrower : {X : Type 0} (front : List X) (t : X) (back : List X) (b : X) → Contains (front ++ t ∷ back) b → (t ≡ b) ⊎ Contains (front ++ back) b
narrower [] t back b c = first_or_rest t back b c
narrower (x ∷ front) t back b c = ⊎_elim
    (λ e. inr (subst (Contains (x ∷ (front ++ back))) e (here x (front ++ back))))
    (λ r. ⊎_elim (λ e. inl e) (λ q. inr (there x (front ++ back) b q)) (narrower front t back b r))
    (first_or_rest x (front ++ t ∷ back) b c)

apart_out : {X : Type 0} (front : List X) (t : X) (back : List X) → Apart (front ++ t ∷ back) → Apart (front ++ back) × (Contains (front ++ back) t → ⊥)
apart_out [] t back h = (h.1, h.0)
apart_out (x ∷ front) t back h = let ih = apart_out front t back h.1 in
    ((λ c. h.0 (wider front t back x c), ih.0), λ c. ⊎_elim (λ e. h.0 (subst (Contains (front ++ t ∷ back)) (sym e) (mid front t back))) ih.1 (first_or_rest x (front ++ back) t c))

total_out : {X : Type 0} (f : X → ℤ) (front : List X) (t : X) (back : List X) → total f (front ++ t ∷ back) ≡ f t +ℤ total f (front ++ back)
total_out f [] t back = refl
total_out f (x ∷ front) t back = let e : total f (front ++ t ∷ back) ≡ f t +ℤ total f (front ++ back) = total_out f front t back in omega (arith, ints)

pub split_at : {X : Type 0} (ys : List X) (t : X) → Contains ys t → (front back : List X) × (ys ≡ front ++ t ∷ back)
split_at [] t c = absurd (nothing_in t c)
split_at (y ∷ ys) t c = ⊎_elim
    (λ e. ([], ys, ap (λ u. u ∷ ys) e))
    (λ r. let (front, back, e) = split_at ys t r in (y ∷ front, back, ap (λ us. y ∷ us) e))
    (first_or_rest y ys t c)

totals : {X : Type 0} (f : X → ℤ) (xs ys : List X) → Apart xs → Apart ys → ((t : X) → Contains xs t ↔ Contains ys t) → total f xs ≡ total f ys
totals f [] [] p q h = refl
totals f [] (y ∷ ys) p q h = absurd (nothing_in y ((h y).1 (here y ys)))
totals {X} f (x ∷ xs) ys p q h =
    let (front, back, e) = split_at ys x ((h x).0 (here x xs)) in
    let out = apart_out front x back (subst Apart e q) in
    let ih : total f xs ≡ total f (front ++ back) = totals f xs (front ++ back) p.1 out.0 (λ t. (
      λ c. ⊎_elim (λ s. absurd (p.0 (subst (Contains xs) (sym s) c))) (λ r. r) (narrower front x back t (subst (λ us. Contains us t) e ((h t).0 (there x xs t c)))),
      λ c. ⊎_elim (λ s. absurd (out.1 (subst (Contains (front ++ back)) (sym s) c))) (λ r. r) (first_or_rest x xs t ((h t).1 (subst (λ us. Contains us t) (sym e) (wider front x back t c)))),
    )) in
    ap (λ n. f x +ℤ n) ih ∙ (sym (total_out f front x back) ∙ ap (total f) (sym e))

-- distinct lists with the same members have the same total
pub same_total : {X : Type 0} (f : X → ℤ) (xs ys : List X) → AllPairs (λ x y. x ≢ y) xs → AllPairs (λ x y. x ≢ y) ys → ((t : X) → Contains xs t ↔ Contains ys t) → total f xs ≡ total f ys
same_total f xs ys p q h = totals f xs ys (apart xs p) (apart ys q) h

-- ---- membership that can be decided

pub decide_in : {X : Type 0} → ((a b : X) → (a ≡ b) ⊎ (a ≡ b → ⊥)) → (xs : List X) (b : X) → Contains xs b ⊎ (Contains xs b → ⊥)
decide_in same [] b = inr (nothing_in b)
decide_in same (x ∷ xs) b = ⊎_elim
    (λ e. inl (subst (Contains (x ∷ xs)) e (here x xs)))
    (λ ne. ⊎_elim (λ r. inl (there x xs b r)) (λ out. inr (λ c. ⊎_elim ne out (first_or_rest x xs b c))) (decide_in same xs b))
    (same x b)

pub settled_in : {X : Type 0} → ((a b : X) → (a ≡ b) ⊎ (a ≡ b → ⊥)) → (xs : List X) (b : X) → IsSettled (Contains xs b)
settled_in same xs b deny = ⊎_elim (λ h. h) (λ out. absurd (deny out)) (decide_in same xs b)
