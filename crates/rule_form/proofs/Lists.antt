-- Membership in lists that are made of others, and lists of distinct members.
use Rattle.std.proofs.Common.{◌≡◌, ◌≢◌, Bool, true, false, cond, ℤ, pos, List, [], ◌∷◌, ◌++◌, map, filter, flat_map, Contains, AllPairs, IsTrue, refl, sym, subst, ap, ◌∙◌, ⊎_elim, inl, inr, arith}
use Rattle.std.specs.Prelude.{◌⊎◌, ◌+ℤ◌, ◌-ℤ◌}
use Rattle.std.proofs.lemmas.Bool.{false≢true}
use Rattle.std.proofs.lemmas.Int.{ints}
use Rattle.std.proofs.lemmas.List.{get_or_default}
use Rattle.std.proofs.lemmas.List.Kept.{AllPairs-cons}
use Rattle.rule_form.specs.Truth.{total}
use Rattle.rule_form.proofs.Totals.{Apart}
use Rattle.rule_form.proofs.Unfolds.{here, there, first_or_rest, nothing_in}

-- ---- membership

pub in_append : {X : Type 0} (xs ys : List X) (b : X) → Contains (xs ++ ys) b → Contains xs b ⊎ Contains ys b
in_append [] ys b c = inr c
in_append (x ∷ xs) ys b c = ⊎_elim
    (λ e. inl (subst (Contains (x ∷ xs)) e (here x xs)))
    (λ r. ⊎_elim (λ h. inl (there x xs b h)) (λ h. inr h) (in_append xs ys b r))
    (first_or_rest x (xs ++ ys) b c)

pub to_right : {X : Type 0} (xs ys : List X) (b : X) → Contains ys b → Contains (xs ++ ys) b
to_right [] ys b c = c
to_right (x ∷ xs) ys b c = there x (xs ++ ys) b (to_right xs ys b c)

pub to_left : {X : Type 0} (xs ys : List X) (b : X) → Contains xs b → Contains (xs ++ ys) b
to_left [] ys b c = absurd (nothing_in b c)
to_left (x ∷ xs) ys b c = ⊎_elim (λ e. subst (Contains (x ∷ (xs ++ ys))) e (here x (xs ++ ys))) (λ r. there x (xs ++ ys) b (to_left xs ys b r)) (first_or_rest x xs b c)

pub in_map : {X Y : Type 0} (f : X → Y) (xs : List X) (b : Y) → Contains (map f xs) b → (a : X) × Contains xs a × (f a ≡ b)
in_map f [] b c = absurd (nothing_in b c)
in_map f (x ∷ xs) b c = ⊎_elim
    (λ e. (x, here x xs, e))
    (λ r. let (a, m, e) = in_map f xs b r in (a, there x xs a m, e))
    (first_or_rest (f x) (map f xs) b c)

pub to_map : {X Y : Type 0} (f : X → Y) (xs : List X) (a : X) → Contains xs a → Contains (map f xs) (f a)
to_map f [] a c = absurd (nothing_in a c)
to_map f (x ∷ xs) a c = ⊎_elim (λ e. subst (λ y. Contains (f x ∷ map f xs) (f y)) e (here (f x) (map f xs))) (λ r. there (f x) (map f xs) (f a) (to_map f xs a r)) (first_or_rest x xs a c)

pub in_flat : {X Y : Type 0} (f : X → List Y) (xs : List X) (b : Y) → Contains (flat_map f xs) b → (a : X) × Contains xs a × Contains (f a) b
in_flat f [] b c = absurd (nothing_in b c)
in_flat f (x ∷ xs) b c = ⊎_elim
    (λ h. (x, here x xs, h))
    (λ r. let (a, m, h) = in_flat f xs b r in (a, there x xs a m, h))
    (in_append (f x) (flat_map f xs) b c)

pub to_flat : {X Y : Type 0} (f : X → List Y) (xs : List X) (a : X) (b : Y) → Contains xs a → Contains (f a) b → Contains (flat_map f xs) b
to_flat f [] a b c h = absurd (nothing_in a c)
to_flat f (x ∷ xs) a b c h = ⊎_elim
    (λ e. to_left (f x) (flat_map f xs) b (subst (λ y. Contains (f y) b) (sym e) h))
    (λ r. to_right (f x) (flat_map f xs) b (to_flat f xs a b r h))
    (first_or_rest x xs a c)

in_cond : {X : Type 0} (p : X → Bool) (x : X) (xs ys : List X) (b : X) (t : Bool) → p x ≡ t → (Contains ys b → Contains xs b × IsTrue (p b)) → Contains (cond t (x ∷ ys) ys) b → Contains (x ∷ xs) b × IsTrue (p b)
in_cond p x xs ys b true e ih c = ⊎_elim (λ s. (subst (Contains (x ∷ xs)) s (here x xs), ap p (sym s) ∙ e)) (λ r. let h = ih r in (there x xs b h.0, h.1)) (first_or_rest x ys b c)
in_cond p x xs ys b false e ih c = let h = ih c in (there x xs b h.0, h.1)

pub in_filter : {X : Type 0} (p : X → Bool) (xs : List X) (b : X) → Contains (filter p xs) b → Contains xs b × IsTrue (p b)
in_filter p [] b c = absurd (nothing_in b c)
in_filter p (x ∷ xs) b c = in_cond p x xs (filter p xs) b (p x) refl (in_filter p xs b) c

to_cond : {X : Type 0} (p : X → Bool) (x : X) (xs ys : List X) (b : X) (t : Bool) → p x ≡ t → (Contains xs b → Contains ys b) → IsTrue (p b) → Contains (x ∷ xs) b → Contains (cond t (x ∷ ys) ys) b
to_cond p x xs ys b true e ih h c = ⊎_elim (λ s. subst (Contains (x ∷ ys)) s (here x ys)) (λ r. there x ys b (ih r)) (first_or_rest x xs b c)
to_cond p x xs ys b false e ih h c = ⊎_elim (λ s. absurd (false≢true (sym e ∙ (ap p s ∙ h)))) ih (first_or_rest x xs b c)

pub to_filter : {X : Type 0} (p : X → Bool) (xs : List X) (b : X) → Contains xs b → IsTrue (p b) → Contains (filter p xs) b
to_filter p [] b c h = absurd (nothing_in b c)
to_filter p (x ∷ xs) b c h = to_cond p x xs (filter p xs) b (p x) refl (λ r. to_filter p xs b r h) h c

-- ---- distinct members

pub apart_back : {X : Type 0} (xs : List X) → Apart xs → AllPairs (λ x y. x ≢ y) xs
apart_back [] h = λ i j d lt below. absurd (nothing_in d (j, below, refl))
apart_back (x ∷ xs) h = AllPairs-cons (λ x y. x ≢ y) x xs (λ k d lt e. h.0 (k, lt, get_or_default xs k x d lt ∙ sym e)) (apart_back xs h.1)

pub apart_map : {X Y : Type 0} (f : X → Y) → ((a b : X) → f a ≡ f b → a ≡ b) → (xs : List X) → Apart xs → Apart (map f xs)
apart_map f inj [] h = tt
apart_map f inj (x ∷ xs) h = (λ c. let (a, m, e) = in_map f xs (f x) c in h.0 (subst (Contains xs) (inj a x e) m), apart_map f inj xs h.1)

pub apart_append : {X : Type 0} (xs ys : List X) → Apart xs → Apart ys → ((b : X) → Contains xs b → Contains ys b → ⊥) → Apart (xs ++ ys)
apart_append [] ys p q d = q
apart_append (x ∷ xs) ys p q d = (
  λ c. ⊎_elim p.0 (λ h. d x (here x xs) h) (in_append xs ys x c),
  apart_append xs ys p.1 q (λ b h. d b (there x xs b h)),
)

apart_cond : {X : Type 0} (x : X) (ys : List X) (t : Bool) → (Contains ys x → ⊥) → Apart ys → Apart (cond t (x ∷ ys) ys)
apart_cond x ys true out h = (out, h)
apart_cond x ys false out h = h

pub apart_filter : {X : Type 0} (p : X → Bool) (xs : List X) → Apart xs → Apart (filter p xs)
apart_filter p [] h = tt
apart_filter p (x ∷ xs) h = apart_cond x (filter p xs) (p x) (λ c. h.0 (in_filter p xs x c).0) (apart_filter p xs h.1)

-- ---- totals

pub total_append : {X : Type 0} (f : X → ℤ) (xs ys : List X) → total f (xs ++ ys) ≡ total f xs +ℤ total f ys
total_append f [] ys = omega (arith, ints)
total_append f (x ∷ xs) ys = let e : total f (xs ++ ys) ≡ total f xs +ℤ total f ys = total_append f xs ys in omega (arith, ints)

pub total_map : {X Y : Type 0} (f : Y → ℤ) (g : X → ℤ) (h : X → Y) (xs : List X) → ((x : X) → Contains xs x → f (h x) ≡ g x) → total f (map h xs) ≡ total g xs
total_map f g h [] same = refl
total_map f g h (x ∷ xs) same = let e : total f (map h xs) ≡ total g xs = total_map f g h xs (λ y c. same y (there x xs y c)) in let d : f (h x) ≡ g x = same x (here x xs) in omega (arith, ints)

pub total_minus : {X : Type 0} (f g : X → ℤ) (xs : List X) → ((x : X) → Contains xs x → f x ≡ pos 0 -ℤ g x) → total f xs ≡ pos 0 -ℤ total g xs
total_minus f g [] same = omega (arith, ints)
total_minus f g (x ∷ xs) same = let e : total f xs ≡ pos 0 -ℤ total g xs = total_minus f g xs (λ y c. same y (there x xs y c)) in let d : f x ≡ pos 0 -ℤ g x = same x (here x xs) in omega (arith, ints)
