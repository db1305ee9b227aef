-- A set whose members are all in a list that is short enough has no more.
use Rattle.std.proofs.Common.{◌≡◌, ◌≢◌, ℕ, zero, suc, ◌<◌, ◌≤◌, List, [], ◌∷◌, length, get_or, sym, subst, ◌∙◌, AllPairs, Contains, ⊎_elim, arith, not-suc-le-zero}
use Rattle.std.proofs.lemmas.List.Elements.{All-contains}
use Rattle.rule_form.proofs.Unfolds.{here, there, first_or_rest}
use Rattle.rule_form.specs.Counts.{MoreThan}

abbrev drop_at : {X : Type 0} → ℕ → List X → List X
drop_at k [] = []
drop_at zero (x ∷ xs) = xs
drop_at (suc k) (x ∷ xs) = x ∷ drop_at k xs

length-drop_at : {X : Type 0} (k : ℕ) (xs : List X) → k < length xs → length xs ≡ suc (length (drop_at k xs))
length-drop_at k [] lt = absurd (not-suc-le-zero lt)
length-drop_at zero (x ∷ xs) lt = omega arith
length-drop_at (suc k) (x ∷ xs) lt = omega (arith, length-drop_at k xs (omega (arith, lt)))

still_in : {X : Type 0} (k : ℕ) (xs : List X) (y z : X) → k < length xs → get_or xs k y ≡ y → (y ≡ z → ⊥) → Contains xs z → Contains (drop_at k xs) z
still_in k [] y z lt e n c = absurd (not-suc-le-zero lt)
still_in zero (x ∷ xs) y z lt e n c = ⊎_elim (λ s. absurd (n (sym e ∙ s))) (λ r. r) (first_or_rest x xs z c)
still_in (suc k) (x ∷ xs) y z lt e n c = ⊎_elim (λ s. subst (Contains (x ∷ drop_at k xs)) s (here x (drop_at k xs))) (λ r. there x (drop_at k xs) z (still_in k xs y z (omega (arith, lt)) e n r)) (first_or_rest x xs z c)

pub no_longer : {X : Type 0} (ys xs : List X) → AllPairs (λ a b. a ≢ b) ys → ((b : X) → Contains ys b → Contains xs b) → length ys ≤ length xs
no_longer [] xs pairs within = omega arith
no_longer (y ∷ ys) xs pairs within =
    let (k, lt, e) = within y (here y ys) in
    let shorter : length ys ≤ length (drop_at k xs) = no_longer ys (drop_at k xs) (λ i j d ij jl. pairs (suc i) (suc j) d (omega (arith, ij)) (omega (arith, jl)))
    (λ z c. still_in k xs y z lt e (λ s. pairs 0 (suc c.0) z (omega arith) (omega (arith, c.1)) (s ∙ sym c.2)) (within z (there y ys z c))) in
    omega (arith, shorter, length-drop_at k xs lt)

pub not_more : {X : Type 0} (n : ℕ) (P : X → Type 0) (xs : List X) → ((b : X) → P b → Contains xs b) → length xs ≤ n → MoreThan n P → ⊥
not_more n P xs whole short m = not-suc-le-zero {n = 0} (omega (arith, m.longer, short, no_longer m.members xs m.distinct (λ b c. whole b (All-contains P m.members b m.all c))))
