-- More different members than a list has.
use Rattle.std.proofs.Common.{◌≡◌, ◌≢◌, ℕ, zero, suc, ◌<◌, ◌≤◌, List, [], ◌∷◌, length, get_or, AllPairs, Contains, refl, sym, ◌∙◌, inl, inr, ⊎_elim, arith, ap, Less, Equal}
use Rattle.std.proofs.lemmas.Cmp.{tied_itself}
use Rattle.std.proofs.lemmas.List.Elements.{Contains-get_or, All-contains}
use Rattle.ap_term.specs.Value.{Value}
use Rattle.ground_agg.specs.Gathered.{HasMoreThan}
use Rattle.ground_agg.specs.Merged.{AreInOrder, pair_cmp}
use Rattle.ground_agg.specs.declared.pair.Pair.{Pair}
use Rattle.ground_agg.proofs.MergeLemmas.{IsIn}
use Rattle.ground_agg.proofs.InOrder.{is_in, contains_from, pair_cmp-total}

module _ {X : Type 0} where
  -- the list without the member at a place
  abbrev without : ℕ → List X → List X
  without k [] = []
  without zero (x ∷ xs) = xs
  without (suc k) (x ∷ xs) = x ∷ without k xs

  length-without : (k : ℕ) (xs : List X) → k < length xs → length xs ≡ suc (length (without k xs))
  length-without k [] low = absurd (omega arith)
  length-without zero (x ∷ xs) low = omega arith
  length-without (suc k) (x ∷ xs) low = omega (arith, length-without k xs (omega (arith, low)))

  still_in : (k : ℕ) (xs : List X) (y z : X) → k < length xs → get_or xs k y ≡ y → (y ≡ z → ⊥) → IsIn z xs → IsIn z (without k xs)
  still_in k [] y z low e n i = absurd (omega arith)
  still_in zero (x ∷ xs) y z low e n i = ⊎_elim (λ s. absurd (n (sym e ∙ s))) (λ r. r) i
  still_in (suc k) (x ∷ xs) y z low e n i = ⊎_elim (λ s. inl s) (λ r. inr (still_in k xs y z (omega (arith, low)) e n r)) i

  -- different members of a list are no more than it has
  pub no_longer : (ys xs : List X) → AllPairs (λ a b. a ≢ b) ys → ((b : X) → IsIn b ys → IsIn b xs) → length ys ≤ length xs
  no_longer [] xs pairs within = omega arith
  no_longer (y ∷ ys) xs pairs within =
      let (k, low, e) = contains_from y xs (within y (inl refl)) in
      let shorter : length ys ≤ length (without k xs) = no_longer ys (without k xs) (λ i j d before inside. pairs (suc i) (suc j) d (omega (arith, before)) (omega (arith, inside)))
      (λ z i. still_in k xs y z low e (λ s. let (m, inside, is) = contains_from z ys i in pairs 0 (suc m) z (omega arith) (omega (arith, inside)) (s ∙ sym is)) (within z (inr i))) in
      omega (arith, shorter, length-without k xs low)

-- pairs in order are as many as there are different ones
module _ (table : List Value) (found ps : List Pair) (o : AreInOrder table found ps) where
  apart : AllPairs (λ p q. p ≢ q) ps
  apart i j d before inside same =
      let less : pair_cmp table (get_or ps i d) (get_or ps j d) ≡ Less = o.ordered i j d before inside in
      let tie : pair_cmp table (get_or ps i d) (get_or ps j d) ≡ Equal = ap (pair_cmp table (get_or ps i d)) (sym same) ∙ tied_itself (pair_cmp-total table) (get_or ps i d) in
      cc

  pub counted_more : (n : ℕ) → n < length ps → HasMoreThan n found
  counted_more n more = record { members = ps; different = apart; found_all = λ k d inside. (o.members (get_or ps k d)).0 (Contains-get_or ps k d inside); more = more }

  pub counted_few : (n : ℕ) → length ps ≤ n → HasMoreThan n found → ⊥
  counted_few n few m =
      let short : length m.members ≤ length ps = no_longer m.members ps m.different (λ p i. is_in p ps ((o.members p).1 (All-contains (Contains found) m.members p m.found_all (contains_from p m.members i)))) in
      let long : n < length m.members = m.more in
      omega arith
