-- Places that go down from 4.
use Rattle.std.proofs.Common.{◌≡◌, ℕ, ◌+◌, ◌<◌, ◌≤◌, List, map, length, get_or, All, subst, sym, ◌∙◌, arith}
use Rattle.std.proofs.lemmas.List.{get_or-map, length-map}
use Rattle.rel_index.specs.Keys.{AreDistinct}

module _ {X : Type 0} (bound : List (ℕ × X)) (n : ℕ) (down : (k : ℕ) (d : ℕ × X) → k < n → (get_or bound k d).0 + k ≡ 4) (all : length bound ≤ n) where
  pub below_five : All (λ b. b.0 < 5) bound
  below_five k d low = omega (arith, down k d (omega arith))

  pub apart : (x : X) → AreDistinct (map (λ b. b.0) bound)
  apart x i j d before within same =
      let inside : j < length bound = subst (λ m. j < m) (length-map bound (λ b. b.0)) within in
      let first : get_or (map (λ b. b.0) bound) i d ≡ (get_or bound i (d, x)).0 = get_or-map (λ b. b.0) bound i (d, x) d (omega arith) in
      let second : get_or (map (λ b. b.0) bound) j d ≡ (get_or bound j (d, x)).0 = get_or-map (λ b. b.0) bound j (d, x) d inside in
      let equal : (get_or bound i (d, x)).0 ≡ (get_or bound j (d, x)).0 = sym first ∙ same ∙ second in
      let down_i : (get_or bound i (d, x)).0 + i ≡ 4 = down i (d, x) (omega arith) in
      let down_j : (get_or bound j (d, x)).0 + j ≡ 4 = down j (d, x) (omega arith) in
      omega arith
