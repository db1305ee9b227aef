-- How two conditions compare, by the first place at which they differ.
use Rattle.std.proofs.Common.{◌≡◌, ◌≢◌, ℕ, ◌+◌, ◌-◌, ◌<◌, ◌≤◌, ◌⊎◌, ℤ, List, length, drop, get_or, refl, sym, ap, ap₂, ◌∙◌, arith, inl, inr, ⊎_elim, Ordering, Less, Equal, Greater, nat_cmp}
use Rattle.std.specs.Ordering.{ordering_then, MatchOrdering}
use Rattle.std.specs.Cmp.{nat_cmp_is, ranks}
use Rattle.std.proofs.lemmas.List.{drop_more, drop_all, length-drop}
use Rattle.sets.specs.Literals.{literal_cmp, literals_cmp}
use Rattle.sets.proofs.LiteralLemmas.{by_lengths}

then_first : (o p : Ordering) → o ≢ Equal → o ≡ ordering_then o p
then_first Less p h = refl
then_first Equal p h = absurd (h refl)
then_first Greater p h = refl

-- the first literals that differ decide
pub differ_at : (a b : List ℤ) (i : ℕ) (x : ℤ) (o : Ordering) → i < length a → i < length b → o ≡ literal_cmp (get_or a i x) (get_or b i x) → o ≢ Equal
    → literals_cmp a b ≡ literals_cmp (drop i a) (drop i b) → o ≡ literals_cmp a b
differ_at a b i x o in_a in_b is differ rest =
    let here : literals_cmp (drop i a) (drop i b) ≡ ordering_then (literal_cmp (get_or a i x) (get_or b i x)) (literals_cmp (drop (i + 1) a) (drop (i + 1) b)) =
    ap₂ literals_cmp (drop_more a i x in_a) (drop_more b i x in_b) in
    then_first o (literals_cmp (drop (i + 1) a) (drop (i + 1) b)) differ ∙ ap (λ p. ordering_then p (literals_cmp (drop (i + 1) a) (drop (i + 1) b))) is ∙ sym here ∙ sym rest

-- two numbers compare as what is left of them behind a third
moved : (m n i : ℕ) → i ≤ m → i ≤ n → nat_cmp m n ≡ nat_cmp (m - i) (n - i)
moved m n i in_m in_n = nat_cmp_is (m - i) (n - i) (nat_cmp m n) (by_case (nat_cmp m n) (ranks m n))
  where
    by_case : (o : Ordering) → MatchOrdering o (m < n) (m ≡ n) (n < m) → MatchOrdering o (m - i < n - i) (m - i ≡ n - i) (n - i < m - i)
    by_case Less h = omega arith
    by_case Equal h = ap (λ k. k - i) h
    by_case Greater h = omega arith

-- where all literals up to the end of one condition are the same, the lengths decide
pub lengths_at : (a b : List ℤ) (i : ℕ) (o : Ordering) → i ≤ length a → i ≤ length b → (length a ≤ i) ⊎ (length b ≤ i) → o ≡ nat_cmp (length a) (length b)
    → literals_cmp a b ≡ literals_cmp (drop i a) (drop i b) → o ≡ literals_cmp a b
lengths_at a b i o in_a in_b end is rest =
    let left = length-drop i a in
    let right = length-drop i b in
    is ∙ (moved (length a) (length b) i in_a in_b
    ∙ (ap₂ nat_cmp (sym left) (sym right) ∙ by_lengths (drop i a) (drop i b) (⊎_elim (λ p. inl (drop_all i a p)) (λ p. inr (drop_all i b p)) end)))
    ∙ sym rest
