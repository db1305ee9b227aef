-- The order of literals and of lists of them.
use Rattle.std.proofs.Common.{◌⊎◌, inl, inr, ◌≡◌, ℕ, suc, ◌*◌, ◌<◌, ℤ, pos, negsuc, Bool, true, false, List, [], ◌∷◌, length, refl, sym, ap, ap₂, subst, arith, Ordering, Less, Equal, Greater, nat_cmp}
use Rattle.std.specs.Prelude.{unsigned_abs}
use Rattle.std.specs.Ordering.{ordering_then, bool_cmp, MatchOrdering}
use Rattle.std.specs.Cmp.{IsTotalOrder, nat_cmp_is, ranks}
use Rattle.std.proofs.lemmas.Cmp.{nat_cmp_total, on_total, lists_total}
use Rattle.sets.specs.Literals.{literal_place, literal_cmp, literals_cmp}

pub literal_cmp-total : IsTotalOrder literal_cmp
literal_cmp-total = on_total literal_place nat_cmp_total

pub literals_cmp-total : IsTotalOrder literals_cmp
literals_cmp-total = lists_total literal_cmp-total

-- ---- literals that tie are the same

equal_numbers : (m n : ℕ) → nat_cmp m n ≡ Equal → m ≡ n
equal_numbers m n e = subst (λ o. MatchOrdering o (m < n) (m ≡ n) (n < m)) e (ranks m n)

same_place : (c d : ℤ) → literal_place c ≡ literal_place d → c ≡ d
same_place (pos m) (pos n) e = let same : m ≡ n = omega arith in ap pos same
same_place (pos m) (negsuc n) e = absurd (omega arith)
same_place (negsuc m) (pos n) e = absurd (omega arith)
same_place (negsuc m) (negsuc n) e = let same : m ≡ n = omega arith in ap negsuc same

pub same_literal : (c d : ℤ) → literal_cmp c d ≡ Equal → c ≡ d
same_literal c d e = same_place c d (equal_numbers (literal_place c) (literal_place d) e)

first_tie : (o p : Ordering) → ordering_then o p ≡ Equal → (o ≡ Equal) × (p ≡ Equal)
first_tie Less p e = cc
first_tie Equal p e = (refl, e)
first_tie Greater p e = cc

pub same_literals : (cs ds : List ℤ) → literals_cmp cs ds ≡ Equal → cs ≡ ds
same_literals [] [] e = refl
same_literals [] (d ∷ ds) e = cc
same_literals (c ∷ cs) [] e = cc
same_literals (c ∷ cs) (d ∷ ds) e =
    let parts = first_tie (literal_cmp c d) (literals_cmp cs ds) e in
    ap₂ ◌∷◌ (same_literal c d parts.0) (same_literals cs ds parts.1)

-- the order and the places
pub before_by_place : (c d : ℤ) → literal_place c < literal_place d → literal_cmp c d ≡ Less
before_by_place c d lt = sym (nat_cmp_is (literal_place c) (literal_place d) Less lt)

pub place_by_before : (c d : ℤ) → literal_cmp c d ≡ Less → literal_place c < literal_place d
place_by_before c d e = subst (λ o. MatchOrdering o (literal_place c < literal_place d) (literal_place c ≡ literal_place d) (literal_place d < literal_place c)) e (ranks (literal_place c) (literal_place d))

-- ---- the order by atom and sign

by_atom : (m n p q : ℕ) (tie o : Ordering) → nat_cmp m n ≡ o → (m < n → p < q) → (n < m → q < p) → (m ≡ n → tie ≡ nat_cmp p q) → ordering_then o tie ≡ nat_cmp p q
by_atom m n p q tie Less e below above same = nat_cmp_is p q Less (below (subst (λ o. MatchOrdering o (m < n) (m ≡ n) (n < m)) e (ranks m n)))
by_atom m n p q tie Equal e below above same = same (equal_numbers m n e)
by_atom m n p q tie Greater e below above same = nat_cmp_is p q Greater (above (subst (λ o. MatchOrdering o (m < n) (m ≡ n) (n < m)) e (ranks m n)))

abbrev is_negative : ℤ → Bool
is_negative (pos k) = false
is_negative (negsuc k) = true

-- literals by their atoms, and of one atom the positive one first
pub literal_cmp_parts : (c d : ℤ) → ordering_then (nat_cmp (unsigned_abs c) (unsigned_abs d)) (bool_cmp (is_negative c) (is_negative d)) ≡ literal_cmp c d
literal_cmp_parts (pos m) (pos n) = by_atom m n (m * 2) (n * 2) Equal (nat_cmp m n) refl (λ l. omega arith) (λ l. omega arith) (λ e. nat_cmp_is (m * 2) (n * 2) Equal (omega arith))
literal_cmp_parts (pos m) (negsuc n) = by_atom m (suc n) (m * 2) (suc (suc n * 2)) Less (nat_cmp m (suc n)) refl (λ l. omega arith) (λ l. omega arith) (λ e. nat_cmp_is (m * 2) (suc (suc n * 2)) Less (omega arith))
literal_cmp_parts (negsuc m) (pos n) = by_atom (suc m) n (suc (suc m * 2)) (n * 2) Greater (nat_cmp (suc m) n) refl (λ l. omega arith) (λ l. omega arith) (λ e. nat_cmp_is (suc (suc m * 2)) (n * 2) Greater (omega arith))
literal_cmp_parts (negsuc m) (negsuc n) = by_atom (suc m) (suc n) (suc (suc m * 2)) (suc (suc n * 2)) Equal (nat_cmp (suc m) (suc n)) refl (λ l. omega arith) (λ l. omega arith) (λ e. nat_cmp_is (suc (suc m * 2)) (suc (suc n * 2)) Equal (omega arith))

-- ---- where all the members up to the end of one list tie, the lengths decide
pub by_lengths : (cs ds : List ℤ) → (cs ≡ []) ⊎ (ds ≡ []) → nat_cmp (length cs) (length ds) ≡ literals_cmp cs ds
by_lengths [] [] e = sym (nat_cmp_is 0 0 Equal refl)
by_lengths [] (d ∷ ds) e = sym (nat_cmp_is 0 (suc (length ds)) Less (omega arith))
by_lengths (c ∷ cs) [] e = sym (nat_cmp_is (suc (length cs)) 0 Greater (omega arith))
by_lengths (c ∷ cs) (d ∷ ds) (inl e) = cc
by_lengths (c ∷ cs) (d ∷ ds) (inr e) = cc
