-- Comparisons of numbers are decided.
use Rattle.std.proofs.Common.{◌≡◌, ℕ, ◌<◌, ◌≤◌, ℤ, ◌≤ℤ◌, IsTrue, ⊎_elim, inl, inr, arith}
use Rattle.std.specs.Prelude.{◌<ℤ◌, nat_lt, pos, ◌+ℤ◌}
use Rattle.std.specs.Ordering.{is_le, int_cmp}
use Rattle.std.proofs.lemmas.Bool.Decides.{nat_tests}
use Rattle.std.proofs.lemmas.Int.{ints}
use Rattle.rule_form.proofs.Decided.{IsDecided, decide_true, decide_both, decide_as}
use Rattle.type_law.proofs.Numbers.{le_from, le_to}

pub decide_not : (P : Type 0) → IsDecided P → IsDecided (P → ⊥)
decide_not P d = ⊎_elim (λ p. inr (λ n. n p)) (λ n. inl n) d

pub decide_less : (m n : ℕ) → IsDecided (m < n)
decide_less m n = decide_as (IsTrue (nat_lt m n)) (m < n) (λ e. grind (arith, nat_tests, e)) (λ e. grind (arith, nat_tests, e)) (decide_true (nat_lt m n))

pub decide_at_most : (m n : ℕ) → IsDecided (m ≤ n)
decide_at_most m n = decide_as (n < m → ⊥) (m ≤ n) (λ e. settled_le m n (decide_less n m) e) (λ e f. omega (arith, e, f)) (decide_not (n < m) (decide_less n m))
  where
    settled_le : (m n : ℕ) → IsDecided (n < m) → (n < m → ⊥) → m ≤ n
    settled_le m n d e = ⊎_elim (λ l. absurd (e l)) (λ f. omega (arith, f)) d

pub decide_number : (m n : ℕ) → IsDecided (m ≡ n)
decide_number m n = decide_as ((m ≤ n) × (n ≤ m)) (m ≡ n) (λ e. omega (arith, e.0, e.1)) (λ e. (omega (arith, e), omega (arith, e))) (decide_both _ _ (decide_at_most m n) (decide_at_most n m))

pub decide_int_at_most : (m n : ℤ) → IsDecided (m ≤ℤ n)
decide_int_at_most m n = decide_as (IsTrue (is_le (int_cmp m n))) (m ≤ℤ n) (le_from m n) (le_to m n) (decide_true (is_le (int_cmp m n)))

pub decide_int_less : (m n : ℤ) → IsDecided (m <ℤ n)
decide_int_less m n = decide_as ((m +ℤ pos 1) ≤ℤ n) (m <ℤ n) (λ e. omega (arith, ints, e)) (λ e. omega (arith, ints, e)) (decide_int_at_most (m +ℤ pos 1) n)

pub decide_int : (m n : ℤ) → IsDecided (m ≡ n)
decide_int m n = decide_as ((m ≤ℤ n) × (n ≤ℤ m)) (m ≡ n) (λ e. omega (arith, ints, e.0, e.1)) (λ e. (omega (arith, ints, e), omega (arith, ints, e))) (decide_both _ _ (decide_int_at_most m n) (decide_int_at_most n m))
