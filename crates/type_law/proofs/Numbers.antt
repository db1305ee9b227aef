-- Comparisons of integers, in a guard and as numbers.
use Rattle.std.proofs.Common.{◌≡◌, ℕ, ◌<◌, ℤ, pos, ◌≤ℤ◌, Bool, true, false, ◌&&◌, IsTrue, refl, sym, subst, ap, ◌∙◌, inl, inr, arith, Option, Some, None, if◌then◌else◌, Ordering, Less, Equal, Greater}
use Rattle.std.specs.Prelude.{◌⊎◌, ◌<ℤ◌, ◌-ℤ◌, ◌+ℤ◌}
use Rattle.std.specs.Bool.{beq}
use Rattle.std.specs.Ordering.{is_eq, is_le, is_lt, is_gt, int_cmp, MatchOrdering}
use Rattle.std.specs.Cmp.{int_ranks}
use Rattle.std.proofs.lemmas.Bool.{false≢true}
use Rattle.std.proofs.lemmas.Int.{ints}
use Rattle.ap_syntax.specs.declared.terms.Rel.TheVariants.{Gt, Lt}
use Rattle.ap_term.specs.Arithmetic.{compute, is_integer}
use Rattle.ap_term.specs.declared.arithmetic.ArithOp.TheVariants.{Sub}
use Rattle.ap_term.specs.Order.{value_cmp}
use Rattle.ap_term.specs.Value.{Value, integer}
use Rattle.rule_form.specs.Truth.{compares}
use Rattle.rule_form.proofs.Rules.{same_decides}
use Rattle.rule_form.proofs.Stable.{IsSettled, settled_true}
use Rattle.element_form.proofs.Distinct.{number_of}

-- ---- by the outcome of a comparison

le_case : (P Q R : Type 0) (o : Ordering) → MatchOrdering o P Q R → IsTrue (is_le o) → P ⊎ Q
le_case P Q R Less m e = inl m
le_case P Q R Equal m e = inr m
le_case P Q R Greater m e = absurd (false≢true e)

le_back : (P Q R : Type 0) (o : Ordering) → MatchOrdering o P Q R → (R → ⊥) → IsTrue (is_le o)
le_back P Q R Less m h = refl
le_back P Q R Equal m h = refl
le_back P Q R Greater m h = absurd (h m)

lt_case : (P Q R : Type 0) (o : Ordering) → MatchOrdering o P Q R → IsTrue (is_lt o) → P
lt_case P Q R Less m e = m
lt_case P Q R Equal m e = absurd (false≢true e)
lt_case P Q R Greater m e = absurd (false≢true e)

lt_back : (P Q R : Type 0) (o : Ordering) → MatchOrdering o P Q R → (Q → ⊥) → (R → ⊥) → IsTrue (is_lt o)
lt_back P Q R Less m q r = refl
lt_back P Q R Equal m q r = absurd (q m)
lt_back P Q R Greater m q r = absurd (r m)

gt_case : (P Q R : Type 0) (o : Ordering) → MatchOrdering o P Q R → IsTrue (is_gt o) → R
gt_case P Q R Less m e = absurd (false≢true e)
gt_case P Q R Equal m e = absurd (false≢true e)
gt_case P Q R Greater m e = m

gt_back : (P Q R : Type 0) (o : Ordering) → MatchOrdering o P Q R → (P → ⊥) → (Q → ⊥) → IsTrue (is_gt o)
gt_back P Q R Less m p q = absurd (p m)
gt_back P Q R Equal m p q = absurd (q m)
gt_back P Q R Greater m p q = refl

pub le_from : (m n : ℤ) → IsTrue (is_le (int_cmp m n)) → m ≤ℤ n
le_from m n e = let h : (m <ℤ n) ⊎ (m ≡ n) = le_case _ _ _ (int_cmp m n) (int_ranks m n) e in omega (arith, ints)

pub le_to : (m n : ℤ) → m ≤ℤ n → IsTrue (is_le (int_cmp m n))
le_to m n h = le_back _ _ _ (int_cmp m n) (int_ranks m n) (λ r. omega (arith, ints))

pub lt_from : (m n : ℕ) → IsTrue (compares Lt (integer (pos m)) (integer (pos n))) → m < n
lt_from m n e = let h : (pos m <ℤ pos n) = lt_case _ _ _ (int_cmp (pos m) (pos n)) (int_ranks (pos m) (pos n)) e in omega (arith, ints)

pub lt_to : (m n : ℕ) → m < n → IsTrue (compares Lt (integer (pos m)) (integer (pos n)))
lt_to m n h = lt_back _ _ _ (int_cmp (pos m) (pos n)) (int_ranks (pos m) (pos n)) (λ e. omega (arith, ints)) (λ g. omega (arith, ints))

pub gt_from : (m n : ℕ) → IsTrue (compares Gt (integer (pos m)) (integer (pos n))) → n < m
gt_from m n e = let h : (pos n <ℤ pos m) = gt_case _ _ _ (int_cmp (pos m) (pos n)) (int_ranks (pos m) (pos n)) e in omega (arith, ints)

pub gt_to : (m n : ℕ) → n < m → IsTrue (compares Gt (integer (pos m)) (integer (pos n)))
gt_to m n h = gt_back _ _ _ (int_cmp (pos m) (pos n)) (int_ranks (pos m) (pos n)) (λ e. omega (arith, ints)) (λ g. omega (arith, ints))

-- ---- negation

is_within : (b : Bool) (z k : ℤ) → (if b then Some z else None) ≡ Some k → k ≡ z
is_within true z k e = cc
is_within false z k e = cc

in_range : (b : Bool) (o : Option ℤ) (k : ℤ) → (if b then o else None) ≡ Some k → o ≡ Some k
in_range true o k e = e
in_range false o k e = cc

pub minus_is : (i j k : ℤ) → compute Sub i j ≡ Some k → k ≡ i -ℤ j
minus_is i j k e = is_within (is_integer (i -ℤ j)) (i -ℤ j) k (in_range (is_integer i && is_integer j) (if is_integer (i -ℤ j) then Some (i -ℤ j) else None) k e)

both_there : (b c : Bool) (z : ℤ) → IsTrue b → IsTrue c → (if b then (if c then Some z else None) else None) ≡ Some z
both_there true true z e f = refl
both_there true false z e f = absurd (false≢true f)
both_there false c z e f = absurd (false≢true e)

opposite_integer : (n : ℤ) → IsTrue (is_integer n) → is_integer (pos 0 -ℤ n) ≡ true
opposite_integer n h = grind (arith, ints)

pub minus_there : (n : ℤ) → IsTrue (is_integer n) → compute Sub (pos 0) n ≡ Some (pos 0 -ℤ n)
minus_there n h = both_there (is_integer (pos 0) && is_integer n) (is_integer (pos 0 -ℤ n)) (pos 0 -ℤ n) h (opposite_integer n h)

-- ---- orders are settled

pub settled_le : (m n : ℤ) → IsSettled (m ≤ℤ n)
settled_le m n deny = le_from m n (settled_true (is_le (int_cmp m n)) (λ d. deny (λ h. d (le_to m n h))))

pub settled_lt : (m n : ℤ) → IsSettled (m <ℤ n)
settled_lt m n deny = let h : (m +ℤ pos 1) ≤ℤ n = settled_le (m +ℤ pos 1) n (λ d. deny (λ lt. d (omega (arith, ints)))) in omega (arith, ints)

pub settled_same : (m n : ℤ) → IsSettled (m ≡ n)
settled_same m n deny =
    let h : m ≤ℤ n = settled_le m n (λ d. deny (λ e. d (omega (arith, ints)))) in
    let k : n ≤ℤ m = settled_le n m (λ d. deny (λ e. d (omega (arith, ints)))) in
    omega (arith, ints)

-- ---- guards

both_true : (l r : Bool) → r ≡ true → IsTrue (beq true (l && r)) → IsTrue l
both_true true r e h = refl
both_true false r e h = absurd (false≢true h)

-- a guard `m <= n`, and `m = n`, that holds
pub above : (m : ℕ) (n : ℤ) (v : Value) → v ≡ integer (pos m) → (l r : Bool) → l ≡ is_le (value_cmp v (integer n)) → r ≡ true → IsTrue (beq true (l && r)) → pos m ≤ℤ n
above m n v ve l r le re e = le_from (pos m) n (subst (λ w. IsTrue (is_le (value_cmp w (integer n)))) ve (sym le ∙ both_true l r re e))

pub equals : (m : ℕ) (n : ℤ) (v : Value) → v ≡ integer (pos m) → (l r : Bool) → l ≡ is_eq (value_cmp v (integer n)) → r ≡ true → IsTrue (beq true (l && r)) → pos m ≡ n
equals m n v ve l r le re e = ap number_of (same_decides (integer (pos m)) (integer n) (subst (λ w. IsTrue (is_eq (value_cmp w (integer n)))) ve (sym le ∙ both_true l r re e)))

pub less : (n x y : ℤ) → n ≡ y -ℤ x → pos 1 ≤ℤ n → x <ℤ y
less n x y e h = omega (arith, ints)

pub reaches : (x y : ℤ) → x <ℤ y → pos 1 ≤ℤ (y -ℤ x)
reaches x y h = omega (arith, ints)

pub not_more : (n x y : ℤ) → n ≡ y -ℤ x → pos 0 ≤ℤ n → x ≤ℤ y
not_more n x y e h = omega (arith, ints)

pub not_below : (x y : ℤ) → x ≤ℤ y → pos 0 ≤ℤ (y -ℤ x)
not_below x y h = omega (arith, ints)

pub as_much : (n x y : ℤ) → n ≡ y -ℤ x → pos 0 ≡ n → x ≡ y
as_much n x y e h = omega (arith, ints)

pub nothing_left : (x y : ℤ) → x ≡ y → pos 0 ≡ y -ℤ x
nothing_left x y h = omega (arith, ints)

pub sum_up : (t a b x y : ℤ) → t ≡ a +ℤ b → a ≡ x → b ≡ pos 0 -ℤ y → t ≡ x -ℤ y
sum_up t a b x y e f g = omega (arith, ints)
