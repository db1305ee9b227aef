-- The ends of a sum are reached, and nothing is beyond them.
use Rattle.std.proofs.Common.{◌≡◌, ◌≢◌, ℕ, ◌==◌, ℤ, pos, ◌+ℤ◌, ◌≤ℤ◌, Bool, true, false, not, cond, ◌⊎◌, inl, inr, List, [], ◌∷◌, refl, sym, ap, ap₂, subst, ◌∙◌, eq-eqb, arith, ⊎_elim}
use Rattle.std.specs.Prelude.{Option, Some, None, int_lt, unsigned_abs}
use Rattle.std.proofs.lemmas.Int.{ints, clamps}
use Rattle.std.proofs.lemmas.Bool.{eqb-true}
use Rattle.theory_form.specs.declared.literals.Var.{Var}
use Rattle.theory_model.specs.Truth.{sum_true}
use Rattle.agg_nogoods.specs.Ends.{greatest_share, greatest_end}
use Rattle.agg_nogoods.proofs.SumLemmas.{share, sum_true-cons}
use Rattle.agg_nogoods.proofs.ClauseLemmas.{Extends}

-- no term is over the variable
abbrev pub Fresh : ℕ → List (ℤ × Var) → Type 0
Fresh v [] = Unit {0}
Fresh v (t ∷ ts) = (t.1.0 ≢ v) × Fresh v ts

-- no variable stands twice
abbrev pub Apart : List (ℤ × Var) → Type 0
Apart [] = Unit {0}
Apart (t ∷ ts) = Fresh t.1.0 ts × Apart ts

-- ---- the greatest end is beyond no sum

share_below : (o : Option Bool) (b : Bool) (w : ℤ) → ((x : Bool) → o ≡ Some x → b ≡ x) → cond b w (pos 0) ≤ℤ greatest_share o w
share_below None true w h = omega (arith, ints, clamps)
share_below None false w h = omega (arith, ints, clamps)
share_below (Some x) b w h = subst (λ y. cond b w (pos 0) ≤ℤ cond y w (pos 0)) (h x refl) (omega (arith, ints))

pub sum_below : (f : ℕ → Bool) (k : ℕ → Option Bool) (ts : List (ℤ × Var)) → Extends f k → sum_true f ts ≤ℤ greatest_end k ts
sum_below f k [] e = omega (arith, ints)
sum_below f k (t ∷ ts) e =
    let first = share_below (k t.1.0) (f t.1.0) t.0 (λ x h. e t.1.0 x h) in
    let rest = sum_below f k ts e in
    let both = sum_true-cons f t ts in
    omega (arith, ints)

-- ---- and it is reached

abbrev pub chosen : Option Bool → ℤ → Bool
chosen None w = int_lt (pos 0) w
chosen (Some b) w = b

-- values for which the sum is the greatest
abbrev pub best : (ℕ → Option Bool) → List (ℤ × Var) → ℕ → Bool
best k [] v = chosen (k v) (pos 0)
best k (t ∷ ts) v = cond (v == t.1.0) (chosen (k v) t.0) (best k ts v)

pub best-extends : (k : ℕ → Option Bool) (ts : List (ℤ × Var)) → Extends (best k ts) k
best-extends k [] v b e = ap (λ o. chosen o (pos 0)) e
best-extends k (t ∷ ts) v b e = by_case (best-extends k ts v b e) (v == t.1.0)
  where
    by_case : best k ts v ≡ b → (q : Bool) → cond q (chosen (k v) t.0) (best k ts v) ≡ b
    by_case rest true = ap (λ o. chosen o t.0) e
    by_case rest false = rest

share_chosen : (o : Option Bool) (w : ℤ) → cond (chosen o w) w (pos 0) ≡ greatest_share o w
share_chosen None w = grind (arith, ints, clamps)
share_chosen (Some b) w = refl

pub not_same : (m n : ℕ) → m ≢ n → (m == n) ≡ false
not_same m n h = by_case (m == n) refl
  where
    by_case : (b : Bool) → (m == n) ≡ b → (m == n) ≡ false
    by_case true e = absurd (h (eqb-true m n e))
    by_case false e = e

pub sum_true-same : (f g : ℕ → Bool) (ts : List (ℤ × Var)) (v : ℕ) → ((u : ℕ) → u ≢ v → f u ≡ g u) → Fresh v ts → sum_true f ts ≡ sum_true g ts
sum_true-same f g [] v h fresh = refl
sum_true-same f g (t ∷ ts) v h fresh =
    let first : share f t ≡ share g t = ap (λ b. cond b t.0 (pos 0)) (h t.1.0 fresh.0) in
    let rest = sum_true-same f g ts v h fresh.1 in
    sum_true-cons f t ts ∙ ap₂ ◌+ℤ◌ first rest ∙ sym (sum_true-cons g t ts)

pub best-sum : (k : ℕ → Option Bool) (ts : List (ℤ × Var)) → Apart ts → sum_true (best k ts) ts ≡ greatest_end k ts
best-sum k [] apart = refl
best-sum k (t ∷ ts) apart =
    let same : (u : ℕ) → u ≢ t.1.0 → best k (t ∷ ts) u ≡ best k ts u = λ u h. ap (λ b. cond b (chosen (k u) t.0) (best k ts u)) (not_same u t.1.0 h) in
    let own : best k (t ∷ ts) t.1.0 ≡ chosen (k t.1.0) t.0 = ap (λ b. cond b (chosen (k t.1.0) t.0) (best k ts t.1.0)) (eq-eqb t.1.0 t.1.0 refl) in
    let first : share (best k (t ∷ ts)) t ≡ greatest_share (k t.1.0) t.0 = ap (λ b. cond b t.0 (pos 0)) own ∙ share_chosen (k t.1.0) t.0 in
    sum_true-cons (best k (t ∷ ts)) t ts ∙ ap₂ ◌+ℤ◌ first (sum_true-same (best k (t ∷ ts)) (best k ts) ts t.1.0 same apart.0 ∙ best-sum k ts apart.1)

-- ---- one value more

-- the same, with this value for one variable
abbrev pub put : (ℕ → Option Bool) → ℕ → Bool → ℕ → Option Bool
put k v b u = cond (u == v) (Some b) (k u)

pub put_own : (k : ℕ → Option Bool) (v : ℕ) (b : Bool) → put k v b v ≡ Some b
put_own k v b = ap (λ q. cond q (Some b) (k v)) (eq-eqb v v refl)

pub put_other : (k : ℕ → Option Bool) (v : ℕ) (b : Bool) (u : ℕ) → u ≢ v → put k v b u ≡ k u
put_other k v b u h = ap (λ q. cond q (Some b) (k u)) (not_same u v h)

put_fresh : (k : ℕ → Option Bool) (v : ℕ) (b : Bool) (ts : List (ℤ × Var)) → Fresh v ts → greatest_end (put k v b) ts ≡ greatest_end k ts
put_fresh k v b [] h = refl
put_fresh k v b (t ∷ ts) h = ap₂ ◌+ℤ◌ (ap (λ o. greatest_share o t.0) (put_other k v b t.1.0 h.0)) (put_fresh k v b ts h.1)

-- a fact of each, by recursion
abbrev pub Each : {X : Type 0} → (X → Type 0) → List X → Type 0
Each P [] = Unit {0}
Each P (x ∷ xs) = P x × Each P xs

-- a value more lowers the greatest end by no more than the weight of the variable
abbrev pub IsLight : (ℕ → Option Bool) → ℤ → ℤ × Var → Type 0
IsLight k s t = k t.1.0 ≡ None → pos (unsigned_abs t.0) ≤ℤ s

one_value : (b : Bool) (w s : ℤ) → pos (unsigned_abs w) ≤ℤ s → greatest_share None w ≤ℤ (cond b w (pos 0) +ℤ s)
one_value true w s h = omega (arith, ints, clamps)
one_value false w s h = omega (arith, ints, clamps)

pub put_light : (k : ℕ → Option Bool) (v : ℕ) (b : Bool) (s : ℤ) → k v ≡ None → pos 0 ≤ℤ s → (ts : List (ℤ × Var)) → Apart ts → Each (IsLight k s) ts
    → greatest_end k ts ≤ℤ (greatest_end (put k v b) ts +ℤ s)
put_light k v b s free above [] apart light = omega (arith, ints)
put_light k v b s free above (t ∷ ts) apart light = by_case (put_light k v b s free above ts apart.1 light.1) (t.1.0 == v) refl
  where
    by_case : greatest_end k ts ≤ℤ (greatest_end (put k v b) ts +ℤ s) → (q : Bool) → (t.1.0 == v) ≡ q → greatest_end k (t ∷ ts) ≤ℤ (greatest_end (put k v b) (t ∷ ts) +ℤ s)
    by_case behind true e =
        let is = eqb-true t.1.0 v e in
        let none : k t.1.0 ≡ None = ap k is ∙ free in
        let here : greatest_share (k t.1.0) t.0 ≤ℤ (greatest_share (put k v b t.1.0) t.0 +ℤ s) =
        subst (λ o. greatest_share o t.0 ≤ℤ (greatest_share (put k v b t.1.0) t.0 +ℤ s)) (sym none)
        (subst (λ o. greatest_share None t.0 ≤ℤ (greatest_share o t.0 +ℤ s)) (sym (ap (put k v b) is ∙ put_own k v b)) (one_value b t.0 s (light.0 none))) in
        let rest = put_fresh k v b ts (subst (λ u. Fresh u ts) is apart.0) in
        omega (arith, ints)
    by_case behind false e =
        let here : greatest_share (put k v b t.1.0) t.0 ≡ greatest_share (k t.1.0) t.0 = ap (λ q. greatest_share (cond q (Some b) (k t.1.0)) t.0) e in
        omega (arith, ints)

-- and the value against the weight lowers it by all of that
abbrev pub IsAmong : ℤ × Var → List (ℤ × Var) → Type 0
IsAmong t [] = ⊥
IsAmong t (s ∷ ss) = (s ≡ t) ⊎ IsAmong t ss

not_fresh : (t : ℤ × Var) (ts : List (ℤ × Var)) → IsAmong t ts → Fresh t.1.0 ts → ⊥
not_fresh t [] i h = i
not_fresh t (s ∷ ss) (inl is) h = h.0 (ap (λ (q : ℤ × Var). q.1.0) is)
not_fresh t (s ∷ ss) (inr i) h = not_fresh t ss i h.1

against : (w : ℤ) → (cond (not (int_lt (pos 0) w)) w (pos 0) +ℤ pos (unsigned_abs w)) ≤ℤ greatest_share None w
against w = grind (arith, ints, clamps)

pub put_against : (k : ℕ → Option Bool) (t : ℤ × Var) → k t.1.0 ≡ None → (ts : List (ℤ × Var)) → Apart ts → IsAmong t ts
    → (greatest_end (put k t.1.0 (not (int_lt (pos 0) t.0))) ts +ℤ pos (unsigned_abs t.0)) ≤ℤ greatest_end k ts
put_against k t free [] apart i = absurd i
put_against k t free (s ∷ ss) apart (inl is) =
    let b = not (int_lt (pos 0) t.0) in
    let here : (greatest_share (put k t.1.0 b t.1.0) t.0 +ℤ pos (unsigned_abs t.0)) ≤ℤ greatest_share (k t.1.0) t.0 =
    subst (λ o. (greatest_share (put k t.1.0 b t.1.0) t.0 +ℤ pos (unsigned_abs t.0)) ≤ℤ greatest_share o t.0) (sym free)
    (subst (λ o. (greatest_share o t.0 +ℤ pos (unsigned_abs t.0)) ≤ℤ greatest_share None t.0) (sym (put_own k t.1.0 b)) (against t.0)) in
    let first : (greatest_share (put k t.1.0 b s.1.0) s.0 +ℤ pos (unsigned_abs t.0)) ≤ℤ greatest_share (k s.1.0) s.0 =
    subst (λ (q : ℤ × Var). (greatest_share (put k t.1.0 b q.1.0) q.0 +ℤ pos (unsigned_abs t.0)) ≤ℤ greatest_share (k q.1.0) q.0) (sym is) here in
    let rest = put_fresh k t.1.0 b ss (subst (λ (q : ℤ × Var). Fresh q.1.0 ss) is apart.0) in
    omega (arith, ints)
put_against k t free (s ∷ ss) apart (inr i) =
    let b = not (int_lt (pos 0) t.0) in
    let rest = put_against k t free ss apart.1 i in
    let other : s.1.0 ≢ t.1.0 = λ e. not_fresh t ss i (subst (λ u. Fresh u ss) e apart.0) in
    let here : greatest_share (put k t.1.0 b s.1.0) s.0 ≡ greatest_share (k s.1.0) s.0 = ap (λ o. greatest_share o s.0) (put_other k t.1.0 b s.1.0 other) in
    omega (arith, ints)

-- ---- more values

-- what one knows the other knows too, or it is what the greatest sum takes where nothing is known
abbrev pub IsKept : (ℕ → Option Bool) → (ℕ → Option Bool) → ℤ × Var → Type 0
IsKept k l t = (b : Bool) → k t.1.0 ≡ Some b → (l t.1.0 ≡ Some b) ⊎ (greatest_share (Some b) t.0 ≡ greatest_share None t.0)

share_most : (p : Option Bool) (w : ℤ) → greatest_share p w ≤ℤ greatest_share None w
share_most None w = omega (arith, ints)
share_most (Some true) w = omega (arith, ints, clamps)
share_most (Some false) w = omega (arith, ints, clamps)

share_kept : (o p : Option Bool) (w : ℤ) → ((b : Bool) → o ≡ Some b → (p ≡ Some b) ⊎ (greatest_share (Some b) w ≡ greatest_share None w)) → greatest_share p w ≤ℤ greatest_share o w
share_kept (Some b) p w h =
    ⊎_elim (λ e. subst (λ q. greatest_share q w ≤ℤ greatest_share (Some b) w) (sym e) (omega (arith, ints)))
    (λ e. subst (λ n. greatest_share p w ≤ℤ n) (sym e) (share_most p w)) (h b refl)
share_kept None p w h = share_most p w

pub greatest_end-kept : (k l : ℕ → Option Bool) (ts : List (ℤ × Var)) → Each (IsKept k l) ts → greatest_end l ts ≤ℤ greatest_end k ts
greatest_end-kept k l [] h = omega (arith, ints)
greatest_end-kept k l (t ∷ ts) h =
    let first = share_kept (k t.1.0) (l t.1.0) t.0 h.0 in
    let rest = greatest_end-kept k l ts h.1 in
    omega (arith, ints)
