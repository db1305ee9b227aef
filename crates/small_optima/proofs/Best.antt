-- Where a better one has a lower weight, some member of a list is unbeaten. Under `subset` the better set satisfies fewer
-- elements.
use Rattle.std.proofs.Common.{◌≡◌, ℕ, zero, suc, ◌<◌, ◌≤◌, Bool, true, false, not, ◌||◌, cond, List, [], ◌∷◌, arith, ⊎_elim}
use Rattle.std.specs.Prelude.{All, Contains}
use Rattle.std.specs.List.{list_all, list_any}
use Rattle.std.proofs.lemmas.Bool.{and_cases, and_parts, cases_Bool, false≢true, not-true, true≢false}
use Rattle.std.proofs.lemmas.List.Elements.{All-from_recursion}
use Rattle.std.proofs.lemmas.List.Folds.{Any-from_list_any}
use Rattle.ap_syntax.specs.declared.small.Element.{Element}
use Rattle.ap_eval.specs.AtomSets.{AtomSet}
use Rattle.small_optima.specs.Preferred.{is_better, is_part, satisfies}
use Rattle.small_optima.proofs.Lists.{each-none}

-- ---- an unbeaten member

module _ {A : Type 0} (better : A → A → Bool) (weight : A → ℕ) (lower : (x y : A) → better x y ≡ true → weight x < weight y) (xs : List A) where
  unbeaten_below : (n : ℕ) (x : A) → Contains xs x → weight x < n → (y : A) × Contains xs y × (list_any (λ z. better z y) xs ≡ false)
  unbeaten_below zero x c lt = absurd (omega arith)
  unbeaten_below (suc n) x c lt = ⊎_elim
      (λ (beaten : list_any (λ z. better z x) xs ≡ true).
      let by = Any-from_list_any (λ z. better z x) xs beaten in
      let less = lower by.1 x by.4 in
      unbeaten_below n by.1 (by.0, by.2, by.3) (omega arith))
      (λ (unbeaten : list_any (λ z. better z x) xs ≡ false). (x, c, unbeaten))
      (cases_Bool (list_any (λ z. better z x) xs))

  pub some_unbeaten : (x : A) → Contains xs x → (y : A) × Contains xs y × All (λ z. better z y ≡ false) xs
  some_unbeaten x c =
      let found = unbeaten_below (suc (weight x)) x c (omega arith) in
      (found.0, found.1, All-from_recursion (λ z. better z found.0 ≡ false) xs (each-none (λ z. better z found.0) xs found.2))

-- ---- under `subset`

module _ {A : Type 0} where
  -- how many pass
  abbrev pub passing : (A → Bool) → List A → ℕ
  passing test [] = 0
  passing test (x ∷ xs) = cond (test x) (suc (passing test xs)) (passing test xs)

le_step : (a b : Bool) (m n : ℕ) → (not a || b) ≡ true → m ≤ n → cond a (suc m) m ≤ cond b (suc n) n
le_step true true m n part le = omega arith
le_step true false m n part le = absurd (false≢true part)
le_step false true m n part le = omega arith
le_step false false m n part le = le

lt_step : (a b : Bool) (m n : ℕ) → (not a || b) ≡ true → m < n → cond a (suc m) m < cond b (suc n) n
lt_step true true m n part lt = omega arith
lt_step true false m n part lt = absurd (false≢true part)
lt_step false true m n part lt = omega arith
lt_step false false m n part lt = lt

new_step : (a b : Bool) (m n : ℕ) → (not b || a) ≡ false → m ≤ n → cond a (suc m) m < cond b (suc n) n
new_step true true m n more le = absurd (true≢false more)
new_step true false m n more le = absurd (true≢false more)
new_step false true m n more le = omega arith
new_step false false m n more le = absurd (true≢false more)

passing-le : {A : Type 0} (f g : A → Bool) (xs : List A) → list_all (λ x. not (f x) || g x) xs ≡ true → passing f xs ≤ passing g xs
passing-le f g [] h = omega arith
passing-le f g (x ∷ xs) h =
    let parts = and_parts (not (f x) || g x) (list_all (λ y. not (f y) || g y) xs) h in
    le_step (f x) (g x) (passing f xs) (passing g xs) parts.0 (passing-le f g xs parts.1)

passing-lt : {A : Type 0} (f g : A → Bool) (xs : List A) → list_all (λ x. not (f x) || g x) xs ≡ true → list_all (λ x. not (g x) || f x) xs ≡ false → passing f xs < passing g xs
passing-lt f g [] h k = absurd (true≢false k)
passing-lt f g (x ∷ xs) h k =
    let parts = and_parts (not (f x) || g x) (list_all (λ y. not (f y) || g y) xs) h in
    ⊎_elim
    (λ (here : (not (g x) || f x) ≡ false). new_step (f x) (g x) (passing f xs) (passing g xs) here (passing-le f g xs parts.1))
    (λ (later : list_all (λ y. not (g y) || f y) xs ≡ false). lt_step (f x) (g x) (passing f xs) (passing g xs) parts.0 (passing-lt f g xs parts.1 later))
    (and_cases (not (g x) || f x) (list_all (λ y. not (g y) || f y) xs) k)

pub better_has_fewer : (elements : List Element) (x y : AtomSet) → is_better elements x y ≡ true → passing (satisfies x) elements < passing (satisfies y) elements
better_has_fewer elements x y h =
    let parts = and_parts (is_part elements x y) (not (is_part elements y x)) h in
    passing-lt (satisfies x) (satisfies y) elements parts.0 (not-true (is_part elements y x) parts.1)
