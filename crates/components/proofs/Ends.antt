-- The last number of an ascending list.
use Rattle.std.proofs.Common.{◌≡◌, ℕ, ◌+◌, ◌<◌, ◌≤◌, List, [], ◌∷◌, ◌++◌, length, refl, sym, ap, ◌∙◌, subst, arith, ⊎_elim}
use Rattle.std.specs.Prelude.{Contains, ◌⊎◌}
use Rattle.std.specs.List.{AllPairs}
use Rattle.std.proofs.lemmas.List.{get_or_append_left, get_or_push, get_or_default, length_push}
use Rattle.std.proofs.lemmas.List.Elements.{Contains-append_left, Contains-push, Contains-push_cases}
use Rattle.components.specs.Searches.{front, IsLast}

below_end : (ys : List ℕ) (x t : ℕ) → AllPairs (λ (s t : ℕ). s < t) (ys ++ x ∷ []) → Contains ys t → t < x
below_end ys x t p m =
    let n : length (ys ++ x ∷ []) ≡ length ys + 1 = length_push ys x in
    let lt : m.0 < length ys = m.1 in
    let h = p m.0 (length ys) 0 lt (omega arith) in
    let a = get_or_append_left ys (x ∷ []) 0 m.0 lt in
    let d = get_or_default ys m.0 0 t lt in
    let b = get_or_push ys x 0 (length ys) refl in
    omega (arith, h, a, d, b, m.2)

ascending_before : (ys : List ℕ) (x : ℕ) → AllPairs (λ (s t : ℕ). s < t) (ys ++ x ∷ []) → AllPairs (λ (s t : ℕ). s < t) ys
ascending_before ys x p i j d lt le =
    let n : length (ys ++ x ∷ []) ≡ length ys + 1 = length_push ys x in
    let h = p i j d lt (omega arith) in
    let a = get_or_append_left ys (x ∷ []) d i (omega arith) in
    let b = get_or_append_left ys (x ∷ []) d j le in
    omega (arith, h, a, b)

module _ (xs : List ℕ) (x : ℕ) (is_last : IsLast xs x) where
  pub length_front : length xs ≡ length (front xs) + 1
  length_front = ap length is_last ∙ length_push (front xs) x

  pub in_front : (t : ℕ) → Contains (front xs) t → Contains xs t
  in_front t m = subst (λ ys. Contains ys t) (sym is_last) (Contains-append_left (front xs) (x ∷ []) t m)

  pub last_in : Contains xs x
  last_in = subst (λ ys. Contains ys x) (sym is_last) (Contains-push (front xs) x)

  pub front_or_last : (t : ℕ) → Contains xs t → Contains (front xs) t ⊎ (x ≡ t)
  front_or_last t m = Contains-push_cases (front xs) x t (subst (λ ys. Contains ys t) is_last m)

  pub below_last : AllPairs (λ (s t : ℕ). s < t) xs → (t : ℕ) → Contains (front xs) t → t < x
  below_last p t m = below_end (front xs) x t (subst (AllPairs (λ (s t : ℕ). s < t)) is_last p) m

  pub upto_last : AllPairs (λ (s t : ℕ). s < t) xs → (t : ℕ) → Contains xs t → t ≤ x
  upto_last p t m = ⊎_elim
      (λ (f : Contains (front xs) t). let lt : t < x = below_last p t f in omega arith)
      (λ (e : x ≡ t). omega arith)
      (front_or_last t m)

  pub front_ascending : AllPairs (λ (s t : ℕ). s < t) xs → AllPairs (λ (s t : ℕ). s < t) (front xs)
  front_ascending p = ascending_before (front xs) x (subst (AllPairs (λ (s t : ℕ). s < t)) is_last p)
