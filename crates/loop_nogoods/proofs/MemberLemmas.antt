-- Members of lists: after a filter, of lists joined end to end, and of a set that is given by a list.
use Rattle.std.proofs.Common.{◌≡◌, ℕ, zero, suc, ◌<◌, ◌⊎◌, inl, inr, Bool, true, false, List, [], ◌∷◌, length, get_or, refl, sym, ap, ◌∙◌, subst, arith, ⊎_elim}
use Rattle.std.specs.Prelude.{IsTrue, filter, ◌==◌}
use Rattle.std.specs.List.{Contains, flat_map}
use Rattle.std.proofs.lemmas.Bool.{cases_Bool, cond-true, cond-false, eqb-true, eq-eqb}
use Rattle.std.proofs.lemmas.List.Elements.{All-contains, All-contains_itself, All-filter, Contains-append_cases, Contains-append_left, Contains-append_right, filter_passes}
use Rattle.std.proofs.lemmas.List.Folds.{Any-from_list_any, list_any_at}
use Rattle.theory_form.specs.declared.literals.Var.{Var}
use Rattle.loop_nogoods.specs.Sets.{has}

pub nothing_in : {X : Type 0} (x : X) → Contains [] x → ⊥
nothing_in x h = let none : h.0 < 0 = h.1 in omega arith

pub Contains-head : {X : Type 0} (x : X) (xs : List X) → Contains (x ∷ xs) x
Contains-head x xs = (0, omega arith, refl)

pub Contains-tail : {X : Type 0} (x : X) (xs : List X) (y : X) → Contains xs y → Contains (x ∷ xs) y
Contains-tail x xs y h = let lt = h.1 in (suc h.0, omega arith, h.2)

cons_cases_at : {X : Type 0} (x : X) (xs : List X) (y : X) (k : ℕ) → k < length (x ∷ xs) → get_or (x ∷ xs) k y ≡ y → (x ≡ y) ⊎ Contains xs y
cons_cases_at x xs y zero lt e = inl e
cons_cases_at x xs y (suc k) lt e = inr (k, omega arith, e)

pub Contains-cons_cases : {X : Type 0} (x : X) (xs : List X) (y : X) → Contains (x ∷ xs) y → (x ≡ y) ⊎ Contains xs y
Contains-cons_cases x xs y h = cons_cases_at x xs y h.0 h.1 h.2

pub Contains-from_filter : {X : Type 0} (p : X → Bool) (xs : List X) (x : X) → Contains (filter p xs) x → Contains xs x × IsTrue (p x)
Contains-from_filter p xs x h = (
  All-contains (Contains xs) (filter p xs) x (All-filter p (Contains xs) xs (All-contains_itself xs)) h,
  All-contains (λ y. p y ≡ true) (filter p xs) x (filter_passes p xs) h,
)

pub Contains-filter : {X : Type 0} (p : X → Bool) (xs : List X) (x : X) → Contains xs x → IsTrue (p x) → Contains (filter p xs) x
Contains-filter p [] x h pass = h
Contains-filter p (y ∷ xs) x h pass = ⊎_elim
    (λ (is : y ≡ x).
    subst (λ zs. Contains zs x) (sym (cond-true (p y) (y ∷ filter p xs) (filter p xs) (ap p is ∙ pass)))
    (subst (λ z. Contains (z ∷ filter p xs) x) (sym is) (Contains-head x (filter p xs))))
    (λ (later : Contains xs x).
    let rest = Contains-filter p xs x later pass in
    ⊎_elim
    (λ (t : p y ≡ true). subst (λ zs. Contains zs x) (sym (cond-true (p y) (y ∷ filter p xs) (filter p xs) t)) (Contains-tail y (filter p xs) x rest))
    (λ (f : p y ≡ false). subst (λ zs. Contains zs x) (sym (cond-false (p y) (y ∷ filter p xs) (filter p xs) f)) rest)
    (cases_Bool (p y)))
    (Contains-cons_cases y xs x h)

pub Contains-flat_map : {X Y : Type 0} (f : X → List Y) (xs : List X) (x : X) (y : Y) → Contains xs x → Contains (f x) y → Contains (flat_map f xs) y
Contains-flat_map f [] x y h here = absurd (nothing_in x h)
Contains-flat_map f (z ∷ xs) x y h here = ⊎_elim
    (λ (is : z ≡ x). Contains-append_left (f z) (flat_map f xs) y (subst (λ w. Contains (f w) y) (sym is) here))
    (λ (later : Contains xs x). Contains-append_right (f z) (flat_map f xs) y (Contains-flat_map f xs x y later here))
    (Contains-cons_cases z xs x h)

pub Contains-from_flat_map : {X Y : Type 0} (f : X → List Y) (xs : List X) (y : Y) → Contains (flat_map f xs) y → (x : X) × Contains xs x × Contains (f x) y
Contains-from_flat_map f [] y h = absurd (nothing_in y h)
Contains-from_flat_map f (z ∷ xs) y h = ⊎_elim
    (λ (first : Contains (f z) y). (z, Contains-head z xs, first))
    (λ (later : Contains (flat_map f xs) y).
    let r = Contains-from_flat_map f xs y later in (r.0, Contains-tail z xs r.0 r.1, r.2))
    (Contains-append_cases (f z) (flat_map f xs) y h)

-- a number is in the set of a list where its variable is in the list
pub Contains-from_has : (u : List Var) (v : ℕ) → IsTrue (has u v) → Contains u (record { 0 = v })
Contains-from_has u v h =
    let some = Any-from_list_any (λ (w : Var). w.0 == v) u h in
    let w : Var = some.1 in
    let at : get_or u some.0 w ≡ w = some.3 in
    let is : w.0 ≡ v = eqb-true w.0 v some.4 in
    subst (λ n. Contains u (record { 0 = n })) is (some.0, some.2, at)

pub has-from_Contains : (u : List Var) (v : Var) → Contains u v → IsTrue (has u v.0)
has-from_Contains u v h =
    list_any_at (λ (w : Var). w.0 == v.0) u h.0 v h.1 (eq-eqb (get_or u h.0 v).0 v.0 (ap (λ (w : Var). w.0) h.2))
