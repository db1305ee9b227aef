-- An ascending list is the only one of its set.
use Rattle.std.proofs.Common.{◌≡◌, ◌≢◌, ℕ, suc, ◌<◌, ◌≤◌, true, false, ◌||◌, List, [], ◌∷◌, refl, sym, ap, ◌∙◌, arith, ⊎_elim}
use Rattle.std.specs.Prelude.{◌⊎◌, All}
use Rattle.std.specs.List.{AllPairs}
use Rattle.std.proofs.lemmas.Bool.{cases_eq, cases_order, eq-eqb, false≢true, ne_eqb}
use Rattle.std.proofs.lemmas.List.Elements.{All-tail}
use Rattle.ground_form.specs.declared.atoms.AtomId.{AtomId}
use Rattle.ground_form.specs.Sets.{IsAscending, has}

pub pairs_head : {X : Type 0} (R : X → X → Type 0) (x : X) (xs : List X) → AllPairs R (x ∷ xs) → All (R x) xs
pairs_head R x xs apart k d lt = apart 0 (suc k) d (omega arith) (omega (arith, lt))

pub pairs_tail : {X : Type 0} (R : X → X → Type 0) (x : X) (xs : List X) → AllPairs R (x ∷ xs) → AllPairs R xs
pairs_tail R x xs apart i j d lt within = apart (suc i) (suc j) d (omega (arith, lt)) (omega (arith, within))

-- the number of an atom is below that of another
abbrev Below : AtomId → AtomId → Type 0
Below a b = a.0 < b.0

-- what is not above an atom is not among greater ones
not_above : (k : AtomId) (a : ℕ) (xs : List AtomId) → All (Below k) xs → a ≤ k.0 → has xs a ≡ false
not_above k a [] h le = refl
not_above k a (x ∷ xs) h le =
    let lt : k.0 < x.0 = h 0 x (omega arith) in
    let apart : x.0 ≢ a = omega arith in
    ap (λ b. b || has xs a) (ne_eqb x.0 a apart) ∙ not_above k a xs (All-tail (Below k) x xs h) le

has_head : (x : AtomId) (xs : List AtomId) → has (x ∷ xs) x.0 ≡ true
has_head x xs = ap (λ b. b || has xs x.0) (eq-eqb x.0 x.0 refl)

has_tail : (x : AtomId) (a : ℕ) (xs : List AtomId) → x.0 ≢ a → has (x ∷ xs) a ≡ has xs a
has_tail x a xs apart = ap (λ b. b || has xs a) (ne_eqb x.0 a apart)

-- the first member of the one list is not below that of the other
not_less : (x y : AtomId) (xs ys : List AtomId) → IsAscending (y ∷ ys) → ((a : ℕ) → has (x ∷ xs) a ≡ has (y ∷ ys) a) → x.0 < y.0 → ⊥
not_less x y xs ys up same lt =
    let apart : y.0 ≢ x.0 = omega arith in
    false≢true (sym (has_tail y x.0 ys apart ∙ not_above y x.0 ys (pairs_head Below y ys up) (omega arith)) ∙ (sym (same x.0) ∙ has_head x xs))

same_members : (xs ys : List AtomId) → IsAscending xs → IsAscending ys → ((a : ℕ) → has xs a ≡ has ys a) → xs ≡ ys
same_members [] [] s t same = refl
same_members [] (y ∷ ys) s t same = absurd (false≢true (same y.0 ∙ has_head y ys))
same_members (x ∷ xs) [] s t same = absurd (false≢true (sym (same x.0) ∙ has_head x xs))
same_members (x ∷ xs) (y ∷ ys) s t same = ⊎_elim
    (λ (e : x.0 ≡ y.0).
    let tails : (a : ℕ) → has xs a ≡ has ys a = λ a. ⊎_elim
    (λ (h : x.0 ≡ a). let le : a ≤ x.0 = omega arith in let le2 : a ≤ y.0 = omega arith in
    not_above x a xs (pairs_head Below x xs s) le ∙ sym (not_above y a ys (pairs_head Below y ys t) le2))
    (λ (n : x.0 ≡ a → ⊥). let nx : x.0 ≢ a = n in let ny : y.0 ≢ a = omega arith in sym (has_tail x a xs nx) ∙ (same a ∙ has_tail y a ys ny))
    (cases_eq x.0 a) in
    ap (λ n. record { 0 = n } ∷ xs) e ∙ ap (λ zs. y ∷ zs) (same_members xs ys (pairs_tail Below x xs s) (pairs_tail Below y ys t) tails))
    (λ (o : (x.0 < y.0) ⊎ (y.0 < x.0)). absurd (⊎_elim (λ (lt : x.0 < y.0). not_less x y xs ys t same lt) (λ (lt : y.0 < x.0). not_less y x ys xs s (λ a. sym (same a)) lt) o))
    (cases_order x.0 y.0)

pub one_list : (xs ys : List AtomId) → IsAscending xs → IsAscending ys → has xs ≡ has ys → xs ≡ ys
one_list xs ys s t same = same_members xs ys s t (λ a. ap (λ set. set a) same)
