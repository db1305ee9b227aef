-- What stands at a place of a list.
use Rattle.std.proofs.Common.{◌≡◌, ℕ, zero, suc, ◌+◌, ◌<◌, Bool, true, false, not, ◌||◌, List, [], ◌∷◌, cond, length, refl, sym, ap, ◌∙◌, subst, Some, None, inl, inr, arith}
use Rattle.std.specs.Prelude.{slice_get, IfSome, unwrap_or}
use Rattle.std.specs.List.{list_any, position, position_or_len, enumerate_from, AllByRecursion, AllZip}
use Rattle.std.specs.Ordering.{is_eq}
use Rattle.std.specs.Cmp.{Equal-is}
use Rattle.std.proofs.lemmas.Bool.{false≢true, lt-ltb}
use Rattle.std.proofs.lemmas.Cmp.{tied_itself}
use Rattle.theory_form.specs.declared.literals.Lit.{Lit}
use Rattle.ground_form.specs.Programs.{numbered}
use Rattle.ground_form.specs.Ranges.{IsNumberOf}
use Rattle.theory_build.specs.Ascending.{lits_cmp, place_in}
use Rattle.theory_build.proofs.OrderLemmas.{lits_order}
use Rattle.theory_law.proofs.Membership.{In, any_in}

-- ---- what has a number in a list

pub numbered_all : {X : Type 0} (P : X → Type 0) (xs : List X) (k : ℕ) (x : X) → AllByRecursion P xs → numbered xs k ≡ Some x → P x
numbered_all P xs zero x h e = absurd (cc)
numbered_all P [] (suc k) x h e = absurd (cc)
numbered_all P (y ∷ ys) (suc zero) x h e = let same : y ≡ x = cc in subst P same h.0
numbered_all P (y ∷ ys) (suc (suc k)) x h e = numbered_all P ys (suc k) x h.1 e

pub numbered_if : {X : Type 0} (P : X → Type 0) (xs : List X) (k : ℕ) → AllByRecursion P xs → IfSome (numbered xs k) P
numbered_if P xs zero h = tt
numbered_if P [] (suc k) h = tt
numbered_if P (y ∷ ys) (suc zero) h = h.0
numbered_if P (y ∷ ys) (suc (suc k)) h = numbered_if P ys (suc k) h.1

pub slice_get_in : {X : Type 0} (xs : List X) (k : ℕ) (x : X) → slice_get xs k ≡ Some x → In x xs
slice_get_in [] k x e = absurd (cc)
slice_get_in (y ∷ ys) zero x e = inl (cc)
slice_get_in (y ∷ ys) (suc k) x e = inr (slice_get_in ys k x e)

pub numbered_in : {X : Type 0} (xs : List X) (k : ℕ) (x : X) → numbered xs k ≡ Some x → In x xs
numbered_in xs zero x e = absurd (cc)
numbered_in xs (suc k) x e = slice_get_in xs k x e

pub slice_get_there : {X : Type 0} (xs : List X) (k : ℕ) → k < length xs → (x : X) × (slice_get xs k ≡ Some x)
slice_get_there [] k lt = absurd (omega arith)
slice_get_there (y ∷ ys) zero lt = (y, refl)
slice_get_there (y ∷ ys) (suc k) lt = slice_get_there ys k (omega arith)

pub numbered_there : {X : Type 0} (xs : List X) (k : ℕ) → IsNumberOf (length xs) k → (x : X) × (numbered xs k ≡ Some x)
numbered_there xs zero r = absurd (omega (arith, r.0))
numbered_there xs (suc k) r = slice_get_there xs k (omega (arith, r.1))

-- ---- two lists, member by member

-- what stands beside a member
pub zip_at : {A B : Type 0} (R : ℕ × A → B → Type 0) (from : ℕ) (xs : List A) (ys : List B) → AllZip R (enumerate_from from xs) ys → (k : ℕ) (x : A) → slice_get xs k ≡ Some x → (y : B) × (slice_get ys k ≡ Some y) × R (from + k, x) y
zip_at R from [] ys z k x e = absurd (cc)
zip_at R from (a ∷ xs) [] z k x e = absurd z
zip_at R from (a ∷ xs) (b ∷ ys) z zero x e =
    let same : a ≡ x = cc in let at : from ≡ from + 0 = omega arith in
    (b, refl, subst (λ n. R (n, x) b) at (subst (λ c. R (from, c) b) same z.0))
zip_at {B = B} R from (a ∷ xs) (b ∷ ys) z (suc k) x e =
    let rest = zip_at R (from + 1) xs ys z.1 k x e in
    let at : (from + 1) + k ≡ from + suc k = omega arith in
    (rest.0, rest.1, subst (λ n. R (n, x) rest.0) at rest.2)

pub zip_numbered : {A B : Type 0} (R : ℕ × A → B → Type 0) (xs : List A) (ys : List B) → AllZip R (enumerate_from 1 xs) ys → (k : ℕ) (x : A) → numbered xs k ≡ Some x → (y : B) × (numbered ys k ≡ Some y) × R (k, x) y
zip_numbered R xs ys z zero x e = absurd (cc)
zip_numbered R xs ys z (suc k) x e =
    let found = zip_at R 1 xs ys z k x e in
    let at : 1 + k ≡ suc k = omega arith in
    (found.0, found.1, subst (λ n. R (n, x) found.0) at found.2)

-- ---- the first place at which a test passes

pub first_place : {X : Type 0} (p : X → Bool) (xs : List X) → list_any p xs ≡ true → (x : X) × (position_or_len p xs < length xs) × (slice_get xs (position_or_len p xs) ≡ Some x) × (p x ≡ true)
first_place p [] t = absurd (false≢true t)
first_place {X = X} p (y ∷ ys) t = go (p y) refl t (first_place p ys)
  where
    go : (b : Bool) → p y ≡ b → (b || list_any p ys) ≡ true → (list_any p ys ≡ true → (x : X) × (position_or_len p ys < length ys) × (slice_get ys (position_or_len p ys) ≡ Some x) × (p x ≡ true)) → (x : X) × (cond (not b) (1 + position_or_len p ys) 0 < suc (length ys)) × (slice_get (y ∷ ys) (cond (not b) (1 + position_or_len p ys) 0) ≡ Some x) × (p x ≡ true)
    go true e h more = (y, omega arith, refl, e)
    go false e h more =
        let rest = more h in
        let next : suc (position_or_len p ys) ≡ 1 + position_or_len p ys = omega arith in
        (rest.0, omega (arith, rest.1), subst (λ n. slice_get (y ∷ ys) n ≡ Some rest.0) next rest.2, rest.3)

-- a list of literals stands at its place
pub place_of : (lists : List (List Lit)) (lits : List Lit) → In lits lists → (place_in lists lits < length lists) × (slice_get lists (place_in lists lits) ≡ Some lits)
unfolding place_in
place_of lists lits i =
    let test : List Lit → Bool = λ other. is_eq (lits_cmp lits other) in
    let itself : test lits ≡ true = ap is_eq (tied_itself lits_order.total lits) in
    let found = first_place test lists (any_in test lits lists i itself) in
    let at : ℕ = position_or_len test lists in
    let place : unwrap_or (position test lists) 0 ≡ at = ap (λ b. unwrap_or (cond b (Some at) None) 0) (lt-ltb at (length lists) found.1) in
    let same : lits ≡ found.0 = lits_order.same lits found.0 ((Equal-is (lits_cmp lits found.0)).0 found.3) in
    (subst (λ n. n < length lists) (sym place) found.1, subst (λ n. slice_get lists n ≡ Some lits) (sym place) (found.2 ∙ ap Some (sym same)))
