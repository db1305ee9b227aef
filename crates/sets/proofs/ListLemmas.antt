-- Lists that are counted from 1, and lists in ascending order.
use Rattle.std.proofs.Common.{⊎_elim, ◌≡◌, ℕ, zero, suc, ◌+◌, ◌<◌, ◌≤◌, List, [], ◌∷◌, ◌++◌, length, get_or, refl, sym, ap, subst, arith, Some, add-one}
use Rattle.std.specs.Prelude.{All, Contains}
use Rattle.std.specs.Ordering.{nat_cmp, is_lt}
use Rattle.std.specs.Cmp.{nat_cmp_is}
use Rattle.std.specs.List.Sorted.{IsSortedBy}
use Rattle.std.specs.declared.cmp.Ordering.TheVariants.{Greater}
use Rattle.std.proofs.lemmas.Bool.{cases_lt}
use Rattle.std.proofs.lemmas.List.Quantifiers.{all_pairs_push}
use Rattle.std.proofs.lemmas.Option.{slice_get_within, get_or_from_slice_get, slice_get-get_or, slice_get_read}
use Rattle.sets.specs.Lists.{numbered, IsNumberOf, IsAscending}

-- ---- numbered lists

-- what is at a number is a member
pub numbered_in : {X : Type 0} (xs : List X) (n : ℕ) (x : X) → numbered xs n ≡ Some x → Contains xs x
numbered_in xs zero x e = absurd (cc)
numbered_in xs (suc k) x e = (k, slice_get_within xs k x e, get_or_from_slice_get xs k x x e)

-- and its number is one of the list
pub numbered_within : {X : Type 0} (xs : List X) (n : ℕ) (x : X) → numbered xs n ≡ Some x → IsNumberOf (length xs) n
numbered_within xs zero x e = absurd (cc)
numbered_within xs (suc k) x e = let within = slice_get_within xs k x e in (omega arith, omega (arith, within))

-- at each number of the list there is a member
pub numbered_there : {X : Type 0} (xs : List X) (n : ℕ) → IsNumberOf (length xs) n → (x : X) × (numbered xs n ≡ Some x)
numbered_there xs zero h = absurd (omega (arith, h.0))
numbered_there [] (suc k) h = absurd (omega (arith, h.1))
numbered_there (y ∷ ys) (suc k) h = let lt : k < length (y ∷ ys) = omega (arith, h.1) in (get_or (y ∷ ys) k y, slice_get-get_or (y ∷ ys) k y lt)

-- at the number behind a place stands what stands at the place
pub numbered_at : {X : Type 0} (xs : List X) (k : ℕ) (x : X) → k < length xs → x ≡ get_or xs k x → numbered xs (k + 1) ≡ Some x
numbered_at xs k x within at = rw (add-one k) (slice_get_read xs (length xs) k x refl within at)

-- what holds of each member holds of one that is read by its number
pub All-numbered : {X : Type 0} (P : X → Type 0) (xs : List X) (n : ℕ) (x : X) → All P xs → numbered xs n ≡ Some x → P x
All-numbered P xs zero x h e = absurd (cc)
All-numbered P xs (suc k) x h e = subst P (get_or_from_slice_get xs k x x e) (h k x (slice_get_within xs k x e))

-- ---- ascending lists

-- it is enough that each member's number is below the next one's
pub ascending_by_neighbours : {X : Type 0} (number : X → ℕ) (xs : List X) → ((k : ℕ) (d : X) → k + 1 < length xs → number (get_or xs k d) < number (get_or xs (k + 1) d)) → IsAscending number xs
ascending_by_neighbours number xs h i j d lt within = climb j lt within
  where
    climb : (m : ℕ) → i < m → m < length xs → number (get_or xs i d) < number (get_or xs m d)
    climb zero lt within = absurd (omega arith)
    climb (suc m) lt within =
        let e : m + 1 ≡ suc m = omega arith in
        let step : number (get_or xs m d) < number (get_or xs (suc m) d) = subst (λ n. number (get_or xs m d) < number (get_or xs n d)) e (h m d (omega arith)) in
        ⊎_elim
        (λ (below : i < m). let first = climb m below (omega arith) in omega arith)
        (λ (from : m ≤ i). let same : m ≡ i = omega arith in subst (λ n. number (get_or xs n d) < number (get_or xs (suc m) d)) same step)
        (cases_lt i m)

-- an ascending list with a member more that is above all others
pub ascending_push : {X : Type 0} (number : X → ℕ) (xs : List X) (y : X) → IsAscending number xs → All (λ x. number x < number y) xs → IsAscending number (xs ++ y ∷ [])
ascending_push number xs y up below = all_pairs_push (λ a b. number a < number b) xs y up below

-- an ascending list is sorted as a search by halving asks
pub ascending_is_sorted : {X : Type 0} (number : X → ℕ) (xs : List X) → IsAscending number xs → IsSortedBy (λ x y. is_lt (nat_cmp (number x) (number y))) xs
ascending_is_sorted number xs up k d low within =
    ap is_lt (sym (nat_cmp_is (number (get_or xs (k + 1) d)) (number (get_or xs k d)) Greater (up k (k + 1) d (omega arith) within)))
