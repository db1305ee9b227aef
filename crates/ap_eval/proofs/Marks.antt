-- Marking one derivable place after the other.
use Rattle.std.proofs.Common.{◌≡◌, ℕ, zero, suc, ◌+◌, ◌<◌, Bool, true, false, not, ◌&&◌, List, [], ◌∷◌, cond, length, replicate, get_or, refl, sym, ap, ◌∙◌, subst, inl, inr, ◌⊎◌, ⊎_elim, Some, None, arith, slice_set}
use Rattle.std.specs.Prelude.{IsTrue, nat_lt, position, count_by}
use Rattle.std.specs.List.{list_any, zip, position_or_len}
use Rattle.std.specs.Str.{bytes_eq}
use Rattle.std.proofs.lemmas.Bool.{and_parts, and_from, or_cases, or_left, or_right, or_parts, false≢true, not-true, ltb-false}
use Rattle.std.proofs.lemmas.List.Folds.{list_any_none, list_any_at}
use Rattle.std.proofs.lemmas.List.Sums.{fails_before_first, sum_by-set}
use Rattle.std.proofs.lemmas.List.Quantifiers.{position-Some}
use Rattle.std.proofs.lemmas.Slice.Zip.{get_or-zip, length-zip}
use Rattle.ap_syntax.specs.declared.small.Statement.{Statement}
use Rattle.ap_eval.specs.AtomSets.{AtomSet, IsSubset, has}
use Rattle.ap_eval.specs.Derivations.{is_derivable, IsClosedWithin, marked}
use Rattle.ap_eval.proofs.Reading.{same_name, own_name, more_derivable}

-- one more mark adds the name at its place
one_more : (names : List (List ℕ)) (marks : List Bool) (i : ℕ) (a d : List ℕ) → IsTrue (marked names (slice_set marks i true) a) → IsTrue (marked names marks a) ⊎ IsTrue (bytes_eq (get_or names i d) a)
one_more [] marks i a d h = inl h
one_more (n ∷ names) [] i a d h = inl h
one_more (n ∷ names) (m ∷ marks) zero a d h = ⊎_elim
    (λ e. inr e)
    (λ r. inl (or_right (m && bytes_eq n a) (marked names marks a) r))
    (or_cases (bytes_eq n a) (marked names marks a) h)
one_more (n ∷ names) (m ∷ marks) (suc i) a d h = ⊎_elim
    (λ e. inl (or_left (m && bytes_eq n a) (marked names marks a) e))
    (λ r. ⊎_elim (λ s. inl (or_right (m && bytes_eq n a) (marked names marks a) s)) (λ s. inr s) (one_more names marks i a d r))
    (or_cases (m && bytes_eq n a) (marked names (slice_set marks i true) a) h)

pub none_marked : (names : List (List ℕ)) (n : ℕ) → (y : AtomSet) → IsSubset (marked names (replicate n false)) y
none_marked [] n y a h = absurd (false≢true h)
none_marked (b ∷ names) zero y a h = absurd (false≢true h)
none_marked (b ∷ names) (suc n) y a h = none_marked names n y a h

no_position : {X : Type 0} (p : X → Bool) (xs : List X) (b : Bool) → nat_lt (position_or_len p xs) (length xs) ≡ b → cond b (Some (position_or_len p xs)) None ≡ None → list_any p xs ≡ false
no_position p xs true e h = absurd (let no : ⊥ = cc in no)
no_position p xs false e h = list_any_none p xs (λ k d lt. let le = ltb-false (position_or_len p xs) (length xs) e in fails_before_first p xs k d (omega arith))

is_marked_at : (m d : Bool) → (not m && d) ≡ false → d ≡ true → m ≡ true
is_marked_at true d h t = refl
is_marked_at false d h t = absurd (false≢true (sym h ∙ t))

-- a place that holds a derivable name is marked, where no further one is to be marked
all_marked : (D : AtomSet) (names : List (List ℕ)) (marks : List Bool) (a : List ℕ) → length marks ≡ length names → list_any (λ place. not place.1 && D place.0) (zip names marks) ≡ false → IsTrue (has names a) → IsTrue (D a) → IsTrue (marked names marks a)
all_marked D [] marks a e none i d = absurd (false≢true i)
all_marked D (n ∷ names) [] a e none i d = absurd (omega arith)
all_marked D (n ∷ names) (m ∷ marks) a e none i d =
    let parts = or_parts (not m && D n) (list_any (λ place. not place.1 && D place.0) (zip names marks)) none in
    ⊎_elim
    (λ s. or_left (m && bytes_eq n a) (marked names marks a) (and_from m (bytes_eq n a) (is_marked_at m (D n) parts.0 (subst (λ b. IsTrue (D b)) (sym (same_name n a s)) d)) s))
    (λ r. or_right (m && bytes_eq n a) (marked names marks a) (all_marked D names marks a (omega arith) parts.1 r d))
    (or_cases (bytes_eq n a) (has names a) i)

module _ (statements : List Statement) (names : List (List ℕ)) (marks : List Bool) (long : length marks ≡ length names) where
  abbrev open_place : List ℕ × Bool → Bool
  open_place place = not place.1 && is_derivable statements (has names) (marked names marks) place.0

  -- where no place is open, the marked names have all that they derive
  pub closed_at_end : position open_place (zip names marks) ≡ None → IsClosedWithin statements (has names) (marked names marks)
  closed_at_end e a i d = all_marked (is_derivable statements (has names) (marked names marks)) names marks a long (no_position open_place (zip names marks) (nat_lt (position_or_len open_place (zip names marks)) (length (zip names marks))) refl e) i d

  module _ (i : ℕ) (found : position open_place (zip names marks) ≡ Some i) where
    place_in : i < length names
    place_in = let lt = (position-Some open_place (zip names marks) i ([], false) found).0 in omega (arith, length-zip names marks)

    open_at : open_place (get_or names i [], get_or marks i false) ≡ true
    open_at =
        let lt = place_in in
        let lt2 : i < length marks = omega arith in
        ap open_place (sym (get_or-zip names marks i ([], false) lt lt2)) ∙ (position-Some open_place (zip names marks) i ([], false) found).1

    pub place_in_marks : i < length marks
    place_in_marks = let lt = place_in in omega arith

    -- the name at an open place is in each set that has the marked names and all that it derives
    pub least_kept : (y : AtomSet) → IsClosedWithin statements (has names) y → IsSubset (marked names marks) y → IsSubset (marked names (slice_set marks i true)) y
    least_kept y w s a h = ⊎_elim
        (λ before. s a before)
        (λ same.
        let here = get_or names i [] in
        let member : IsTrue (has names here) = list_any_at (λ b. bytes_eq b here) names i [] place_in (own_name here) in
        let derived = (and_parts (not (get_or marks i false)) (is_derivable statements (has names) (marked names marks) here) open_at).1 in
        subst (λ b. IsTrue (y b)) (same_name here a same) (w here member (more_derivable (has names) (marked names marks) y s statements here derived)))
        (one_more names marks i a [] h)

    -- and one mark fewer is missing
    pub fewer : count_by not (slice_set marks i true) < count_by not marks
    fewer =
        let free : get_or marks i false ≡ false = not-true (get_or marks i false) (and_parts (not (get_or marks i false)) (is_derivable statements (has names) (marked names marks) (get_or names i [])) open_at).0 in
        let weight : Bool → ℕ = λ m. cond (not m) 1 0 in
        let one : weight (get_or marks i false) ≡ 1 = ap weight free in
        let counts : count_by not (slice_set marks i true) + weight (get_or marks i false) ≡ count_by not marks + weight true = sum_by-set weight marks i true false place_in_marks in
        omega arith
