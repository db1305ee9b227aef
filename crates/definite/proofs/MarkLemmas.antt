-- Sets that are given by marks.
use Rattle.std.proofs.Common.{◌≡◌, ℕ, zero, suc, replicate, ◌<◌, ◌≤◌, Bool, true, false, List, [], ◌∷◌, length, refl, sym, ◌∙◌, subst, ⊎_elim, slice_set, get_or-set_other, get_or-set_same}
use Rattle.std.specs.Prelude.{IsTrue}
use Rattle.std.specs.List.{list_all}
use Rattle.std.proofs.lemmas.Bool.{and_parts, and_from, cases_eq, cases_lt, false≢true}
use Rattle.std.proofs.lemmas.List.{get_or_past}
use Rattle.definite.specs.Rules.{marked, IsWithin}

-- a list of members of a set is one of a greater set
pub list_all-subset : (y z : ℕ → Bool) (xs : List ℕ) → IsWithin y z → IsTrue (list_all y xs) → IsTrue (list_all z xs)
list_all-subset y z [] s h = refl
list_all-subset y z (x ∷ xs) s h =
    let parts = and_parts (y x) (list_all y xs) h in
    and_from (z x) (list_all z xs) (s x parts.0) (list_all-subset y z xs s parts.1)

-- ---- a mark more

pub marked_here : (marks : List Bool) (n : ℕ) (value : Bool) → n < length marks → marked (slice_set marks n value) n ≡ value
marked_here marks n value lt = get_or-set_same marks n value false lt

pub marked_elsewhere : (marks : List Bool) (n m : ℕ) (value : Bool) → (m ≡ n → ⊥) → marked (slice_set marks n value) m ≡ marked marks m
marked_elsewhere marks n m value apart = get_or-set_other marks n m value false apart

-- what was marked stays marked
pub still_marked : (marks : List Bool) (n : ℕ) → n < length marks → IsWithin (marked marks) (marked (slice_set marks n true))
still_marked marks n lt m h = ⊎_elim
    (λ (e : m ≡ n). subst (λ k. IsTrue (marked (slice_set marks n true) k)) (sym e) (marked_here marks n true lt))
    (λ (ne : m ≡ n → ⊥). marked_elsewhere marks n m true ne ∙ h)
    (cases_eq m n)

-- what is marked has a place
pub marked_within : (marks : List Bool) (n : ℕ) → IsTrue (marked marks n) → n < length marks
marked_within marks n h = ⊎_elim
    (λ (lt : n < length marks). lt)
    (λ (past : length marks ≤ n). absurd (false≢true (sym (get_or_past marks n false past) ∙ h)))
    (cases_lt n (length marks))

-- a table of clear marks has none
pub none_marked : (places n : ℕ) → IsTrue (marked (replicate places false) n) → ⊥
none_marked zero n h = false≢true h
none_marked (suc places) zero h = false≢true h
none_marked (suc places) (suc n) h = none_marked places n h
