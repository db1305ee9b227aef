-- Chains, before and after one of them takes a set or is closed.
use Rattle.std.proofs.Common.{◌≡◌, ◌≢◌, ℕ, zero, suc, ◌<◌, ◌≤◌, true, List, [], ◌∷◌, length, refl, sym, Option, Some, None, inl, inr, arith, slice_set, replicate}
use Rattle.std.specs.Prelude.{◌⊎◌}
use Rattle.std.specs.List.{list_all}
use Rattle.std.specs.Option.{is_none}
use Rattle.std.proofs.lemmas.Bool.{false≢true}
use Rattle.std.proofs.lemmas.Option.{none-some, same_Some}
use Rattle.ground_form.specs.declared.atoms.SetId.{SetId}
use Rattle.opt_core.specs.States.{at_chain}

pub at_beyond : (chains : List (Option SetId)) (c : ℕ) → length chains ≤ c → at_chain chains c ≡ None
at_beyond [] c le = refl
at_beyond (o ∷ chains) zero le = let l : suc (length chains) ≤ 0 = le in absurd (omega arith)
at_beyond (o ∷ chains) (suc c) le = let l : suc (length chains) ≤ suc c = le in at_beyond chains c (omega arith)

pub at_same : (chains : List (Option SetId)) (c : ℕ) (v : Option SetId) → c < length chains → at_chain (slice_set chains c v) c ≡ v
at_same [] c v lt = let bad : c < 0 = lt in absurd (omega arith)
at_same (o ∷ chains) zero v lt = refl
at_same (o ∷ chains) (suc c) v lt = let l : suc c < suc (length chains) = lt in at_same chains c v (omega arith)

pub at_other : (chains : List (Option SetId)) (c d : ℕ) (v : Option SetId) → c ≢ d → at_chain (slice_set chains c v) d ≡ at_chain chains d
at_other [] c d v ne = refl
at_other (o ∷ chains) zero zero v ne = absurd (ne refl)
at_other (o ∷ chains) zero (suc d) v ne = refl
at_other (o ∷ chains) (suc c) zero v ne = refl
at_other (o ∷ chains) (suc c) (suc d) v ne = let n : c ≢ d = omega arith in at_other chains c d v n

pub at_within : (chains : List (Option SetId)) (c : ℕ) (i : SetId) → at_chain chains c ≡ Some i → c < length chains
at_within [] c i e = absurd (none-some i e)
at_within (o ∷ chains) zero i e = omega arith
at_within (o ∷ chains) (suc c) i e = let q = at_within chains c i e in omega arith

-- what is open after a chain was closed was open before
pub at_closed : (chains : List (Option SetId)) (c d : ℕ) (i : SetId) → at_chain (slice_set chains c None) d ≡ Some i → at_chain chains d ≡ Some i
at_closed [] c d i e = e
at_closed (o ∷ chains) zero zero i e = absurd (none-some i e)
at_closed (o ∷ chains) zero (suc d) i e = e
at_closed (o ∷ chains) (suc c) zero i e = e
at_closed (o ∷ chains) (suc c) (suc d) i e = at_closed chains c d i e

-- what is open after a chain took a set was open before, or has that set
pub at_taken : (chains : List (Option SetId)) (c d : ℕ) (n i : SetId) → at_chain (slice_set chains c (Some n)) d ≡ Some i → (at_chain chains d ≡ Some i) ⊎ (n ≡ i)
at_taken [] c d n i e = inl e
at_taken (o ∷ chains) zero zero n i e = inr (same_Some n i e)
at_taken (o ∷ chains) zero (suc d) n i e = inl e
at_taken (o ∷ chains) (suc c) zero n i e = inl e
at_taken (o ∷ chains) (suc c) (suc d) n i e = at_taken chains c d n i e

pub none_open : (n c : ℕ) → at_chain (replicate n None) c ≡ None
none_open zero c = refl
none_open (suc n) zero = refl
none_open (suc n) (suc c) = none_open n c

pub all_closed : (chains : List (Option SetId)) → list_all is_none chains ≡ true → (c : ℕ) → at_chain chains c ≡ None
all_closed [] h c = refl
all_closed (None ∷ chains) h zero = refl
all_closed (None ∷ chains) h (suc c) = all_closed chains h c
all_closed (Some i ∷ chains) h c = absurd (false≢true h)

pub closed_all : (chains : List (Option SetId)) → ((c : ℕ) → at_chain chains c ≡ None) → list_all is_none chains ≡ true
closed_all [] h = refl
closed_all (None ∷ chains) h = closed_all chains (λ c. h (suc c))
closed_all (Some i ∷ chains) h = absurd (none-some i (sym (h 0)))
