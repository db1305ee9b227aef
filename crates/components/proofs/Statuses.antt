-- Statuses, and the stack of the open nodes.
use Rattle.std.proofs.Common.{◌≡◌, ◌≢◌, ℕ, ◌<◌, ◌≤◌, List, length, refl, sym, ◌∙◌, ⊎_elim, inl, inr}
use Rattle.std.specs.Prelude.{◌⊎◌}
use Rattle.std.proofs.lemmas.Bool.{cases_lt}
use Rattle.std.proofs.lemmas.List.{get_or_past}
use Rattle.components.specs.declared.search.Status.{Status}
use Rattle.components.specs.declared.search.Status.TheVariants.{New, Open, Closed}
use Rattle.components.specs.Searches.{at, status_of, IsStack, AreClosed}

-- the three statuses
abbrev pub Kinds : Status → Type 0
Kinds x = (x ≡ New) ⊎ (((i : ℕ) × (x ≡ Open i)) ⊎ ((k : ℕ) × (x ≡ Closed k)))

pub kinds : (x : Status) → Kinds x
kinds New = inl refl
kinds (Open i) = inr (inl (i, refl))
kinds (Closed k) = inr (inr (k, refl))

pub new_not_open : (x : Status) (i : ℕ) → x ≡ New → x ≡ Open i → ⊥
new_not_open x i a b = let e : New ≡ Open i = sym a ∙ b in cc

pub new_not_closed : (x : Status) (k : ℕ) → x ≡ New → x ≡ Closed k → ⊥
new_not_closed x k a b = let e : New ≡ Closed k = sym a ∙ b in cc

pub open_not_closed : (x : Status) (i k : ℕ) → x ≡ Open i → x ≡ Closed k → ⊥
open_not_closed x i k a b = let e : Open i ≡ Closed k = sym a ∙ b in cc

pub same_place : (x : Status) (i j : ℕ) → x ≡ Open i → x ≡ Open j → i ≡ j
same_place x i j a b = let e : Open i ≡ Open j = sym a ∙ b in cc

pub same_number : (x : Status) (i j : ℕ) → x ≡ Closed i → x ≡ Closed j → i ≡ j
same_number x i j a b = let e : Closed i ≡ Closed j = sym a ∙ b in cc

-- what is not new is a node
pub met_in : (statuses : List Status) (v : ℕ) → status_of statuses v ≢ New → v < length statuses
met_in statuses v h = ⊎_elim
    (λ (lt : v < length statuses). lt)
    (λ (past : length statuses ≤ v). absurd (h (get_or_past statuses v New past)))
    (cases_lt v (length statuses))

pub stacked_in : (statuses : List Status) (stack : List ℕ) (i : ℕ) → IsStack statuses stack → i < length stack → at stack i < length statuses
stacked_in statuses stack i s lt = met_in statuses (at stack i) (λ e. new_not_open (status_of statuses (at stack i)) i e (s.place i lt))

-- where the closed nodes stay the same
pub closed_same : (g : List (List ℕ)) (old new : List Status) (n : ℕ) → ((v k : ℕ) → status_of old v ≡ Closed k → status_of new v ≡ Closed k) → ((v k : ℕ) → status_of new v ≡ Closed k → status_of old v ≡ Closed k) → AreClosed g old n → AreClosed g new n
closed_same g old new n to from h = record {
  edges = λ v w k e edge. let r = h.edges v w k (from v k e) edge in (r.0, to w r.0 r.1, r.2);
  same = λ v w k e f. h.same v w k (from v k e) (from w k f);
  low = λ v k e. h.low v k (from v k e);
  high = λ v k e. h.high v k (from v k e);
  used = λ k a b. let r = h.used k a b in (r.0, to r.0 k r.1);
}
