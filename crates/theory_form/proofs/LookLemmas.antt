-- What a look at a clause has seen.
use Rattle.std.proofs.Common.{ℕ, ◌+◌, ◌<◌, ◌≤◌, ◌≢◌, Bool, List, length, Option, Some, None, get_or, subst, arith, below_more}
use Rattle.std.proofs.lemmas.List.{get_or_default}
use Rattle.theory_form.specs.declared.literals.Lit.{Lit}
use Rattle.theory_form.specs.Truth.{IsFreeIn, IsTrueIn, IsFalseIn, TrueAt, FreeAt, FalseAt, IsUnitAt}

-- the literals below a place are false but for one without a value, if there is one
abbrev pub Seen : List (Option Bool) → List Lit → ℕ → Option ℕ → Type 0
Seen a c i None = (k : ℕ) → k < i → FalseAt a c k
Seen a c i (Some f) = (f < i) × FreeAt a c f × ((k : ℕ) → k < i → k ≢ f → FalseAt a c k)

pub FalseAt-read : (a : List (Option Bool)) (c : List Lit) (i : ℕ) (d : Lit) → i < length c → IsFalseIn a (get_or c i d) → FalseAt a c i
FalseAt-read a c i d within h = record { within = within; holds = λ e. subst (IsFalseIn a) (get_or_default c i d e within) h }

pub TrueAt-read : (a : List (Option Bool)) (c : List Lit) (i : ℕ) (d : Lit) → i < length c → IsTrueIn a (get_or c i d) → TrueAt a c i
TrueAt-read a c i d within h = record { within = within; holds = λ e. subst (IsTrueIn a) (get_or_default c i d e within) h }

pub FreeAt-read : (a : List (Option Bool)) (c : List Lit) (i : ℕ) (d : Lit) → i < length c → IsFreeIn a (get_or c i d) → FreeAt a c i
FreeAt-read a c i d within h = record { within = within; holds = λ e. subst (IsFreeIn a) (get_or_default c i d e within) h }

pub Seen-false : (a : List (Option Bool)) (c : List Lit) (i : ℕ) (o : Option ℕ) → Seen a c i o → FalseAt a c i → Seen a c (i + 1) o
Seen-false a c i None h here = below_more (λ k. FalseAt a c k) i h here
Seen-false a c i (Some f) h here =
    (omega (arith, h.0), h.1, below_more (λ k. k ≢ f → FalseAt a c k) i h.2 (λ _. here))

pub Seen-free : (a : List (Option Bool)) (c : List Lit) (i : ℕ) → Seen a c i None → FreeAt a c i → Seen a c (i + 1) (Some i)
Seen-free a c i h here = (omega arith, here, λ k below other. h k (omega arith))

pub unit_from_Seen : (a : List (Option Bool)) (c : List Lit) (i f : ℕ) → length c ≤ i → Seen a c i (Some f) → IsUnitAt a c f
unit_from_Seen a c i f end h = record { free = h.1; rest = λ k within other. h.2 k (omega arith) other }

pub false_from_Seen : (a : List (Option Bool)) (c : List Lit) (i : ℕ) → length c ≤ i → Seen a c i None → (k : ℕ) (d : Lit) → k < length c → IsFalseIn a (get_or c k d)
false_from_Seen a c i end h k d within = (h k (omega arith)).holds d
