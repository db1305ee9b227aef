-- Lists by what they contain, and the assignment in which a clause is false.
use Rattle.std.proofs.Common.{◌≡◌, ℕ, zero, suc, ◌+◌, ◌-◌, ◌<◌, ◌≢◌, inl, inr, ◌++◌, Bool, true, false, not, List, [], ◌∷◌, length, Option, Some, None, get_or, reverse, refl, ap, sym, ◌∙◌, subst, arith, length-set, length-append}
use Rattle.std.specs.Prelude.{Any}
use Rattle.std.specs.List.{All, Contains}
use Rattle.std.proofs.lemmas.Bool.{cases_eq}
use Rattle.std.proofs.lemmas.List.{get_or-set_same, get_or-set_other, get_or-reverse, length-reverse, get_or-append_right}
use Rattle.std.proofs.lemmas.List.Elements.{Contains-get_or}
use Rattle.std.proofs.Math.ListN.{length-replicate}
use Rattle.theory_form.specs.declared.literals.Lit.{Lit}
use Rattle.theory_form.specs.Hints.{all_false}
use Rattle.theory_form.specs.Literals.{opposite}
use Rattle.theory_form.specs.Truth.{value_of, IsFalseIn}
use Rattle.asp_trail.proofs.TrailLemmas.{get_or-replicate_none, value_within}

-- lists by what they contain

pub all_from_contains : {X : Type 0} (P : X → Type 0) (xs : List X) → ((x : X) → Contains xs x → P x) → All P xs
all_from_contains P xs h k d within = h (get_or xs k d) (Contains-get_or xs k d within)

pub any_from_contains : {X : Type 0} (P : X → Type 0) (xs : List X) (x : X) → Contains xs x → P x → Any P xs
any_from_contains P xs x c p = (c.0, x, c.1, c.2, p)

pub contains_from_any : {X : Type 0} (P : X → Type 0) (xs : List X) (h : Any P xs) → Contains xs h.1
contains_from_any P xs h = (h.0, h.2, h.3)

pub any-reverse : {X : Type 0} (P : X → Type 0) (xs : List X) → Any P xs → Any P (reverse xs)
any-reverse P xs h =
    let w = h.2 in
    let k : ℕ = length xs - 1 - h.0 in
    let len = length-reverse xs in
    let inside : k < length xs = omega arith in
    let back : length xs - 1 - k ≡ h.0 = omega arith in
    (k, h.1, omega (arith, len), get_or-reverse xs k h.1 inside ∙ (ap (λ i. get_or xs i h.1) back ∙ h.3), h.4)

pub all-reverse : {X : Type 0} (P : X → Type 0) (xs : List X) → All P xs → All P (reverse xs)
all-reverse P xs h k d within =
    let len = length-reverse xs in
    let inside : k < length xs = omega (arith, within, len) in
    subst P (sym (get_or-reverse xs k d inside)) (h (length xs - 1 - k) d (omega (arith, inside)))

pub any-append_right : {X : Type 0} (P : X → Type 0) (xs ys : List X) → Any P ys → Any P (xs ++ ys)
any-append_right P xs ys h =
    let w = h.2 in
    let e = length-append xs ys in
    let k : ℕ = length xs + h.0 in
    let back : k - length xs ≡ h.0 = omega arith in
    (k, h.1, omega (arith, w, e), get_or-append_right xs ys (length xs) k h.1 refl (omega arith) ∙ (ap (λ i. get_or ys i h.1) back ∙ h.3), h.4)

-- the assignment in which a clause is false

pub not_not : (b : Bool) → not (not b) ≡ b
not_not true = refl
not_not false = refl

not_same : (a b : Bool) → not a ≡ not b → a ≡ b
not_same a b h = sym (not_not a) ∙ (ap not h ∙ not_not b)

-- two false literals of a variable are one
pub same_false : (a : List (Option Bool)) (l m : Lit) → l.var.0 ≡ m.var.0 → IsFalseIn a l → IsFalseIn a m → l ≡ m
same_false a l m same f g =
    let q : Some (not l.yes) ≡ Some (not m.yes) = sym f ∙ (ap (value_of a) same ∙ g) in
    let r : not l.yes ≡ not m.yes = cc in
    let s : l.yes ≡ m.yes = not_same l.yes m.yes r in
    λ i. record { var = record { 0 = same i }; yes = s i }

pub not_both : (a : List (Option Bool)) (l : Lit) → IsFalseIn a l → IsFalseIn a (opposite l) → ⊥
not_both a l f g =
    let q : Some (not l.yes) ≡ Some (not (not l.yes)) = sym f ∙ g in
    let r : not l.yes ≡ not (not l.yes) = cc in
    differs (not l.yes) r where
      differs : (b : Bool) → b ≡ not b → ⊥
      differs true h = cc
      differs false h = cc

pub length-all_false : (n : ℕ) (c : List Lit) → length (all_false n c) ≡ n
length-all_false n [] = length-replicate n None
length-all_false n (l ∷ c) = length-set (all_false n c) l.var.0 (Some (not l.yes)) ∙ length-all_false n c

pub all_false-none : (n : ℕ) (c : List Lit) (v : ℕ) → All (λ l. l.var.0 ≢ v) c → value_of (all_false n c) v ≡ None
all_false-none n [] v h = get_or-replicate_none n v
all_false-none n (l ∷ c) v h =
    get_or-set_other (all_false n c) l.var.0 v (Some (not l.yes)) None (λ e. h 0 l (omega arith) (sym e))
    ∙ all_false-none n c v (λ k d within. h (suc k) d (omega arith))

pub all_false-at : (n : ℕ) (a : List (Option Bool)) (c : List Lit) (k : ℕ) (l : Lit) → length a ≡ n → All (IsFalseIn a) c → k < length c → get_or c k l ≡ l → value_of (all_false n c) l.var.0 ≡ Some (not l.yes)
all_false-at n a [] k l len f within is = absurd (omega arith)
all_false-at n a (m ∷ c) zero l len f within is =
    let inside : m.var.0 < length (all_false n c) = rw (length-all_false n c) (subst (λ k. m.var.0 < k) len (value_within a m.var.0 (not m.yes) (f 0 m (omega arith)))) in
    subst (λ (x : Lit). value_of (all_false n (m ∷ c)) x.var.0 ≡ Some (not x.yes)) is (get_or-set_same (all_false n c) m.var.0 (Some (not m.yes)) None inside)
all_false-at n a (m ∷ c) (suc k) l len f within is = elim (cases_eq l.var.0 m.var.0) [
  | inl same ↦
      let inside : m.var.0 < length (all_false n c) = rw (length-all_false n c) (subst (λ k. m.var.0 < k) len (value_within a m.var.0 (not m.yes) (f 0 m (omega arith)))) in
      let l_false : IsFalseIn a l = subst (IsFalseIn a) is (f (suc k) l within) in
      let one : l ≡ m = same_false a l m same l_false (f 0 m (omega arith)) in
      subst (λ (x : Lit). value_of (all_false n (m ∷ c)) x.var.0 ≡ Some (not x.yes)) (sym one) (get_or-set_same (all_false n c) m.var.0 (Some (not m.yes)) None inside)
  | inr other ↦
      get_or-set_other (all_false n c) m.var.0 l.var.0 (Some (not m.yes)) None other
      ∙ all_false-at n a c k l len (λ i d w. f (suc i) d (omega arith)) (omega arith) is
]
