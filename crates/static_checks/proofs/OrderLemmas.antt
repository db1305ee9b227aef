-- The order of faults, and the first of a list.
use Rattle.std.proofs.Common.{◌≡◌, ℕ, ◌<◌, refl, sym, ◌∙◌, ap, subst, Bool, true, false, List, [], ◌∷◌, ◌++◌, All, arith, inl, inr, ⊎_elim}
use Rattle.std.specs.List.{Contains}
use Rattle.std.proofs.lemmas.Bool.Decides.{nat_tests}
use Rattle.std.proofs.lemmas.List.Elements.{All-append, All-cons, All-contains, All-weaker, Contains-append_right}
use Rattle.ap_bindings.specs.Texts.{Place, IsBefore, IsFirst}
use Rattle.ap_safety.specs.declared.fault.SafetyFault.{SafetyFault}
use Rattle.ap_safety.specs.declared.fault.SafetyFault.TheVariants.{Unsafe, AggregateRecursion, Recursion, Memory}
use Rattle.static_checks.specs.Faults.{place, Precedes, rank}
use Rattle.static_checks.specs.Judgements.{precedes}

-- ---- places

pub not_both : (p q : Place) → IsBefore p q → IsBefore q p → ⊥
not_both p q (inl a) (inl b) = absurd (omega arith)
not_both p q (inl a) (inr b) = absurd (omega arith)
not_both p q (inr a) (inl b) = absurd (omega arith)
not_both p q (inr a) (inr b) = absurd (omega arith)

pub before_trans : (p q r : Place) → IsBefore p q → IsBefore q r → IsBefore p r
before_trans p q r h k = grind (arith, nat_tests)

-- what is before p and not before q: q is before p
pub before_or : (p q r : Place) → IsBefore r p → (IsBefore r q → ⊥) → (IsBefore q p → ⊥) → ⊥
before_or p q r h k l = grind (arith, nat_tests)

-- ---- faults

pub precedes_true : (f g : SafetyFault) → precedes f g ≡ true → Precedes f g
precedes_true f g e = grind (arith, nat_tests)

pub precedes_false : (f g : SafetyFault) → precedes f g ≡ false → Precedes f g → ⊥
precedes_false f g e h = grind (arith, nat_tests)

pub precedes_trans : (f g h : SafetyFault) → Precedes f g → Precedes g h → Precedes f h
precedes_trans f g h a b = grind (arith, nat_tests)

pub precedes_or : (f g h : SafetyFault) → Precedes h f → (Precedes h g → ⊥) → (Precedes g f → ⊥) → ⊥
precedes_or f g h a b c = grind (arith, nat_tests)

-- want of memory precedes nothing
pub memory_last : (f : SafetyFault) → (rank f ≡ 3 → ⊥) → Precedes Memory f → ⊥
memory_last (Unsafe file at variable) n (inl lt) = absurd (omega arith)
memory_last (Unsafe file at variable) n (inr same) = absurd (omega (arith, same.0))
memory_last (AggregateRecursion file at) n (inl lt) = absurd (omega arith)
memory_last (AggregateRecursion file at) n (inr same) = absurd (omega (arith, same.0))
memory_last (Recursion file at) n (inl lt) = absurd (omega arith)
memory_last (Recursion file at) n (inr same) = absurd (omega (arith, same.0))
memory_last Memory n h = absurd (n refl)

-- of a lower rank nothing of a higher one is before it
pub higher_not : (f g : SafetyFault) → rank f < rank g → Precedes g f → ⊥
higher_not f g lt (inl h) = absurd (omega arith)
higher_not f g lt (inr h) = absurd (omega (arith, lt, h.0))

-- ---- the first of a list

module _ {X : Type 0} (at : X → Place) (Fails : X → Type 0) (all : List X) where
  abbrev NotBefore : Place → X → Type 0
  NotBefore p y = Fails y → IsBefore (at y) p → ⊥

  -- it is a member
  pub first_in : (p : Place) (x : X) → IsFirst at Fails all p x → Contains all x
  first_in p x h =
      let before = h.others.0 in
      let after = h.others.1 in
      subst (λ (xs : List X). Contains xs x) (sym h.others.2) (Contains-append_right before (x ∷ after) x (0, omega arith, refl))

  -- no failing one is before it
  pub none_before : (p : Place) (x : X) → IsFirst at Fails all p x → All (NotBefore p) all
  none_before p x h =
      let before = h.others.0 in
      let after = h.others.1 in
      let here : NotBefore p x = λ fails b. not_both p p (subst (λ (q : Place). IsBefore q p) h.here b) (subst (λ (q : Place). IsBefore q p) h.here b) in
      subst (λ (xs : List X). All (NotBefore p) xs) (sym h.others.2) (All-append (NotBefore p) before (x ∷ after)
      (All-weaker (λ y. Fails y → IsBefore p (at y)) (NotBefore p) (λ y b fails. not_both p (at y) (b fails)) before h.others.3)
      (All-cons (NotBefore p) x after here h.others.4))

  -- no other first is before it
  pub first_not_before : (p q : Place) (x y : X) → IsFirst at Fails all p x → IsFirst at Fails all q y → IsBefore q p → ⊥
  first_not_before p q x y h k b =
      All-contains (NotBefore p) all y (none_before p x h) (first_in q y k) k.fails (subst (λ (r : Place). IsBefore r p) (sym k.here) b)

  -- where none fails there is no first
  pub none_first : (p : Place) (x : X) → All (λ y. Fails y → ⊥) all → IsFirst at Fails all p x → ⊥
  none_first p x h k = All-contains (λ y. Fails y → ⊥) all x h (first_in p x k) k.fails
