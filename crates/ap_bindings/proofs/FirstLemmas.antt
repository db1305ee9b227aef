-- The first that fails in a list, and in two lists one after the other.
use Rattle.std.proofs.Common.{◌≡◌, refl, sym, ◌∙◌, ap, subst, Bool, true, false, List, [], ◌∷◌, ◌++◌, append_assoc, All, Option, Some, None, arith, inl, inr}
use Rattle.std.specs.Prelude.{if◌then◌else◌}
use Rattle.std.proofs.lemmas.List.Elements.{All-nil, All-cons, All-append, All-weaker}
use Rattle.std.proofs.lemmas.Bool.Decides.{nat_tests}
use Rattle.ap_bindings.specs.declared.search.Failing.{Failing}
use Rattle.ap_bindings.specs.Texts.{Place, IsBefore, IsFirst, IsFirstFailing, failing_place, is_earlier, first_failing}

-- ---- places

not_both : (p q : Place) → IsBefore p q → IsBefore q p → ⊥
not_both p q (inl a) (inl b) = absurd (omega arith)
not_both p q (inl a) (inr b) = absurd (omega arith)
not_both p q (inr a) (inl b) = absurd (omega arith)
not_both p q (inr a) (inr b) = absurd (omega arith)

before_all : (p q r : Place) → IsBefore p q → (IsBefore r q → ⊥) → IsBefore p r
before_all p q r h k = grind (arith, nat_tests)

not_before : (p q r : Place) → (IsBefore q p → ⊥) → (IsBefore r q → ⊥) → IsBefore r p → ⊥
not_before p q r h k l = grind (arith, nat_tests)

earlier_true : {T : Type 0} (f g : Failing T) → is_earlier f g ≡ true → IsBefore (failing_place f) (failing_place g)
earlier_true f g e = grind (arith, nat_tests)

earlier_false : {T : Type 0} (f g : Failing T) → is_earlier f g ≡ false → IsBefore (failing_place f) (failing_place g) → ⊥
earlier_false f g e b = grind (arith, nat_tests)

module _ {X T : Type 0} (place : X → Place) (Fails : X → Type 0) (Tells : X → T → Type 0) where
  abbrev NotBefore : Place → X → Type 0
  NotBefore p y = Fails y → IsBefore (place y) p → ⊥

  abbrev Behind : Place → X → Type 0
  Behind p y = Fails y → IsBefore p (place y)

  -- no failing one is before the first
  none_before : (all : List X) (p : Place) (x : X) → IsFirst place Fails all p x → All (NotBefore p) all
  none_before all p x h =
      let before = h.others.0 in
      let after = h.others.1 in
      let here : NotBefore p x = λ fails b. not_both p p (subst (λ (q : Place). IsBefore q p) h.here b) (subst (λ (q : Place). IsBefore q p) h.here b) in
      subst (λ (xs : List X). All (NotBefore p) xs) (sym h.others.2) (All-append (NotBefore p) before (x ∷ after)
      (All-weaker (Behind p) (NotBefore p) (λ y b fails. not_both p (place y) (b fails)) before h.others.3)
      (All-cons (NotBefore p) x after here h.others.4))

  first_of_front : (xs ys : List X) (p : Place) (x : X) → IsFirst place Fails xs p x → All (NotBefore p) ys → IsFirst place Fails (xs ++ ys) p x
  first_of_front xs ys p x h k = record {
    here = h.here;
    fails = h.fails;
    others = (h.others.0, h.others.1 ++ ys, ap (λ zs. zs ++ ys) h.others.2 ∙ append_assoc h.others.0 (x ∷ h.others.1) ys, h.others.3, All-append (NotBefore p) h.others.1 ys h.others.4 k);
  }

  first_of_back : (xs ys : List X) (p : Place) (y : X) → All (Behind p) xs → IsFirst place Fails ys p y → IsFirst place Fails (xs ++ ys) p y
  first_of_back xs ys p y k h = record {
    here = h.here;
    fails = h.fails;
    others = (xs ++ h.others.0, h.others.1, ap (λ zs. xs ++ zs) h.others.2 ∙ sym (append_assoc xs h.others.0 (y ∷ h.others.1)), All-append (Behind p) xs h.others.0 k h.others.3, h.others.4);
  }

  pub none_fails : IsFirstFailing place Fails Tells [] None
  none_fails = All-nil (λ x. Fails x → ⊥)

  pub this_fails : (x : X) (f : Failing T) → place x ≡ failing_place f → Fails x → Tells x f.what → IsFirstFailing place Fails Tells (x ∷ []) (Some f)
  this_fails x f here fails tells = (x, record { here = here; fails = fails; others = ([], [], refl, All-nil (Behind (failing_place f)), All-nil (NotBefore (failing_place f))) }, tells)

  pub this_passes : (x : X) → (Fails x → ⊥) → IsFirstFailing place Fails Tells (x ∷ []) None
  this_passes x h = All-cons (λ y. Fails y → ⊥) x [] h (All-nil (λ y. Fails y → ⊥))

  both_fail : (xs ys : List X) (f g : Failing T) → IsFirstFailing place Fails Tells xs (Some f) → IsFirstFailing place Fails Tells ys (Some g)
      → (b : Bool) → is_earlier g f ≡ b → IsFirstFailing place Fails Tells (xs ++ ys) (Some (if b then g else f))
  both_fail xs ys f g h k true e = (
    k.0,
    first_of_back xs ys (failing_place g) k.0
        (All-weaker (NotBefore (failing_place f)) (Behind (failing_place g)) (λ y n fails. before_all (failing_place g) (failing_place f) (place y) (earlier_true g f e) (n fails)) xs (none_before xs (failing_place f) h.0 h.1))
        k.1,
    k.2,
  )
  both_fail xs ys f g h k false e = (
    h.0,
    first_of_front xs ys (failing_place f) h.0 h.1
        (All-weaker (NotBefore (failing_place g)) (NotBefore (failing_place f)) (λ y n fails. not_before (failing_place f) (failing_place g) (place y) (earlier_false g f e) (n fails)) ys (none_before ys (failing_place g) k.0 k.1)),
    h.2,
  )

  -- the first in two lists
  pub in_both : (xs ys : List X) (a b : Option (Failing T)) → IsFirstFailing place Fails Tells xs a → IsFirstFailing place Fails Tells ys b → IsFirstFailing place Fails Tells (xs ++ ys) (first_failing a b)
  in_both xs ys None None h k = All-append (λ x. Fails x → ⊥) xs ys h k
  in_both xs ys None (Some g) h k = (k.0, first_of_back xs ys (failing_place g) k.0 (All-weaker (λ x. Fails x → ⊥) (Behind (failing_place g)) (λ x n fails. absurd (n fails)) xs h) k.1, k.2)
  in_both xs ys (Some f) None h k = (h.0, first_of_front xs ys (failing_place f) h.0 h.1 (All-weaker (λ x. Fails x → ⊥) (NotBefore (failing_place f)) (λ x n fails b. n fails) ys k), h.2)
  in_both xs ys (Some f) (Some g) h k = both_fail xs ys f g h k (is_earlier g f) refl
