-- What is printed after permitted events.
use Rattle.std.proofs.Common.{◌≡◌, ◌≢◌, ℕ, zero, suc, Bool, true, List, [], ◌∷◌, refl, sym, ap, ◌∙◌, subst, Option, Some, None, ⊎_elim, inl, inr, arith, eqb-true, eq-eqb}
use Rattle.std.specs.Prelude.{◌⊎◌, ◌==◌, All, get_or}
use Rattle.std.specs.List.{AllPairs, Contains, cons_option, filter_map}
use Rattle.std.proofs.lemmas.Bool.{false≢true, or_cases, or_left, or_right}
use Rattle.std.proofs.lemmas.List.Elements.{All-cons, All-nil}
use Rattle.std.proofs.lemmas.List.Kept.{AllPairs-cons}
use Rattle.std.proofs.lemmas.Option.{none-some, same_Some}
use Rattle.ground_form.specs.declared.atoms.AtomId.{AtomId}
use Rattle.ground_form.specs.declared.atoms.SetId.{SetId}
use Rattle.ground_form.specs.Programs.{numbered}
use Rattle.ground_form.specs.Sets.{IsAscending, has}
use Rattle.opt_core.specs.States.{CoreView, at_chain, is_among, printed_sets}
use Rattle.opt_core.specs.Optima.{AreOptimal, IsListing, IsOptimal}
use Rattle.opt_core.specs.Permitted.{HoldsOf, IsPassedBy}
use Rattle.opt_core.proofs.MetLemmas.{is_some_at, one_number}
use Rattle.opt_core.proofs.SetLemmas.{one_list, pairs_head, pairs_tail}

-- ---- one of the members, by recursion

abbrev In : {A : Type 0} → A → List A → Type 0
In x [] = ⊥
In x (y ∷ ys) = (x ≡ y) ⊎ In x ys

contains_from_in : {A : Type 0} (x : A) (xs : List A) → In x xs → Contains xs x
contains_from_in x [] h = absurd h
contains_from_in x (y ∷ ys) (inl e) = (zero, omega arith, sym e)
contains_from_in x (y ∷ ys) (inr h) = let rest = contains_from_in x ys h in (suc rest.0, omega arith, rest.2)

all_from_in : {X : Type 0} (P : X → Type 0) (xs : List X) → ((x : X) → In x xs → P x) → All P xs
all_from_in P [] h = All-nil P
all_from_in P (x ∷ xs) h = All-cons P x xs (h x (inl refl)) (all_from_in P xs (λ y i. h y (inr i)))

from_all : {X : Type 0} (P : X → Type 0) (xs : List X) → All P xs → (x : X) → In x xs → P x
from_all P xs h x i = let c = contains_from_in x xs i in subst P c.2 (h c.0 x c.1)

in_filter_map : {A B : Type 0} (h : A → Option B) (y : B) (xs : List A) → In y (filter_map h xs) → (x : A) × In x xs × (h x ≡ Some y)
in_filter_map h y [] i = absurd i
in_filter_map {A = A} {B = B} h y (x ∷ xs) i = go (h x) refl (in_filter_map h y xs) i
  where
    go : (o : Option B) → h x ≡ o → (In y (filter_map h xs) → (z : A) × In z xs × (h z ≡ Some y)) → In y (cons_option o (filter_map h xs)) → (z : A) × In z (x ∷ xs) × (h z ≡ Some y)
    go None e more r = let rest = more r in (rest.0, inr rest.1, rest.2)
    go (Some b) e more (inl s) = (x, inl refl, e ∙ ap Some (sym s))
    go (Some b) e more (inr r) = let rest = more r in (rest.0, inr rest.1, rest.2)

filter_mapped_in : {A B : Type 0} (h : A → Option B) (x : A) (y : B) (xs : List A) → In x xs → h x ≡ Some y → In y (filter_map h xs)
filter_mapped_in {B = B} h x y [] i e = absurd i
filter_mapped_in {B = B} h x y (z ∷ xs) (inl s) e = subst (λ o. In y (cons_option o (filter_map h xs))) (sym e ∙ ap h s) (inl refl)
filter_mapped_in {B = B} h x y (z ∷ xs) (inr r) e = go (h z) (filter_mapped_in h x y xs r e)
  where
    go : (o : Option B) → In y (filter_map h xs) → In y (cons_option o (filter_map h xs))
    go None i = i
    go (Some b) i = inr i

among_in : (is : List SetId) (i : SetId) → is_among is i ≡ true → In i is
among_in [] i e = absurd (false≢true e)
among_in (j ∷ is) i e = ⊎_elim
    (λ (here : (i.0 == j.0) ≡ true). inl (ap (λ n. record { 0 = n }) (eqb-true i.0 j.0 here)))
    (λ (rest : is_among is i ≡ true). inr (among_in is i rest))
    (or_cases (i.0 == j.0) (is_among is i) e)

in_among : (is : List SetId) (i : SetId) → In i is → is_among is i ≡ true
in_among [] i h = absurd h
in_among (j ∷ is) i (inl e) = or_left (i.0 == j.0) (is_among is i) (eq-eqb i.0 j.0 (ap (λ (k : SetId). k.0) e))
in_among (j ∷ is) i (inr h) = or_right (i.0 == j.0) (is_among is i) (in_among is i h)

-- ---- what is printed

sets_once : (met : List (List AtomId)) (printed : List SetId) → AllPairs (λ x y. x ≢ y) met → AllPairs (λ (i j : SetId). i ≢ j) printed → AllPairs (λ x y. x ≢ y) (filter_map (λ (i : SetId). numbered met i.0) printed)
sets_once met [] apart once = λ i j d lt within. absurd (omega arith)
sets_once met (i ∷ printed) apart once = go (set_at i) refl (sets_once met printed apart (pairs_tail (λ (a b : SetId). a ≢ b) i printed once))
  where
    set_at : SetId → Option (List AtomId)
    set_at k = numbered met k.0

    go : (o : Option (List AtomId)) → numbered met i.0 ≡ o → AllPairs (λ x y. x ≢ y) (filter_map (λ (k : SetId). numbered met k.0) printed) → AllPairs (λ x y. x ≢ y) (cons_option o (filter_map (λ (k : SetId). numbered met k.0) printed))
    go None e rest = rest
    go (Some x) e rest = AllPairs-cons (λ (a b : List AtomId). a ≢ b) x (filter_map (λ (k : SetId). numbered met k.0) printed)
        (all_from_in (λ y. x ≢ y) (filter_map (λ (k : SetId). numbered met k.0) printed) (λ y member same.
        let from = in_filter_map (λ (k : SetId). numbered met k.0) y printed member in
        let is : i.0 ≡ from.0.0 = one_number met apart i.0 from.0.0 x e (from.2 ∙ ap Some (sym same)) in
        from_all (λ (j : SetId). i ≢ j) printed (pairs_head (λ (a b : SetId). a ≢ b) i printed once) from.0 from.1 (ap (λ n. record { 0 = n }) is)))
        rest

module _ (IsAnswer : (ℕ → Bool) → Type 0) (IsPreferred : (ℕ → Bool) → (ℕ → Bool) → Type 0) where
  pub printed_optimal : (s : CoreView) → HoldsOf IsAnswer IsPreferred s → AreOptimal IsAnswer IsPreferred (printed_sets s)
  printed_optimal s h = record {
    optimal = all_from_in (λ set. IsOptimal IsAnswer IsPreferred (has set)) (printed_sets s) (λ set member.
        let from = in_filter_map (λ (k : SetId). numbered s.met k.0) set s.printed member in
        record { answer = (h.answers from.0 set from.2).1; unbeaten = h.unbeaten from.0 set (in_among s.printed from.0 from.1) from.2 });
    once = λ i j d lt within same.
        sets_once s.met s.printed h.met_once h.printed_once i j d lt within
        (one_list (get_or (printed_sets s) i d) (get_or (printed_sets s) j d) (ascend i d (omega (arith, lt, within))) (ascend j d within) same);
  }
    where
      ascend : All IsAscending (printed_sets s)
      ascend = all_from_in IsAscending (printed_sets s) (λ set member.
          let from = in_filter_map (λ (k : SetId). numbered s.met k.0) set s.printed member in
          (h.answers from.0 set from.2).0)

  pub printed_listing : (s : CoreView) → HoldsOf IsAnswer IsPreferred s → s.ended ≡ true → IsListing IsAnswer IsPreferred (printed_sets s)
  printed_listing s h ended = record {
    optima = printed_optimal s h;
    whole = λ x o.
        let some = (h.ended ended).1 x o.answer in ⊎_elim
        (λ (same : has some.1 ≡ x). ⊎_elim
        (λ (p : is_among s.printed some.0 ≡ true). (some.1, contains_from_in some.1 (printed_sets s) (filter_mapped_in (λ (k : SetId). numbered s.met k.0) some.0 some.1 s.printed (among_in s.printed some.0 p) some.2), same))
        (λ (r : ((j : SetId) × IsPassedBy s some.0 j) ⊎ ((c : ℕ) × (at_chain s.chains c ≡ Some some.0))). absurd (⊎_elim
        (λ (p : (j : SetId) × IsPassedBy s some.0 j).
        let b = h.passed_by some.0 p.0 p.1 in
        let at : b.0 ≡ some.1 = same_Some b.0 some.1 (sym b.2 ∙ some.2) in
        o.unbeaten (has b.1) (h.answers p.0 b.1 b.3).1 (subst (IsPreferred (has b.1)) (ap has at ∙ same) b.4))
        (λ (c : (c : ℕ) × (at_chain s.chains c ≡ Some some.0)). none-some some.0 (sym ((h.ended ended).0 c.0) ∙ c.1)) r))
        (h.settled some.0 (is_some_at (numbered s.met some.0.0) some.1 some.2)))
        (λ (beats : IsPreferred (has some.1) x). absurd (o.unbeaten (has some.1) (h.answers some.0 some.1 some.2).1 beats))
        some.3;
  }
