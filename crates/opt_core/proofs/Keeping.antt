-- What holds after permitted events: each event keeps it.
use Rattle.std.proofs.Common.{◌≡◌, ◌≢◌, ℕ, zero, suc, ◌<◌, Bool, true, false, List, [], ◌∷◌, ◌++◌, length, refl, sym, ap, ◌∙◌, subst, Option, Some, None, ⊎_elim, inl, inr, arith, slice_set, eqb-true, eq-eqb}
use Rattle.std.specs.Prelude.{◌⊎◌, ◌==◌, All, IsSome, IsSomeAnd, if◌then◌else◌, get_or}
use Rattle.std.specs.List.{AllPairs, Contains}
use Rattle.std.proofs.lemmas.Bool.{cases_Bool, cases_eq, false≢true, or_cases, or_left, or_right}
use Rattle.std.proofs.lemmas.List.Elements.{All-append, All-cons, All-nil, All-tail, Contains-append_left, Contains-push, Contains-push_cases}
use Rattle.std.proofs.lemmas.List.Folds.{list_any_at}
use Rattle.std.proofs.lemmas.List.Kept.{AllPairs-cons}
use Rattle.std.proofs.lemmas.Option.{none-some, same_Some}
use Rattle.ground_form.specs.declared.atoms.AtomId.{AtomId}
use Rattle.ground_form.specs.declared.atoms.SetId.{SetId}
use Rattle.ground_form.specs.Programs.{numbered}
use Rattle.ground_form.specs.Sets.{has}
use Rattle.opt_core.specs.declared.events.Event.{Event}
use Rattle.opt_core.specs.declared.events.Event.TheVariants.{Start, Better, Stuck, Dry}
use Rattle.opt_core.specs.declared.events.Passed.{Passed}
use Rattle.opt_core.specs.Numbers.{next_number, IsNewSet}
use Rattle.opt_core.specs.States.{CoreView, at_chain, begin, is_among, with_closed, with_new, with_printed}
use Rattle.opt_core.specs.Folds.{after, after_all, after_better, bettered, stopped}
use Rattle.opt_core.specs.Optima.{IsUnbeaten, ListsAnswer}
use Rattle.opt_core.specs.Permitted.{ArePermitted, HoldsOf, IsBeatenBy, IsPassedBy, IsPermitted}
use Rattle.opt_core.proofs.ChainLemmas.{at_other, at_same, at_within, none_open}
use Rattle.opt_core.proofs.MetLemmas.{by_number, is_some_at, not_yet, numbered_last, numbered_new, numbered_on, older, some_on, some_there}

-- ---- numbers in lists

pub pairs_last : {X : Type 0} (R : X → X → Type 0) (xs : List X) (z : X) → AllPairs R xs → All (λ x. R x z) xs → AllPairs R (xs ++ z ∷ [])
pairs_last R [] z apart all = AllPairs-cons R z [] (All-nil (R z)) apart
pairs_last R (x ∷ xs) z apart all =
    AllPairs-cons R x (xs ++ z ∷ [])
    (All-append (R x) xs (z ∷ []) (λ k d lt. apart 0 (suc k) d (omega arith) (omega (arith, lt))) (All-cons (R x) z [] (all 0 x (omega arith)) (All-nil (R x))))
    (pairs_last R xs z (λ i j d lt within. apart (suc i) (suc j) d (omega (arith, lt)) (omega (arith, within))) (All-tail (λ y. R y z) x xs all))

-- numbers are the same where they count the same
same_number : (i j : SetId) → (i.0 == j.0) ≡ true → i ≡ j
same_number i j e = ap (λ n. record { 0 = n }) (eqb-true i.0 j.0 e)

is_itself : (i : SetId) → (i.0 == i.0) ≡ true
is_itself i = eq-eqb i.0 i.0 refl

pub among_last : (is : List SetId) (i : SetId) → is_among (is ++ i ∷ []) i ≡ true
among_last [] i = or_left (i.0 == i.0) false (is_itself i)
among_last (j ∷ is) i = or_right (i.0 == j.0) (is_among (is ++ i ∷ []) i) (among_last is i)

pub among_older : (is : List SetId) (i n : SetId) → is_among is n ≡ true → is_among (is ++ i ∷ []) n ≡ true
among_older [] i n e = absurd (false≢true e)
among_older (j ∷ is) i n e = ⊎_elim
    (λ (here : (n.0 == j.0) ≡ true). or_left (n.0 == j.0) (is_among (is ++ i ∷ []) n) here)
    (λ (rest : is_among is n ≡ true). or_right (n.0 == j.0) (is_among (is ++ i ∷ []) n) (among_older is i n rest))
    (or_cases (n.0 == j.0) (is_among is n) e)

-- the last one, or one before it
last_among : (is : List SetId) (i n : SetId) → is_among (is ++ i ∷ []) n ≡ true → (i ≡ n) ⊎ (is_among is n ≡ true)
last_among [] i n e = ⊎_elim
    (λ (here : (n.0 == i.0) ≡ true). inl (sym (same_number n i here)))
    (λ (rest : false ≡ true). absurd (false≢true rest))
    (or_cases (n.0 == i.0) false e)
last_among (j ∷ is) i n e = ⊎_elim
    (λ (here : (n.0 == j.0) ≡ true). inr (or_left (n.0 == j.0) (is_among is n) here))
    (λ (rest : is_among (is ++ i ∷ []) n ≡ true). ⊎_elim
    (λ (last : i ≡ n). inl last)
    (λ (before : is_among is n ≡ true). inr (or_right (n.0 == j.0) (is_among is n) before))
    (last_among is i n rest))
    (or_cases (n.0 == j.0) (is_among (is ++ i ∷ []) n) e)

not_among : (is : List SetId) (i : SetId) → is_among is i ≡ false → All (λ (j : SetId). j ≢ i) is
not_among is i none k d lt e =
    false≢true (sym none ∙ list_any_at (λ (j : SetId). i.0 == j.0) is k d lt (eq-eqb i.0 (get_or is k d).0 (ap (λ (j : SetId). j.0) (sym e))))

some_and : {A : Type 0} (o : Option A) (P : A → Type 0) → IsSomeAnd o P → (a : A) × (o ≡ Some a) × P a
some_and None P h = absurd h
some_and (Some a) P h = (a, refl, h)

-- the pair of a set and the one that passed it
abbrev pair : SetId → SetId → Passed
pair i j = record { set = i; by = j }

-- ---- events

module _ (IsAnswer : (ℕ → Bool) → Type 0) (IsPreferred : (ℕ → Bool) → (ℕ → Bool) → Type 0) where
  abbrev Holds : CoreView → Type 0
  Holds s = HoldsOf IsAnswer IsPreferred s

  -- the chain's set is passed by set j
  passed_more : (s : CoreView) (met : List (List AtomId)) → Holds s → ((i : SetId) (x : List AtomId) → numbered s.met i.0 ≡ Some x → numbered met i.0 ≡ Some x)
      → (i j : SetId) (x y : List AtomId) → numbered met i.0 ≡ Some x → numbered met j.0 ≡ Some y → IsPreferred (has y) (has x)
      → (k l : SetId) → Contains (s.passed ++ record { set = i; by = j } ∷ []) (record { set = k; by = l }) → IsBeatenBy IsAnswer IsPreferred met k l
  passed_more s met h on i j x y is_x is_y beats k l member = ⊎_elim
      (λ (old : Contains s.passed (record { set = k; by = l })). let p = h.passed_by k l old in (p.0, p.1, on k p.0 p.2, on l p.1 p.3, p.4))
      (λ (new : pair i j ≡ pair k l).
      let a : i ≡ k = ap (λ (p : Passed). p.set) new in
      let b : j ≡ l = ap (λ (p : Passed). p.by) new in
      (x, y, subst (λ (n : SetId). numbered met n.0 ≡ Some x) a is_x, subst (λ (n : SetId). numbered met n.0 ≡ Some y) b is_y, beats))
      (Contains-push_cases s.passed (record { set = i; by = j }) (record { set = k; by = l }) member)

  -- A chain takes a new set; its number before, if there was one, is among the passed ones.
  takes : (s : CoreView) (c : ℕ) (x : List AtomId) (passed : List Passed) → Holds s → s.ended ≡ false → c < length s.chains → IsNewSet s.met x → ListsAnswer IsAnswer x
      → ((k l : SetId) → Contains s.passed (record { set = k; by = l }) → Contains passed (record { set = k; by = l }))
      → ((k l : SetId) → Contains passed (record { set = k; by = l }) → Contains s.passed (record { set = k; by = l }) ⊎ (at_chain s.chains c ≡ Some k))
      → ((k : SetId) → at_chain s.chains c ≡ Some k → (l : SetId) × Contains passed (record { set = k; by = l }))
      → ((k l : SetId) → Contains passed (record { set = k; by = l }) → IsBeatenBy IsAnswer IsPreferred (s.met ++ x ∷ []) k l)
      → Holds (with_new (record s { passed = passed }) c x)
  takes s c x passed h going within new answer kept source left by = record {
    answers = λ i y e. ⊎_elim
        (λ (old : numbered s.met i.0 ≡ Some y). h.answers i y old)
        (λ (last : (i.0 ≡ suc (length s.met)) × (x ≡ y)). subst (λ z. ListsAnswer IsAnswer z) last.1 answer)
        (numbered_last s.met x i.0 y e);
    met_once = pairs_last (λ (a b : List AtomId). a ≢ b) s.met x h.met_once new;
    settled = λ i there.
        let y = some_there (numbered (s.met ++ x ∷ []) i.0) there in ⊎_elim
        (λ (old : numbered s.met i.0 ≡ Some y.0). ⊎_elim
        (λ (p : is_among s.printed i ≡ true). inl p)
        (λ (r : ((j : SetId) × IsPassedBy s i j) ⊎ ((d : ℕ) × (at_chain s.chains d ≡ Some i))). ⊎_elim
        (λ (p : (j : SetId) × IsPassedBy s i j). inr (inl (p.0, kept i p.0 p.1)))
        (λ (o : (d : ℕ) × (at_chain s.chains d ≡ Some i)). ⊎_elim
        (λ (here : c ≡ o.0). inr (inl (left i (ap (at_chain s.chains) here ∙ o.1))))
        (λ (other : c ≡ o.0 → ⊥). inr (inr (o.0, at_other s.chains c o.0 (Some n) other ∙ o.1)))
        (cases_eq c o.0)) r)
        (h.settled i (is_some_at (numbered s.met i.0) y.0 old)))
        (λ (last : (i.0 ≡ n.0) × (x ≡ y.0)). inr (inr (c, at_same s.chains c (Some n) within ∙ ap (λ k. Some (record { 0 = k })) (sym last.0))))
        (numbered_last s.met x i.0 y.0 y.1);
    passed_by = by;
    unbeaten = λ i y among e. h.unbeaten i y among (older s.met x i.0 y (h.printed_met i among) e);
    printed_met = λ i among. some_on s.met x i.0 (h.printed_met i among);
    printed_once = h.printed_once;
    open_met = λ d i e. ⊎_elim
        (λ (here : c ≡ d). subst (λ (k : SetId). IsSome (numbered (s.met ++ x ∷ []) k.0)) (own d i here e) (is_some_at _ x (numbered_new s.met x)))
        (λ (other : c ≡ d → ⊥). some_on s.met x i.0 (h.open_met d i (sym (at_other s.chains c d (Some n) other) ∙ e)))
        (cases_eq c d);
    open_unprinted = λ d i e. ⊎_elim
        (λ (here : c ≡ d). subst (λ k. is_among s.printed k ≡ false) (own d i here e) unprinted)
        (λ (other : c ≡ d → ⊥). h.open_unprinted d i (sym (at_other s.chains c d (Some n) other) ∙ e))
        (cases_eq c d);
    open_unpassed = λ d i j e member. ⊎_elim
        (λ (here : c ≡ d). not_yet s.met (subst (λ (k : SetId). IsSome (numbered s.met k.0)) (sym (own d i here e)) (⊎_elim
        (λ (old : Contains s.passed (record { set = i; by = j })). let p = h.passed_by i j old in is_some_at (numbered s.met i.0) p.0 p.2)
        (λ (at : at_chain s.chains c ≡ Some i). h.open_met c i at)
        (source i j member))))
        (λ (other : c ≡ d → ⊥).
        let at_d : at_chain s.chains d ≡ Some i = sym (at_other s.chains c d (Some n) other) ∙ e in ⊎_elim
        (λ (old : Contains s.passed (record { set = i; by = j })). h.open_unpassed d i j at_d old)
        (λ (at : at_chain s.chains c ≡ Some i). other (h.open_apart c d i at at_d))
        (source i j member))
        (cases_eq c d);
    open_apart = λ d f i ed ef. ⊎_elim
        (λ (here : c ≡ d). ⊎_elim
        (λ (also : c ≡ f). sym here ∙ also)
        (λ (other : c ≡ f → ⊥). absurd (not_yet s.met (subst (λ (k : SetId). IsSome (numbered s.met k.0)) (sym (own d i here ed)) (h.open_met f i (sym (at_other s.chains c f (Some n) other) ∙ ef)))))
        (cases_eq c f))
        (λ (apart : c ≡ d → ⊥). ⊎_elim
        (λ (also : c ≡ f). absurd (not_yet s.met (subst (λ (k : SetId). IsSome (numbered s.met k.0)) (sym (own f i also ef)) (h.open_met d i (sym (at_other s.chains c d (Some n) apart) ∙ ed)))))
        (λ (other : c ≡ f → ⊥). h.open_apart d f i (sym (at_other s.chains c d (Some n) apart) ∙ ed) (sym (at_other s.chains c f (Some n) other) ∙ ef))
        (cases_eq c f))
        (cases_eq c d);
    ended = λ e. absurd (false≢true (sym going ∙ e));
  }
    where
      n : SetId
      n = next_number s.met

      own : (d : ℕ) (i : SetId) → c ≡ d → at_chain (slice_set s.chains c (Some n)) d ≡ Some i → n ≡ i
      own d i here e = same_Some n i (sym (at_same s.chains c (Some n) within) ∙ (ap (at_chain (slice_set s.chains c (Some n))) here ∙ e))

      unprinted : is_among s.printed n ≡ false
      unprinted = ⊎_elim
          (λ (t : is_among s.printed n ≡ true). absurd (not_yet s.met (h.printed_met n t)))
          (λ (f : is_among s.printed n ≡ false). f)
          (cases_Bool (is_among s.printed n))

  -- A chain closes; its number is among the passed or the printed ones.
  closes : (s : CoreView) (c : ℕ) (passed : List Passed) (printed : List SetId) → Holds s → s.ended ≡ false → c < length s.chains
      → ((k l : SetId) → Contains s.passed (record { set = k; by = l }) → Contains passed (record { set = k; by = l }))
      → ((k l : SetId) → Contains passed (record { set = k; by = l }) → Contains s.passed (record { set = k; by = l }) ⊎ (at_chain s.chains c ≡ Some k))
      → ((k l : SetId) → Contains passed (record { set = k; by = l }) → IsBeatenBy IsAnswer IsPreferred s.met k l)
      → ((k : SetId) → is_among s.printed k ≡ true → is_among printed k ≡ true)
      → ((k : SetId) → at_chain s.chains c ≡ Some k → (is_among printed k ≡ true) ⊎ ((l : SetId) × Contains passed (record { set = k; by = l })))
      → ((k : SetId) → is_among printed k ≡ true → (is_among s.printed k ≡ true) ⊎ (at_chain s.chains c ≡ Some k))
      → ((k : SetId) (y : List AtomId) → at_chain s.chains c ≡ Some k → is_among printed k ≡ true → numbered s.met k.0 ≡ Some y → IsUnbeaten IsAnswer IsPreferred (has y))
      → AllPairs (λ (i j : SetId). i ≢ j) printed
      → Holds (with_closed (record s { passed = passed; printed = printed }) c)
  closes s c passed printed h going within kept source by kept_printed left printed_from unbeaten once = record {
    answers = h.answers;
    met_once = h.met_once;
    settled = λ i there. ⊎_elim
        (λ (p : is_among s.printed i ≡ true). inl (kept_printed i p))
        (λ (r : ((j : SetId) × IsPassedBy s i j) ⊎ ((d : ℕ) × (at_chain s.chains d ≡ Some i))). ⊎_elim
        (λ (p : (j : SetId) × IsPassedBy s i j). inr (inl (p.0, kept i p.0 p.1)))
        (λ (o : (d : ℕ) × (at_chain s.chains d ≡ Some i)). ⊎_elim
        (λ (here : c ≡ o.0). ⊎_elim (λ (p : is_among printed i ≡ true). inl p) (λ (p : (l : SetId) × Contains passed (record { set = i; by = l })). inr (inl p)) (left i (ap (at_chain s.chains) here ∙ o.1)))
        (λ (other : c ≡ o.0 → ⊥). inr (inr (o.0, at_other s.chains c o.0 None other ∙ o.1)))
        (cases_eq c o.0)) r)
        (h.settled i there);
    passed_by = by;
    unbeaten = λ i y among e. ⊎_elim
        (λ (old : is_among s.printed i ≡ true). h.unbeaten i y old e)
        (λ (own : at_chain s.chains c ≡ Some i). unbeaten i y own among e)
        (printed_from i among);
    printed_met = λ i among. ⊎_elim
        (λ (old : is_among s.printed i ≡ true). h.printed_met i old)
        (λ (own : at_chain s.chains c ≡ Some i). h.open_met c i own)
        (printed_from i among);
    printed_once = once;
    open_met = λ d i e. h.open_met d i (back d i e).1;
    open_unprinted = λ d i e.
        let b = back d i e in ⊎_elim
        (λ (t : is_among printed i ≡ true). ⊎_elim
        (λ (old : is_among s.printed i ≡ true). absurd (false≢true (sym (h.open_unprinted d i b.1) ∙ old)))
        (λ (own : at_chain s.chains c ≡ Some i). absurd (b.0 (h.open_apart c d i own b.1)))
        (printed_from i t))
        (λ (f : is_among printed i ≡ false). f)
        (cases_Bool (is_among printed i));
    open_unpassed = λ d i j e member.
        let b = back d i e in ⊎_elim
        (λ (old : Contains s.passed (record { set = i; by = j })). h.open_unpassed d i j b.1 old)
        (λ (at : at_chain s.chains c ≡ Some i). b.0 (h.open_apart c d i at b.1))
        (source i j member);
    open_apart = λ d f i ed ef. h.open_apart d f i (back d i ed).1 (back f i ef).1;
    ended = λ e. absurd (false≢true (sym going ∙ e));
  }
    where
      back : (d : ℕ) (i : SetId) → at_chain (slice_set s.chains c None) d ≡ Some i → (c ≡ d → ⊥) × (at_chain s.chains d ≡ Some i)
      back d i e = ⊎_elim
          (λ (here : c ≡ d). absurd (none-some i (sym (at_same s.chains c None within) ∙ (ap (at_chain (slice_set s.chains c None)) here ∙ e))))
          (λ (other : c ≡ d → ⊥). (other, sym (at_other s.chains c d None other) ∙ e))
          (cases_eq c d)

  -- while a chain is open the search goes on
  goes_on : (s : CoreView) (c : ℕ) (i : SetId) → Holds s → at_chain s.chains c ≡ Some i → s.ended ≡ false
  goes_on s c i h e = ⊎_elim
      (λ (t : s.ended ≡ true). absurd (none-some i (sym ((h.ended t).0 c) ∙ e)))
      (λ (f : s.ended ≡ false). f)
      (cases_Bool s.ended)

  start_holds : (s : CoreView) (c : ℕ) (x : List AtomId) → Holds s → IsPermitted IsAnswer IsPreferred s (Start c x) → Holds (after s (Start c x))
  start_holds s c x h p = takes s c x s.passed h p.may.3 p.may.0 p.may.2 p.truth
      (λ k l m. m)
      (λ k l m. inl m)
      (λ k e. absurd (none-some k (sym p.may.1 ∙ e)))
      (λ k l m. let b = h.passed_by k l m in (b.0, b.1, numbered_on s.met (x ∷ []) k.0 b.0 b.2, numbered_on s.met (x ∷ []) l.0 b.1 b.3, b.4))

  better_holds : (s : CoreView) (c : ℕ) (x : List AtomId) → Holds s → IsPermitted IsAnswer IsPreferred s (Better c x) → Holds (after s (Better c x))
  better_holds s c x h p =
      let i = some_and (at_chain s.chains c) _ p.truth.1 in
      let old = some_and (numbered s.met i.0.0) _ i.2 in
      let within : c < length s.chains = at_within s.chains c i.0 i.1 in
      let own : (k : SetId) → at_chain s.chains c ≡ Some k → i.0 ≡ k = λ k e. same_Some i.0 k (sym i.1 ∙ e) in
      subst (λ o. Holds (bettered s c x o)) (sym i.1) (by_number s.met x
      (λ j is at. subst (λ o. Holds (after_better s c x i.0 o)) (sym is)
      (closes s c (s.passed ++ record { set = i.0; by = j } ∷ []) s.printed h (goes_on s c i.0 h i.1) within
      (λ k l m. Contains-append_left s.passed (record { set = i.0; by = j } ∷ []) (record { set = k; by = l }) m)
      (source i.0 j i.1)
      (passed_more s s.met h (λ k y e. e) i.0 j old.0 x old.1 at old.2)
      (λ k a. a)
      (λ k e. inr (j, subst (λ (n : SetId). Contains (s.passed ++ record { set = i.0; by = j } ∷ []) (record { set = n; by = j })) (own k e) (Contains-push s.passed (record { set = i.0; by = j }))))
      (λ k a. inl a)
      (λ k y e a is_y. h.unbeaten k y a is_y)
      h.printed_once))
      (λ is new. subst (λ o. Holds (after_better s c x i.0 o)) (sym is)
      (takes s c x (s.passed ++ record { set = i.0; by = next_number s.met } ∷ []) h (goes_on s c i.0 h i.1) within new p.truth.0
      (λ k l m. Contains-append_left s.passed (record { set = i.0; by = next_number s.met } ∷ []) (record { set = k; by = l }) m)
      (source i.0 (next_number s.met) i.1)
      (λ k e. (next_number s.met, subst (λ (n : SetId). Contains (s.passed ++ record { set = i.0; by = next_number s.met } ∷ []) (record { set = n; by = next_number s.met })) (own k e) (Contains-push s.passed (record { set = i.0; by = next_number s.met }))))
      (passed_more s (s.met ++ x ∷ []) h (λ k y e. numbered_on s.met (x ∷ []) k.0 y e) i.0 (next_number s.met) old.0 x (numbered_on s.met (x ∷ []) i.0.0 old.0 old.1) (numbered_new s.met x) old.2))))
    where
      source : (i n : SetId) → at_chain s.chains c ≡ Some i → (k l : SetId) → Contains (s.passed ++ record { set = i; by = n } ∷ []) (record { set = k; by = l }) → Contains s.passed (record { set = k; by = l }) ⊎ (at_chain s.chains c ≡ Some k)
      source i n at k l m = ⊎_elim
          (λ (old : Contains s.passed (record { set = k; by = l })). inl old)
          (λ (new : pair i n ≡ pair k l). inr (at ∙ ap (λ (p : Passed). Some p.set) new))
          (Contains-push_cases s.passed (record { set = i; by = n }) (record { set = k; by = l }) m)

  -- the set of an open chain is not printed, so it is now
  pub prints : (s : CoreView) (c : ℕ) (i : SetId) → Holds s → at_chain s.chains c ≡ Some i → with_printed s i ≡ record s { printed = s.printed ++ i ∷ [] }
  prints s c i h e = ap (λ (b : Bool). record s { printed = if b then s.printed else s.printed ++ i ∷ [] }) (h.open_unprinted c i e)

  stuck_holds : (s : CoreView) (c : ℕ) → Holds s → IsPermitted IsAnswer IsPreferred s (Stuck c) → Holds (after s (Stuck c))
  stuck_holds s c h p =
      let i = some_and (at_chain s.chains c) _ p.truth in
      let old = some_and (numbered s.met i.0.0) _ i.2 in
      let own : (k : SetId) → at_chain s.chains c ≡ Some k → i.0 ≡ k = λ k e. same_Some i.0 k (sym i.1 ∙ e) in
      subst (λ o. Holds (stopped s c o)) (sym i.1) (subst (λ a. Holds (with_closed a c)) (sym (prints s c i.0 h i.1))
      (closes s c s.passed (s.printed ++ i.0 ∷ []) h (goes_on s c i.0 h i.1) (at_within s.chains c i.0 i.1)
      (λ k l m. m)
      (λ k l m. inl m)
      h.passed_by
      (λ k a. among_older s.printed i.0 k a)
      (λ k e. inl (subst (λ n. is_among (s.printed ++ i.0 ∷ []) n ≡ true) (own k e) (among_last s.printed i.0)))
      (λ k a. ⊎_elim (λ (last : i.0 ≡ k). inr (i.1 ∙ ap Some last)) (λ (rest : is_among s.printed k ≡ true). inl rest) (last_among s.printed i.0 k a))
      (λ k y e a is_y.
      let is_old : old.0 ≡ y = same_Some old.0 y (sym old.1 ∙ (ap (λ (n : SetId). numbered s.met n.0) (own k e) ∙ is_y)) in
      subst (λ z. IsUnbeaten IsAnswer IsPreferred (has z)) is_old old.2)
      (pairs_last (λ (a b : SetId). a ≢ b) s.printed i.0 h.printed_once (not_among s.printed i.0 (h.open_unprinted c i.0 i.1)))))

  pub each_holds : (s : CoreView) (e : Event) → Holds s → IsPermitted IsAnswer IsPreferred s e → Holds (after s e)
  each_holds s (Start c x) h p = start_holds s c x h p
  each_holds s (Better c x) h p = better_holds s c x h p
  each_holds s (Stuck c) h p = stuck_holds s c h p
  each_holds s Dry h p = record {
    answers = h.answers;
    met_once = h.met_once;
    settled = h.settled;
    passed_by = h.passed_by;
    unbeaten = h.unbeaten;
    printed_met = h.printed_met;
    printed_once = h.printed_once;
    open_met = h.open_met;
    open_unprinted = h.open_unprinted;
    open_unpassed = h.open_unpassed;
    open_apart = h.open_apart;
    ended = λ e. (p.may.0, p.truth);
  }

  pub all_hold : (s : CoreView) (events : List Event) → Holds s → ArePermitted IsAnswer IsPreferred s events → Holds (after_all s events)
  all_hold s [] h p = h
  all_hold s (e ∷ events) h p = all_hold (after s e) events (each_holds s e h p.0) p.1

  pub begin_holds : (n : ℕ) → Holds (begin n)
  begin_holds n = record {
    answers = λ i x e. absurd (no_set i.0 x e);
    met_once = λ i j d lt within. absurd (omega arith);
    settled = λ i there. let x = some_there (numbered {X = List AtomId} [] i.0) there in absurd (no_set i.0 x.0 x.1);
    passed_by = λ i j m. let bad : m.0 < 0 = m.1 in absurd (omega arith);
    unbeaten = λ i x among. absurd (false≢true among);
    printed_met = λ i among. absurd (false≢true among);
    printed_once = λ i j d lt within. absurd (omega arith);
    open_met = λ c i e. absurd (none-some i (sym (none_open n c) ∙ e));
    open_unprinted = λ c i e. refl;
    open_unpassed = λ c i j e m. none-some i (sym (none_open n c) ∙ e);
    open_apart = λ c d i e f. absurd (none-some i (sym (none_open n c) ∙ e));
    ended = λ e. absurd (false≢true e);
  }
    where
      no_set : (i : ℕ) (x : List AtomId) → numbered {X = List AtomId} [] i ≡ Some x → ⊥
      no_set zero x e = none-some x e
      no_set (suc k) x e = none-some x e
