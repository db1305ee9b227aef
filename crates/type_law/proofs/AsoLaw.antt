-- The program of `aso` means its order.
use Rattle.std.proofs.Common.{◌≡◌, ℕ, ◌≤◌, ◌<◌, pos, List, Bool, IsTrue, IsFalse, refl, sym, subst, ap, ◌∙◌, ⊎_elim, inl, inr, Contains, arith}
use Rattle.std.specs.Prelude.{◌↔◌, codes}
use Rattle.ap_term.specs.Value.{Value, integer, compound, none, also}
use Rattle.rule_form.specs.AnswerSets.{IsAnswerSet}
use Rattle.rule_form.specs.Truth.{AtomSet}
use Rattle.rule_form.specs.Unfolded.{bind}
use Rattle.rule_form.proofs.Stable.{IsSettled, settled_both}
use Rattle.rule_form.proofs.Tells.{Tells, is_false, from_false, retell, exactly, by_rules}
use Rattle.type_law.specs.Takes.{HasGrades, Relates}
use Rattle.pref_library.specs.Aso.{aso_rules}
use Rattle.element_form.specs.Degrees.{degree}
use Rattle.type_law.specs.Orders.{NoGreater, HasSmaller}
use Rattle.type_law.proofs.Decides.{decide_less}
use Rattle.rule_form.proofs.Decided.{IsDecided, settled_decided, decide_some}
use Rattle.element_form.specs.Ground.{Statement, Ground, key, kind_term}
use Rattle.element_form.specs.Facts.{Asked, IsFact, IsElementFact}
use Rattle.type_law.proofs.AsoSide.{IsSide, deg_place, deg_from, deg_to}
use Rattle.type_law.proofs.Given as given
use Rattle.type_law.proofs.Given.{IsFree}
use Rattle.type_law.proofs.Numbers.{lt_from, lt_to, gt_from, gt_to}
use Rattle.type_law.proofs.Facts.{asked_of}

settled_at_most : (m n : ℕ) → IsSettled (m ≤ n)
settled_at_most m n deny = grind (arith, deny)

settled_no_greater : (st : Statement) (one other : Value → Bool) → IsSettled (NoGreater st one other)
settled_no_greater st one other = λ deny e among. settled_at_most (degree one e) (degree other e) (λ d. deny (λ h. d (h e among)))

pub smaller_decided : (st : Statement) (one other : Value → Bool) → IsDecided (HasSmaller st one other)
smaller_decided st one other = decide_some st.elements (λ (e : Ground). degree one e < degree other e) (λ e. decide_less (degree one e) (degree other e))

free : IsFree aso_rules
free = record { preference = refl; weight = refl; holds = refl; holds' = refl; better_in = refl; bettereq_in = refl; eq_in = refl; worse_in = refl; worseeq_in = refl; greater = refl; net = refl; state = refl; bit = refl; path = refl }

module _ (st : Statement) (shape : HasGrades st) (asked : Asked) (z : AtomSet) (answer : IsAnswerSet aso_rules (IsFact st asked) z) where
  abbrev of_ : List ℕ → Value → Value
  of_ name i = compound name (also st.name (also i none))

  abbrev at_ : List ℕ → Value → Value → Value
  at_ name i r = compound name (also st.name (also i (also r none)))

  abbrev this : List ℕ → Value
  this name = compound name (also st.name none)

  -- a fact of an element that a body asks for
  asked_fact : (p i j r t w : Value) → i ≡ j → IsTrue (z (compound (codes "preference") (also p (also j (also r (also t (also w none))))))) → (IsElementFact st i r t w → ⊥) → ⊥
  asked_fact p i j r t w ie pref deny = (given.element_is aso_rules free st asked z answer p j r t w).1 pref (λ (pe, fact). deny (subst (λ k. IsElementFact st k r t w) (sym ie) fact))

  told : (i r t w : Value) → IsElementFact st i r t w → IsTrue (z (compound (codes "preference") (also st.name (also i (also r (also t (also w none)))))))
  told i r t w fact = (given.element_is aso_rules free st asked z answer st.name i r t w).0 (refl, fact)

  new_side : IsSide st asked.new (λ i. z (of_ (codes "act") i)) (λ i. z (of_ (codes "some") i)) (λ i. z (of_ (codes "cond") i)) (λ i r. z (at_ (codes "hit") i r)) (λ i r. z (at_ (codes "early") i r)) (λ i r. z (at_ (codes "deg") i r))
  new_side = record {
    act_is = λ i. retell (by_rules aso_rules (IsFact st asked) z answer (of_ (codes "act") i) (λ f. f))
        (λ g deny. ⊎_elim
        (λ (s, (pe, (ie, end)), ((w, pref), (holds, end2))). asked_fact (s (codes "P")) i (s (codes "I")) _ _ w ie pref (λ fact. (given.new_is aso_rules free st asked z answer (s (codes "F"))).1 holds (λ h. deny (inl (s (codes "F"), w, fact, h.1)))))
        (λ (s, (pe, (ie, end)), ((t, (w, pref)), (not_cond, end2))). asked_fact (s (codes "P")) i (s (codes "I")) _ t w ie pref (λ fact. deny (inr (t, w, fact, rw (pe, ie) not_cond))))
        g)
        (⊎_elim
        (λ (f, w, fact, sat). inl (bind (codes "P") st.name (bind (codes "I") i (λ n. f)), (refl, (refl, tt)), ((w, told i _ _ w fact), ((given.new_is aso_rules free st asked z answer f).0 (asked_of st i _ f w fact, sat), tt))))
        (λ (t, w, fact, not_cond). inr (bind (codes "P") st.name (λ n. i), (refl, (refl, tt)), ((t, (w, told i _ t w fact)), (not_cond, tt)))));
    hit_is = λ i r. retell (by_rules aso_rules (IsFact st asked) z answer (at_ (codes "hit") i r) (λ f. f))
        (λ (s, (pe, (ie, (re, end))), ((w, pref), (gt, (acts, (holds, end2))))) deny. asked_fact (s (codes "P")) i (s (codes "I")) (s (codes "R")) _ w ie pref (λ fact. (given.new_is aso_rules free st asked z answer (s (codes "F"))).1 holds (λ h.
        deny (s (codes "F"), w, subst (λ q. IsElementFact st i q (compound (codes "for") (also (s (codes "F")) none)) w) (sym re) fact, rw re gt, rw (pe, ie) acts, h.1))))
        (λ (f, w, fact, gt, acts, sat). (bind (codes "P") st.name (bind (codes "I") i (bind (codes "R") r (λ n. f))), (refl, (refl, (refl, tt))), ((w, told i r _ w fact), (gt, (acts, ((given.new_is aso_rules free st asked z answer f).0 (asked_of st i r f w fact, sat), tt))))));
    early_is = λ i r. retell (by_rules aso_rules (IsFact st asked) z answer (at_ (codes "early") i r) (λ f. f))
        (λ (s, (pe, (ie, (re, end))), ((t, (w, pref)), (hits, (lt, end2)))) deny. asked_fact (s (codes "P")) i (s (codes "I")) (s (codes "R")) t w ie pref (λ fact.
        deny (t, w, s (codes "S"), subst (λ q. IsElementFact st i q t w) (sym re) fact, rw (pe, ie) hits, rw re lt)))
        (λ (t, w, q, fact, hits, lt). (bind (codes "P") st.name (bind (codes "I") i (bind (codes "R") r (λ n. q))), (refl, (refl, (refl, tt))), ((t, (w, told i r t w fact)), (hits, (lt, tt)))));
    deg_is = λ i r. retell (by_rules aso_rules (IsFact st asked) z answer (at_ (codes "deg") i r) (λ f. f))
        (λ g deny. ⊎_elim
        (λ (s, (pe, (ie, (re, end))), (hits, (not_early, end2))). deny (inl (rw (pe, ie, re) hits, rw (pe, ie, re) not_early)))
        (λ (s, (pe, (ie, (re, end))), ((t, (w, pref)), (not_some, end2))). asked_fact (s (codes "P")) i (s (codes "I")) _ t w ie pref (λ fact. deny (inr (t, w, re, fact, rw (pe, ie) not_some))))
        g)
        (⊎_elim
        (λ (hits, not_early). inl (bind (codes "P") st.name (bind (codes "I") i (λ n. r)), (refl, (refl, (refl, tt))), (hits, (not_early, tt))))
        (λ (t, w, re, fact, not_some). inr (bind (codes "P") st.name (λ n. i), (refl, (refl, (re, tt))), ((t, (w, told i _ t w fact)), (not_some, tt)))));
    some_is = λ i. retell (by_rules aso_rules (IsFact st asked) z answer (of_ (codes "some") i) (λ f. f))
        (λ (s, (pe, (ie, end)), ((r, hits), end2)) deny. deny (r, rw (pe, ie) hits))
        (λ (r, hits). (bind (codes "P") st.name (λ n. i), (refl, (refl, tt)), ((r, hits), tt)));
    cond_is = λ i. retell (by_rules aso_rules (IsFact st asked) z answer (of_ (codes "cond") i) (λ f. f))
        (λ (s, (pe, (ie, end)), ((t, (w, pref)), end2)) deny. asked_fact (s (codes "P")) i (s (codes "I")) _ t w ie pref (λ fact. deny (t, w, fact)))
        (λ (t, w, fact). (bind (codes "P") st.name (λ n. i), (refl, (refl, tt)), ((t, (w, told i _ t w fact)), tt)));
  }

  old_side : IsSide st asked.old (λ i. z (of_ (codes "act'") i)) (λ i. z (of_ (codes "some'") i)) (λ i. z (of_ (codes "cond") i)) (λ i r. z (at_ (codes "hit'") i r)) (λ i r. z (at_ (codes "early'") i r)) (λ i r. z (at_ (codes "deg'") i r))
  old_side = record {
    act_is = λ i. retell (by_rules aso_rules (IsFact st asked) z answer (of_ (codes "act'") i) (λ f. f))
        (λ g deny. ⊎_elim
        (λ (s, (pe, (ie, end)), ((w, pref), (holds, end2))). asked_fact (s (codes "P")) i (s (codes "I")) _ _ w ie pref (λ fact. (given.old_is aso_rules free st asked z answer (s (codes "F"))).1 holds (λ h. deny (inl (s (codes "F"), w, fact, h.1)))))
        (λ (s, (pe, (ie, end)), ((t, (w, pref)), (not_cond, end2))). asked_fact (s (codes "P")) i (s (codes "I")) _ t w ie pref (λ fact. deny (inr (t, w, fact, rw (pe, ie) not_cond))))
        g)
        (⊎_elim
        (λ (f, w, fact, sat). inl (bind (codes "P") st.name (bind (codes "I") i (λ n. f)), (refl, (refl, tt)), ((w, told i _ _ w fact), ((given.old_is aso_rules free st asked z answer f).0 (asked_of st i _ f w fact, sat), tt))))
        (λ (t, w, fact, not_cond). inr (bind (codes "P") st.name (λ n. i), (refl, (refl, tt)), ((t, (w, told i _ t w fact)), (not_cond, tt)))));
    hit_is = λ i r. retell (by_rules aso_rules (IsFact st asked) z answer (at_ (codes "hit'") i r) (λ f. f))
        (λ (s, (pe, (ie, (re, end))), ((w, pref), (gt, (acts, (holds, end2))))) deny. asked_fact (s (codes "P")) i (s (codes "I")) (s (codes "R")) _ w ie pref (λ fact. (given.old_is aso_rules free st asked z answer (s (codes "F"))).1 holds (λ h.
        deny (s (codes "F"), w, subst (λ q. IsElementFact st i q (compound (codes "for") (also (s (codes "F")) none)) w) (sym re) fact, rw re gt, rw (pe, ie) acts, h.1))))
        (λ (f, w, fact, gt, acts, sat). (bind (codes "P") st.name (bind (codes "I") i (bind (codes "R") r (λ n. f))), (refl, (refl, (refl, tt))), ((w, told i r _ w fact), (gt, (acts, ((given.old_is aso_rules free st asked z answer f).0 (asked_of st i r f w fact, sat), tt))))));
    early_is = λ i r. retell (by_rules aso_rules (IsFact st asked) z answer (at_ (codes "early'") i r) (λ f. f))
        (λ (s, (pe, (ie, (re, end))), ((t, (w, pref)), (hits, (lt, end2)))) deny. asked_fact (s (codes "P")) i (s (codes "I")) (s (codes "R")) t w ie pref (λ fact.
        deny (t, w, s (codes "S"), subst (λ q. IsElementFact st i q t w) (sym re) fact, rw (pe, ie) hits, rw re lt)))
        (λ (t, w, q, fact, hits, lt). (bind (codes "P") st.name (bind (codes "I") i (bind (codes "R") r (λ n. q))), (refl, (refl, (refl, tt))), ((t, (w, told i r t w fact)), (hits, (lt, tt)))));
    deg_is = λ i r. retell (by_rules aso_rules (IsFact st asked) z answer (at_ (codes "deg'") i r) (λ f. f))
        (λ g deny. ⊎_elim
        (λ (s, (pe, (ie, (re, end))), (hits, (not_early, end2))). deny (inl (rw (pe, ie, re) hits, rw (pe, ie, re) not_early)))
        (λ (s, (pe, (ie, (re, end))), ((t, (w, pref)), (not_some, end2))). asked_fact (s (codes "P")) i (s (codes "I")) _ t w ie pref (λ fact. deny (inr (t, w, re, fact, rw (pe, ie) not_some))))
        g)
        (⊎_elim
        (λ (hits, not_early). inl (bind (codes "P") st.name (bind (codes "I") i (λ n. r)), (refl, (refl, (refl, tt))), (hits, (not_early, tt))))
        (λ (t, w, re, fact, not_some). inr (bind (codes "P") st.name (λ n. i), (refl, (refl, (re, tt))), ((t, (w, told i _ t w fact)), (not_some, tt)))));
    some_is = λ i. retell (by_rules aso_rules (IsFact st asked) z answer (of_ (codes "some'") i) (λ f. f))
        (λ (s, (pe, (ie, end)), ((r, hits), end2)) deny. deny (r, rw (pe, ie) hits))
        (λ (r, hits). (bind (codes "P") st.name (λ n. i), (refl, (refl, tt)), ((r, hits), tt)));
    cond_is = λ i. retell (by_rules aso_rules (IsFact st asked) z answer (of_ (codes "cond") i) (λ f. f))
        (λ (s, (pe, (ie, end)), ((t, (w, pref)), end2)) deny. asked_fact (s (codes "P")) i (s (codes "I")) _ t w ie pref (λ fact. deny (t, w, fact)))
        (λ (t, w, fact). (bind (codes "P") st.name (λ n. i), (refl, (refl, tt)), ((t, (w, told i _ t w fact)), tt)));
  }

  -- two degrees of one element
  degrees : (i r q : Value) → IsTrue (z (at_ (codes "deg") i r)) → IsTrue (z (at_ (codes "deg'") i q))
      → ((e : Ground) → Contains st.elements e → r ≡ integer (pos (degree asked.new e)) → q ≡ integer (pos (degree asked.old e)) → ⊥) → ⊥
  degrees i r q h k deny =
      deg_place st shape asked.new _ _ _ _ _ _ new_side i r h (λ (e, n, among, ie, re).
      deg_from st shape asked.new _ _ _ _ _ _ new_side e n among (subst (λ a. IsTrue (z a)) (ap (λ j. at_ (codes "deg") j r) ie ∙ ap (at_ (codes "deg") (key e)) re) h) (λ n_is.
      deg_place st shape asked.old _ _ _ _ _ _ old_side i q k (λ (f, m, other, je, qe).
      deg_from st shape asked.old _ _ _ _ _ _ old_side e m among (subst (λ a. IsTrue (z a)) (ap (λ j. at_ (codes "deg'") j q) ie ∙ ap (at_ (codes "deg'") (key e)) qe) k) (λ m_is.
      deny e among (re ∙ ap (λ x. integer (pos x)) n_is) (qe ∙ ap (λ x. integer (pos x)) m_is)))))

  up_is : Tells (z (this (codes "up"))) ((e : Ground) × Contains st.elements e × (degree asked.new e < degree asked.old e))
  up_is = retell (by_rules aso_rules (IsFact st asked) z answer (this (codes "up")) (λ f. f))
      (λ (s, (pe, end), (new, (old, (lt, end2)))) deny. degrees (s (codes "I")) (s (codes "R")) (s (codes "S")) (rw pe new) (rw pe old) (λ e among re qe.
      deny (e, among, lt_from (degree asked.new e) (degree asked.old e) (rw (re, qe) at lt))))
      (λ (e, among, lt). (
        bind (codes "P") st.name (bind (codes "I") (key e) (bind (codes "R") (integer (pos (degree asked.new e))) (λ n. integer (pos (degree asked.old e))))),
        (refl, tt),
        (deg_to st shape asked.new _ _ _ _ _ _ new_side e among, (deg_to st shape asked.old _ _ _ _ _ _ old_side e among, (lt_to (degree asked.new e) (degree asked.old e) lt, tt))),
      ))

  down_is : Tells (z (this (codes "down"))) ((e : Ground) × Contains st.elements e × (degree asked.old e < degree asked.new e))
  down_is = retell (by_rules aso_rules (IsFact st asked) z answer (this (codes "down")) (λ f. f))
      (λ (s, (pe, end), (new, (old, (gt, end2)))) deny. degrees (s (codes "I")) (s (codes "R")) (s (codes "S")) (rw pe new) (rw pe old) (λ e among re qe.
      deny (e, among, gt_from (degree asked.new e) (degree asked.old e) (rw (re, qe) at gt))))
      (λ (e, among, gt). (
        bind (codes "P") st.name (bind (codes "I") (key e) (bind (codes "R") (integer (pos (degree asked.new e))) (λ n. integer (pos (degree asked.old e))))),
        (refl, tt),
        (deg_to st shape asked.new _ _ _ _ _ _ new_side e among, (deg_to st shape asked.old _ _ _ _ _ _ old_side e among, (gt_to (degree asked.new e) (degree asked.old e) gt, tt))),
      ))

  no_down : IsFalse (z (this (codes "down"))) → NoGreater st asked.new asked.old
  no_down h e among = settled_at_most (degree asked.new e) (degree asked.old e) (λ d. from_false down_is h (e, among, grind (arith, d)))

  no_up : IsFalse (z (this (codes "up"))) → NoGreater st asked.old asked.new
  no_up h e among = settled_at_most (degree asked.old e) (degree asked.new e) (λ d. from_false up_is h (e, among, grind (arith, d)))

  not_down : NoGreater st asked.new asked.old → IsFalse (z (this (codes "down")))
  not_down h = is_false down_is (λ (e, among, lt). let le : degree asked.new e ≤ degree asked.old e = h e among in omega (arith, lt, le))

  not_up : NoGreater st asked.old asked.new → IsFalse (z (this (codes "up")))
  not_up h = is_false up_is (λ (e, among, lt). let le : degree asked.old e ≤ degree asked.new e = h e among in omega (arith, lt, le))

  declared : IsTrue (z (compound (codes "preference") (also st.name (also (kind_term st.kind) none))))
  declared = given.declared aso_rules free st asked z answer

  pub better_is : IsTrue (z (this (codes "better"))) ↔ (NoGreater st asked.new asked.old × HasSmaller st asked.new asked.old)
  better_is = exactly (retell (by_rules aso_rules (IsFact st asked) z answer (this (codes "better")) (λ f. f))
      (λ (s, (pe, end), ((k, pref), (up, (down, end2)))) deny. up_is.1 (rw pe up) (λ some_smaller. deny (no_down (rw pe down), some_smaller)))
      (λ (all, some_smaller). (λ n. st.name, (refl, tt), (((kind_term st.kind), declared), (up_is.0 some_smaller, (not_down all, tt))))))
      (settled_both _ _ (settled_no_greater st asked.new asked.old) (settled_decided _ (smaller_decided st asked.new asked.old)))

  pub bettereq_is : IsTrue (z (this (codes "bettereq"))) ↔ NoGreater st asked.new asked.old
  bettereq_is = exactly (retell (by_rules aso_rules (IsFact st asked) z answer (this (codes "bettereq")) (λ f. f))
      (λ (s, (pe, end), ((k, pref), (down, end2))) deny. deny (no_down (rw pe down)))
      (λ all. (λ n. st.name, (refl, tt), (((kind_term st.kind), declared), (not_down all, tt)))))
      (settled_no_greater st asked.new asked.old)

  pub eq_is : IsTrue (z (this (codes "eq"))) ↔ (NoGreater st asked.new asked.old × NoGreater st asked.old asked.new)
  eq_is = exactly (retell (by_rules aso_rules (IsFact st asked) z answer (this (codes "eq")) (λ f. f))
      (λ (s, (pe, end), ((k, pref), (up, (down, end2)))) deny. deny (no_down (rw pe down), no_up (rw pe up)))
      (λ (all, back). (λ n. st.name, (refl, tt), (((kind_term st.kind), declared), (not_up back, (not_down all, tt))))))
      (settled_both _ _ (settled_no_greater st asked.new asked.old) (settled_no_greater st asked.old asked.new))

pub aso_law : (st : Statement) → HasGrades st → (asked : Asked) (z : AtomSet) → IsAnswerSet aso_rules (IsFact st asked) z → Relates st z (NoGreater st asked.new asked.old × HasSmaller st asked.new asked.old) (NoGreater st asked.new asked.old) (NoGreater st asked.new asked.old × NoGreater st asked.old asked.new)
aso_law st shape asked z answer = (better_is st shape asked z answer, bettereq_is st shape asked z answer, eq_is st shape asked z answer)
