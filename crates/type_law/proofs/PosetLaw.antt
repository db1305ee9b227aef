-- The program of `poset` means its order.
use Rattle.std.proofs.Common.{ℕ, List, Bool, true, false, IsTrue, IsFalse, refl, sym, subst, ◌∙◌, ⊎_elim, inl, inr}
use Rattle.std.specs.Prelude.{◌⊎◌, codes}
use Rattle.std.proofs.lemmas.Bool.{false≢true, false_from_ne_true}
use Rattle.ap_term.specs.Value.{Value, compound, none, also}
use Rattle.rule_form.specs.AnswerSets.{IsAnswerSet}
use Rattle.rule_form.specs.Truth.{AtomSet}
use Rattle.rule_form.specs.Unfolded.{bind}
use Rattle.rule_form.proofs.Decided.{IsDecided, settled_decided, decide_true, decide_both, decide_if, decide_all, decide_some, decide_as}
use Rattle.rule_form.proofs.Stable.{IsSettled, settled_not, settled_both, settled_true}
use Rattle.rule_form.proofs.Tells.{Tells, retell, exactly, is_false, from_false, by_rules}
use Rattle.type_law.specs.Takes.{HasNoConditions, Relates}
use Rattle.pref_library.specs.Poset.{poset_rules}
use Rattle.type_law.specs.Covers.{IsAlone, IsCovered}
use Rattle.type_law.specs.Orders.{PosetBetter}
use Rattle.element_form.specs.Ground.{Statement, kind_term, is_of}
use Rattle.element_form.specs.Facts.{Asked, IsFact}
use Rattle.type_law.specs.Parts.{IsPart, IsSame}
use Rattle.element_form.specs.Satisfied.{formulas}
use Rattle.element_form.specs.Greater.{IsGreater}
use Rattle.element_form.proofs.GreaterLaw.{greater_decided}
use Rattle.element_form.proofs.Members.{in_formulas, to_formulas}
use Rattle.pref_kinds.specs.declared.built_in.BuiltIn.TheVariants.{Poset}
use Rattle.type_law.proofs.Facts.{rank_of, fact_of}
use Rattle.type_law.proofs.Given as given
use Rattle.type_law.proofs.Given.{IsFree}

free : IsFree poset_rules
free = record { preference = refl; weight = refl; holds = refl; holds' = refl; better_in = refl; bettereq_in = refl; eq_in = refl; worse_in = refl; worseeq_in = refl; greater = refl; net = refl; state = refl; bit = refl; path = refl }

-- ---- what is decided

decide_false : (b : Bool) → IsDecided (IsFalse b)
decide_false true = inr (λ e. false≢true (sym e))
decide_false false = inl refl

pub part_decided : (st : Statement) (one other : Value → Bool) → IsDecided (IsPart st one other)
part_decided st one other = decide_as _ _ (λ h f has. h f (to_formulas st f has)) (λ h f c. h f (in_formulas st f c))
    (decide_all (formulas st) (λ f. IsTrue (one f) → IsTrue (other f)) (λ f. decide_if _ _ (decide_true (one f)) (decide_true (other f))))

pub same_decided : (st : Statement) (one other : Value → Bool) → IsDecided (IsSame st one other)
same_decided st one other = decide_both _ _ (part_decided st one other) (part_decided st other one)

pub covered_decided : (st : Statement) (one other : Value → Bool) (g : Value) → IsDecided ((f : Value) × IsAlone st one other f × IsGreater st f g)
covered_decided st one other g = decide_as _ _
    (λ (f, c, (yes_f, (no_f, gr))). (f, (in_formulas st f c, yes_f, no_f), gr))
    (λ (f, (has, yes_f, no_f), gr). (f, to_formulas st f has, (yes_f, (no_f, gr))))
    (decide_some (formulas st) (λ f. IsTrue (one f) × (IsFalse (other f) × IsGreater st f g))
    (λ f. decide_both _ _ (decide_true (one f)) (decide_both _ _ (decide_false (other f)) (greater_decided st f g))))

-- ---- the program

module _ (st : Statement) (is : IsTrue (is_of Poset st)) (shape : HasNoConditions st) (asked : Asked) (z : AtomSet) (answer : IsAnswerSet poset_rules (IsFact st asked) z) where
  abbrev this : List ℕ → Value
  this name = compound name (also st.name none)

  abbrev with_ : List ℕ → Value → Value
  with_ name f = compound name (also st.name (also f none))

  new_is : (f : Value) → Tells (z (with_ (codes "new") f)) (IsAlone st asked.new asked.old f)
  new_is f = retell (by_rules poset_rules (IsFact st asked) z answer (with_ (codes "new") f) (λ f. f))
      (λ (s, (pe, (fe, end)), ((i, (r, (w, pref))), (yes_f, (no_f, end2)))) deny. (given.element_is poset_rules free st asked z answer (s (codes "P")) i r _ w).1 pref (λ (p, fact).
      (given.new_is poset_rules free st asked z answer (s (codes "F"))).1 yes_f (λ h.
      let has = rank_of st shape i r (s (codes "F")) w fact in
      deny (subst (IsAlone st asked.new asked.old) (sym fe) (has, h.1, false_from_ne_true _ (λ t. from_false (given.old_is poset_rules free st asked z answer (s (codes "F"))) no_f (inl has, t)))))))
      (λ (has, yes_f, no_f). let (i, r, w, fact) = fact_of st f has in (
        bind (codes "P") st.name (λ n. f),
        (refl, (refl, tt)),
        (
          (i, (r, (w, (given.element_is poset_rules free st asked z answer st.name i r _ w).0 (refl, fact)))),
          ((given.new_is poset_rules free st asked z answer f).0 (inl has, yes_f), (is_false (given.old_is poset_rules free st asked z answer f) (λ t. false≢true (sym no_f ∙ t.1)), tt)),
        ),
      ))

  old_is : (f : Value) → Tells (z (with_ (codes "old") f)) (IsAlone st asked.old asked.new f)
  old_is f = retell (by_rules poset_rules (IsFact st asked) z answer (with_ (codes "old") f) (λ f. f))
      (λ (s, (pe, (fe, end)), ((i, (r, (w, pref))), (yes_f, (no_f, end2)))) deny. (given.element_is poset_rules free st asked z answer (s (codes "P")) i r _ w).1 pref (λ (p, fact).
      (given.old_is poset_rules free st asked z answer (s (codes "F"))).1 yes_f (λ h.
      let has = rank_of st shape i r (s (codes "F")) w fact in
      deny (subst (IsAlone st asked.old asked.new) (sym fe) (has, h.1, false_from_ne_true _ (λ t. from_false (given.new_is poset_rules free st asked z answer (s (codes "F"))) no_f (inl has, t)))))))
      (λ (has, yes_f, no_f). let (i, r, w, fact) = fact_of st f has in (
        bind (codes "P") st.name (λ n. f),
        (refl, (refl, tt)),
        (
          (i, (r, (w, (given.element_is poset_rules free st asked z answer st.name i r _ w).0 (refl, fact)))),
          ((given.old_is poset_rules free st asked z answer f).0 (inl has, yes_f), (is_false (given.new_is poset_rules free st asked z answer f) (λ t. false≢true (sym no_f ∙ t.1)), tt)),
        ),
      ))

  abbrev Greater : Value → Type 0
  Greater g = (f : Value) × IsAlone st asked.new asked.old f × IsGreater st f g

  cov_is : (g : Value) → Tells (z (with_ (codes "cov") g)) (IsAlone st asked.old asked.new g × Greater g)
  cov_is g = retell (by_rules poset_rules (IsFact st asked) z answer (with_ (codes "cov") g) (λ f. f))
      (λ (s, (pe, (ge, end)), (old, (gr, (new, end2)))) deny. (old_is g).1 (rw (pe, ge) old) (λ alone. (new_is (s (codes "F"))).1 (rw pe new) (λ other.
      (given.greater_is poset_rules free st asked z answer is (s (codes "F")) (s (codes "G"))).1 gr (λ t. deny (alone, (s (codes "F"), other, rw ge t))))))
      (λ (alone, (f, other, t)). (bind (codes "P") st.name (bind (codes "F") f (λ n. g)), (refl, (refl, tt)), ((old_is g).0 alone, ((given.greater_is poset_rules free st asked z answer is f g).0 t, ((new_is f).0 other, tt)))))

  bad_is : Tells (z (this (codes "bad"))) ((g : Value) × IsAlone st asked.old asked.new g × (Greater g → ⊥))
  bad_is = retell (by_rules poset_rules (IsFact st asked) z answer (this (codes "bad")) (λ f. f))
      (λ (s, (pe, end), (old, (not_cov, end2))) deny. (old_is (s (codes "F"))).1 (rw pe old) (λ alone. deny (s (codes "F"), alone, λ gr. from_false (cov_is (s (codes "F"))) (rw pe not_cov) (alone, gr))))
      (λ (g, alone, none_greater). (bind (codes "P") st.name (λ n. g), (refl, tt), ((old_is g).0 alone, (is_false (cov_is g) (λ h. none_greater h.1), tt))))

  diff_is : Tells (z (this (codes "diff"))) (((f : Value) × IsAlone st asked.new asked.old f) ⊎ ((f : Value) × IsAlone st asked.old asked.new f))
  diff_is = retell (by_rules poset_rules (IsFact st asked) z answer (this (codes "diff")) (λ f. f))
      (λ g deny. ⊎_elim
      (λ (s, (pe, end), ((f, new), end2)). (new_is f).1 (rw pe new) (λ h. deny (inl (f, h))))
      (λ (s, (pe, end), ((f, old), end2)). (old_is f).1 (rw pe old) (λ h. deny (inr (f, h))))
      g)
      (⊎_elim
      (λ (f, h). inl (λ n. st.name, (refl, tt), ((f, (new_is f).0 h), tt)))
      (λ (f, h). inr (λ n. st.name, (refl, tt), ((f, (old_is f).0 h), tt))))

  no_bad : IsFalse (z (this (codes "bad"))) → IsCovered st asked
  no_bad h g alone = settled_decided _ (covered_decided st asked.new asked.old g) (λ d. from_false bad_is h (g, alone, d))

  not_bad : IsCovered st asked → IsFalse (z (this (codes "bad")))
  not_bad h = is_false bad_is (λ (g, alone, d). d (h g alone))

  -- nothing is in one set alone
  no_diff : IsFalse (z (this (codes "diff"))) → IsSame st asked.new asked.old
  no_diff h = (
    λ f has t. settled_true (asked.old f) (λ d. from_false diff_is h (inl (f, (has, t, false_from_ne_true (asked.old f) d)))),
    λ f has t. settled_true (asked.new f) (λ d. from_false diff_is h (inr (f, (has, t, false_from_ne_true (asked.new f) d)))),
  )

  not_diff : IsSame st asked.new asked.old → IsFalse (z (this (codes "diff")))
  not_diff (part, back) = is_false diff_is (⊎_elim (λ (f, (has, t, n)). false≢true (sym n ∙ part f has t)) (λ (f, (has, t, n)). false≢true (sym n ∙ back f has t)))

  diff_there : (IsSame st asked.new asked.old → ⊥) → IsTrue (z (this (codes "diff")))
  diff_there h = settled_true (z (this (codes "diff"))) (λ d. h (no_diff (false_from_ne_true _ d)))

  same_covered : IsSame st asked.new asked.old → IsCovered st asked
  same_covered (part, back) g (has, t, n) = absurd (false≢true (sym n ∙ back g has t))

  declared : IsTrue (z (compound (codes "preference") (also st.name (also (kind_term st.kind) none))))
  declared = given.declared poset_rules free st asked z answer

  covered_settled : IsSettled (IsCovered st asked)
  covered_settled deny g alone = settled_decided _ (covered_decided st asked.new asked.old g) (λ d. deny (λ h. d (h g alone)))

  either : IsCovered st asked → (PosetBetter st asked ⊎ IsSame st asked.new asked.old)
  either h = ⊎_elim (λ s. inr s) (λ n. inl (n, h)) (same_decided st asked.new asked.old)

  both : (PosetBetter st asked ⊎ IsSame st asked.new asked.old) → IsCovered st asked
  both h = ⊎_elim (λ b. b.1) same_covered h

  pub poset_law : Relates st z (PosetBetter st asked) ((PosetBetter st asked ⊎ IsSame st asked.new asked.old)) (IsSame st asked.new asked.old)
  poset_law = (
    exactly (retell (by_rules poset_rules (IsFact st asked) z answer (this (codes "better")) (λ f. f))
        (λ (s, (pe, end), ((k, pref), (diff, (bad, end2)))) deny. deny (λ same. false≢true (sym (not_diff same) ∙ rw pe diff), no_bad (rw pe bad)))
        (λ (differ, covered). (λ n. st.name, (refl, tt), (((kind_term st.kind), declared), (diff_there differ, (not_bad covered, tt))))))
        (settled_both _ _ (settled_not _) covered_settled),
    exactly (retell (by_rules poset_rules (IsFact st asked) z answer (this (codes "bettereq")) (λ f. f))
        (λ (s, (pe, end), ((k, pref), (bad, end2))) deny. deny (either (no_bad (rw pe bad))))
        (λ h. (λ n. st.name, (refl, tt), (((kind_term st.kind), declared), (not_bad (both h), tt)))))
        (λ deny. either (covered_settled (λ d. deny (λ h. d (both h))))),
    exactly (retell (by_rules poset_rules (IsFact st asked) z answer (this (codes "eq")) (λ f. f))
        (λ (s, (pe, end), ((k, pref), (diff, end2))) deny. deny (no_diff (rw pe diff)))
        (λ same. (λ n. st.name, (refl, tt), (((kind_term st.kind), declared), (not_diff same, tt)))))
        (settled_decided _ (same_decided st asked.new asked.old)),
  )
