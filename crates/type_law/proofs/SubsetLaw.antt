-- The programs of `subset` and `superset` mean their orders.
use Rattle.std.proofs.Common.{ℕ, List, Bool, IsTrue, IsFalse, refl, sym, ◌∙◌, inl}
use Rattle.std.specs.Prelude.{◌↔◌, codes}
use Rattle.std.proofs.lemmas.Bool.{false≢true, false_from_ne_true}
use Rattle.ap_term.specs.Value.{Value, compound, none, also}
use Rattle.rule_form.specs.AnswerSets.{IsAnswerSet}
use Rattle.rule_form.specs.Truth.{AtomSet}
use Rattle.rule_form.specs.Unfolded.{bind}
use Rattle.rule_form.proofs.Stable.{IsSettled, settled_not, settled_both, settled_true}
use Rattle.rule_form.proofs.Tells.{Tells, retell, exactly, is_false, from_false, by_rules}
use Rattle.type_law.specs.Takes.{HasNoConditions, Relates}
use Rattle.element_form.specs.Ground.{Statement, HasFormula, kind_term}
use Rattle.element_form.specs.Facts.{Asked, IsAskedFor, IsFact}
use Rattle.pref_library.specs.Subset.{part_rules, subset_rules, superset_rules}
use Rattle.type_law.specs.Parts.{IsPart, IsProperPart, IsSame}
use Rattle.type_law.proofs.Facts.{rank_of, fact_of}
use Rattle.type_law.proofs.Given as given
use Rattle.type_law.proofs.Given.{IsFree}

settled_part : (st : Statement) (one other : Value → Bool) → IsSettled (IsPart st one other)
settled_part st one other = λ deny f has h. settled_true (other f) (λ not_other. deny (λ part. not_other (part f has h)))

module _ (holds holds' : List ℕ) (free : IsFree (part_rules holds holds')) (st : Statement) (shape : HasNoConditions st) (asked : Asked) (z : AtomSet) (answer : IsAnswerSet (part_rules holds holds') (IsFact st asked) z)
    (one other : Value → Bool)
    (one_is : (f : Value) → Tells (z (compound holds (also f none))) (IsAskedFor st f × IsTrue (one f)))
    (other_is : (f : Value) → Tells (z (compound holds' (also f none))) (IsAskedFor st f × IsTrue (other f))) where
  abbrev this : List ℕ → Value
  this name = compound name (also st.name none)

  -- a formula of the one set alone
  abbrev Alone : (Value → Bool) → (Value → Bool) → Type 0
  Alone some rest = (f : Value) × HasFormula st f × IsTrue (some f) × IsFalse (rest f)

  new_is : Tells (z (this (codes "new"))) (Alone one other)
  new_is = retell (by_rules (part_rules holds holds') (IsFact st asked) z answer (this (codes "new")) (λ f. f))
      (λ (s, at, ((i, (r, (w, pref))), (yes_f, (no_f, end)))) deny. (given.element_is (part_rules holds holds') free st asked z answer (s (codes "P")) i r _ w).1 pref (λ (pe, fact). (one_is (s (codes "F"))).1 yes_f (λ h.
      let has = rank_of st shape i r (s (codes "F")) w fact in
      deny (s (codes "F"), has, h.1, false_from_ne_true _ (λ t. from_false (other_is (s (codes "F"))) no_f (inl has, t))))))
      (λ (f, has, yes_f, no_f). let (i, r, w, fact) = fact_of st f has in (
        bind (codes "P") st.name (λ n. f),
        (refl, tt),
        (
          (i, (r, (w, (given.element_is (part_rules holds holds') free st asked z answer st.name i r _ w).0 (refl, fact)))),
          ((one_is f).0 (inl has, yes_f), (is_false (other_is f) (λ t. false≢true (sym no_f ∙ t.1)), tt)),
        ),
      ))

  old_is : Tells (z (this (codes "old"))) (Alone other one)
  old_is = retell (by_rules (part_rules holds holds') (IsFact st asked) z answer (this (codes "old")) (λ f. f))
      (λ (s, at, ((i, (r, (w, pref))), (yes_f, (no_f, end)))) deny. (given.element_is (part_rules holds holds') free st asked z answer (s (codes "P")) i r _ w).1 pref (λ (pe, fact). (other_is (s (codes "F"))).1 yes_f (λ h.
      let has = rank_of st shape i r (s (codes "F")) w fact in
      deny (s (codes "F"), has, h.1, false_from_ne_true _ (λ t. from_false (one_is (s (codes "F"))) no_f (inl has, t))))))
      (λ (f, has, yes_f, no_f). let (i, r, w, fact) = fact_of st f has in (
        bind (codes "P") st.name (λ n. f),
        (refl, tt),
        (
          (i, (r, (w, (given.element_is (part_rules holds holds') free st asked z answer st.name i r _ w).0 (refl, fact)))),
          ((other_is f).0 (inl has, yes_f), (is_false (one_is f) (λ t. false≢true (sym no_f ∙ t.1)), tt)),
        ),
      ))

  part_from : {b : Bool} (some rest : Value → Bool) → Tells b (Alone some rest) → IsFalse b → IsPart st some rest
  part_from some rest t e f has h = settled_true (rest f) (λ d. from_false t e (f, has, h, false_from_ne_true (rest f) d))

  part_to : {b : Bool} (some rest : Value → Bool) → Tells b (Alone some rest) → IsPart st some rest → IsFalse b
  part_to some rest t part = is_false t (λ (f, has, h, n). false≢true (sym n ∙ part f has h))

  proper_from : {b : Bool} (some rest : Value → Bool) → Tells b (Alone some rest) → IsTrue b → IsPart st some rest → ⊥
  proper_from some rest t e part = false≢true (sym (part_to some rest t part) ∙ e)

  proper_to : {b : Bool} (some rest : Value → Bool) → Tells b (Alone some rest) → (IsPart st some rest → ⊥) → IsTrue b
  proper_to {b = b} some rest t deny = settled_true b (λ d. deny (part_from some rest t (false_from_ne_true b d)))

  declared : IsTrue (z (compound (codes "preference") (also st.name (also (kind_term st.kind) none))))
  declared = given.declared (part_rules holds holds') free st asked z answer

  pub better_is : IsTrue (z (this (codes "better"))) ↔ IsProperPart st one other
  better_is = exactly (retell (by_rules (part_rules holds holds') (IsFact st asked) z answer (this (codes "better")) (λ f. f))
      (λ (s, (pe, at), ((k, pref), (old, (new, end)))) deny. deny (part_from one other new_is (rw pe new), proper_from other one old_is (rw pe old)))
      (λ (part, proper). (λ n. st.name, (refl, tt), (((kind_term st.kind), declared), (proper_to other one old_is proper, (part_to one other new_is part, tt))))))
      (settled_both _ _ (settled_part st one other) (settled_not _))

  pub bettereq_is : IsTrue (z (this (codes "bettereq"))) ↔ IsPart st one other
  bettereq_is = exactly (retell (by_rules (part_rules holds holds') (IsFact st asked) z answer (this (codes "bettereq")) (λ f. f))
      (λ (s, (pe, at), ((k, pref), (new, end))) deny. deny (part_from one other new_is (rw pe new)))
      (λ part. (λ n. st.name, (refl, tt), (((kind_term st.kind), declared), (part_to one other new_is part, tt)))))
      (settled_part st one other)

  pub eq_is : IsTrue (z (this (codes "eq"))) ↔ IsSame st one other
  eq_is = exactly (retell (by_rules (part_rules holds holds') (IsFact st asked) z answer (this (codes "eq")) (λ f. f))
      (λ (s, (pe, at), ((k, pref), (new, (old, end)))) deny. deny (part_from one other new_is (rw pe new), part_from other one old_is (rw pe old)))
      (λ (part, back). (λ n. st.name, (refl, tt), (((kind_term st.kind), declared), (part_to one other new_is part, (part_to other one old_is back, tt))))))
      (settled_both _ _ (settled_part st one other) (settled_part st other one))

subset_free : IsFree subset_rules
subset_free = record { preference = refl; weight = refl; holds = refl; holds' = refl; better_in = refl; bettereq_in = refl; eq_in = refl; worse_in = refl; worseeq_in = refl; greater = refl; net = refl; state = refl; bit = refl; path = refl }

superset_free : IsFree superset_rules
superset_free = record { preference = refl; weight = refl; holds = refl; holds' = refl; better_in = refl; bettereq_in = refl; eq_in = refl; worse_in = refl; worseeq_in = refl; greater = refl; net = refl; state = refl; bit = refl; path = refl }

pub subset_law : (st : Statement) → HasNoConditions st → (asked : Asked) (z : AtomSet) → IsAnswerSet subset_rules (IsFact st asked) z
    → Relates st z (IsProperPart st asked.new asked.old) (IsPart st asked.new asked.old) (IsSame st asked.new asked.old)
subset_law st shape asked z answer =
    let new = given.new_is subset_rules subset_free st asked z answer in
    let old = given.old_is subset_rules subset_free st asked z answer in (
      better_is (codes "holds") (codes "holds'") subset_free st shape asked z answer asked.new asked.old new old,
      bettereq_is (codes "holds") (codes "holds'") subset_free st shape asked z answer asked.new asked.old new old,
      eq_is (codes "holds") (codes "holds'") subset_free st shape asked z answer asked.new asked.old new old,
    )

pub superset_law : (st : Statement) → HasNoConditions st → (asked : Asked) (z : AtomSet) → IsAnswerSet superset_rules (IsFact st asked) z
    → Relates st z (IsProperPart st asked.old asked.new) (IsPart st asked.old asked.new) (IsSame st asked.old asked.new)
superset_law st shape asked z answer =
    let new = given.new_is superset_rules superset_free st asked z answer in
    let old = given.old_is superset_rules superset_free st asked z answer in (
      better_is (codes "holds'") (codes "holds") superset_free st shape asked z answer asked.old asked.new old new,
      bettereq_is (codes "holds'") (codes "holds") superset_free st shape asked z answer asked.old asked.new old new,
      eq_is (codes "holds'") (codes "holds") superset_free st shape asked z answer asked.old asked.new old new,
    )
