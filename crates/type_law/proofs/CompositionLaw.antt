-- The programs of `pareto`, `and` and `neg` mean their orders.
use Rattle.std.proofs.Common.{◌≡◌, ℕ, ◌+◌, pos, List, [], ◌∷◌, Bool, IsTrue, refl, sym, subst, ap, ⊎_elim, inl, inr, Contains}
use Rattle.std.specs.Prelude.{◌↔◌, ◌⊎◌, codes, flat_map}
use Rattle.ap_term.specs.Value.{Value, integer, compound, none, also}
use Rattle.rule_form.specs.AnswerSets.{IsAnswerSet}
use Rattle.rule_form.specs.Trees.{Rule}
use Rattle.rule_form.specs.Truth.{AtomSet}
use Rattle.rule_form.specs.Values.{Substitution}
use Rattle.rule_form.specs.Unfolded.{Gives, named, bind, AgreesOn}
use Rattle.rule_form.proofs.Decided.{IsDecided, settled_decided, decide_true, decide_some, decide_as, decide_either, decide_all}
use Rattle.rule_form.proofs.Lists.{in_flat, to_flat}
use Rattle.rule_form.proofs.Stable.{settled_true, settled_both}
use Rattle.rule_form.proofs.Tells.{Tells, take, retell, exactly, by_rules}
use Rattle.rule_form.proofs.Unfolds.{here, first_or_rest, nothing_in}
use Rattle.type_law.specs.Takes.{HasNoConditions, Relates}
use Rattle.type_law.specs.Compositions.{InAll, InOne}
use Rattle.pref_library.specs.Compositions.{named_rule, either_rules, pareto_rules, and_rules, neg_rules}
use Rattle.element_form.specs.Ground.{Statement, Ground, Ranked, Target, For, Name, HasName, IsGiven, key, kind_term}
use Rattle.element_form.specs.Facts.{Asked, target_term, IsElementFact, IsFact}
use Rattle.type_law.proofs.Facts.{name_target}
use Rattle.type_law.proofs.Given as given
use Rattle.type_law.proofs.Given.{IsFree}

-- ---- names

name_of_fact : (st : Statement) → HasNoConditions st → (i r q w : Value) → IsElementFact st i r (compound (codes "name") (also q none)) w → HasName st q
name_of_fact st shape i r q w (e, k, ranked, among, ie, re, place, te, we) = ⊎_elim
    (λ at. (e, ranked, among, (at.0, at.2, at.3), name_target q ranked.target te))
    (λ g. absurd (subst (λ o. IsGiven o ranked) (shape e among) g.1))
    place

fact_of_name : (st : Statement) (q : Value) → HasName st q → (i r w : Value) × IsElementFact st i r (compound (codes "name") (also q none)) w
fact_of_name st q (e, ranked, among, (i, lt, at), is) =
    ((key e), integer (pos (i + 1)), compound [] ranked.weights, (e, i + 1, ranked, among, refl, refl, inl (i, refl, lt, at), ap target_term (sym is), refl))

abbrev name_to : Target → List Value
name_to (For f) = []
name_to (Name q) = q ∷ []

abbrev all_names : Statement → List Value
all_names st = flat_map (λ (e : Ground). flat_map (λ (r : Ranked). name_to r.target) e.ranks) st.elements

in_name : (t : Target) (q : Value) → Contains (name_to t) q → t ≡ Name q
in_name (For f) q c = absurd (nothing_in q c)
in_name (Name p) q c = ⊎_elim (λ e. ap Name e) (λ r. absurd (nothing_in q r)) (first_or_rest p [] q c)

in_names : (st : Statement) (q : Value) → Contains (all_names st) q → HasName st q
in_names st q c =
    let (e, among, h) = in_flat (λ (e : Ground). _) st.elements q c in
    let (r, rank, m) = in_flat (λ (r : Ranked). name_to r.target) e.ranks q h in
    (e, r, among, rank, in_name r.target q m)

to_names : (st : Statement) (q : Value) → HasName st q → Contains (all_names st) q
to_names st q (e, r, among, rank, t) = to_flat _ st.elements e q among (to_flat (λ (r : Ranked). name_to r.target) e.ranks r q rank (subst (λ u. Contains (name_to u) q) (sym t) (here q [])))

pub one_decided : (st : Statement) (relation : Value → Bool) → IsDecided (InOne st relation)
one_decided st relation = decide_as _ _ (λ (q, c, h). (q, in_names st q c, h)) (λ (q, has, h). (q, to_names st q has, h)) (decide_some (all_names st) (λ q. IsTrue (relation q)) (λ q. decide_true (relation q)))

pub all_decided : (st : Statement) (relation : Value → Bool) → IsDecided (InAll st relation)
all_decided st relation = decide_as _ _ (λ f q has. f q (to_names st q has)) (λ f q c. f q (in_names st q c)) (decide_all (all_names st) (λ q. IsTrue (relation q)) (λ q. decide_true (relation q)))

-- ---- rules that stand in several programs

module _ (rules : List Rule) (free : IsFree rules) (st : Statement) (shape : HasNoConditions st) (asked : Asked) (z : AtomSet) (answer : IsAnswerSet rules (IsFact st asked) z) where
  abbrev this : List ℕ → Value
  this name = compound name (also st.name none)

  abbrev names_ : Value → Value
  names_ q = compound (codes "named") (also st.name (also q none))

  named_is : named (codes "named") rules ≡ named_rule ∷ [] → (q : Value) → Tells (z (names_ q)) (HasName st q)
  named_is e q = retell (by_rules rules (IsFact st asked) z answer (names_ q) (λ f. f))
      (λ g deny. let (s, (pe, (qe, end)), ((i, (r, (w, pref))), end2)) = subst (λ rs. Gives z rs (names_ q)) e g in
      (given.element_is rules free st asked z answer (s (codes "P")) i r _ w).1 pref (λ (p, fact). deny (name_of_fact st shape i r q w (subst (λ v. IsElementFact st i r (compound (codes "name") (also v none)) w) (sym qe) fact))))
      (λ has. let (i, r, w, fact) = fact_of_name st q has in
      subst (λ rs. Gives z rs (names_ q)) (sym e) (bind (codes "P") st.name (λ v. q), (refl, (refl, tt)), ((i, (r, (w, (given.element_is rules free st asked z answer st.name i r _ w).0 (refl, fact)))), tt)))

  -- `relation(Q) : named(P,Q)` in a body
  abbrev Each_ : List ℕ → Substitution → Type 0
  Each_ name s = (u : Substitution) → AgreesOn s u (codes "P" ∷ codes "P" ∷ []) → IsTrue (z (compound (codes "named") (also (u (codes "P")) (also (u (codes "Q")) none)))) × Unit {0} → IsTrue (z (compound name (also (u (codes "Q")) none)))

  module _ (named_tells : (q : Value) → Tells (z (names_ q)) (HasName st q)) (name : List ℕ) (relation : Value → Bool) (tells : (q : Value) → Tells (z (compound name (also q none))) (HasName st q × IsTrue (relation q))) where
    each_from : (s : Substitution) → st.name ≡ s (codes "P") → Each_ name s → InAll st relation
    each_from s pe each q has = take (IsTrue (relation q)) (tells q)
        (each (bind (codes "Q") q s) (refl, (refl, tt)) (subst (λ p. IsTrue (z (compound (codes "named") (also p (also q none))))) pe ((named_tells q).0 has), tt)) (settled_true (relation q)) (λ h. h.1)

    each_to : InAll st relation → Each_ name (λ v. st.name)
    each_to all u (pe, agrees) (is, end) = settled_true _ (λ deny. (named_tells (u (codes "Q"))).1 (rw (sym pe) is) (λ has. deny ((tells (u (codes "Q"))).0 (has, all (u (codes "Q")) has))))

  declared : IsTrue (z (compound (codes "preference") (also st.name (also (kind_term st.kind) none))))
  declared = given.declared rules free st asked z answer

  bettereq_is : named (codes "bettereq") rules ≡ either_rules → (better eq : Type 0) → (IsTrue (z (this (codes "better"))) ↔ better) → (IsTrue (z (this (codes "eq"))) ↔ eq) → Tells (z (this (codes "bettereq"))) (better ⊎ eq)
  bettereq_is e better eq better_is eq_is = retell (by_rules rules (IsFact st asked) z answer (this (codes "bettereq")) (λ f. f))
      (λ g deny. deny (⊎_elim
      (λ (s, (pe, end), ((k, pref), (h, end2))). inl (better_is.0 (rw pe h)))
      (λ (s, (pe, end), ((k, pref), (h, end2))). inr (eq_is.0 (rw pe h)))
      (subst (λ rs. Gives z rs (this (codes "bettereq"))) e g)))
      (λ h. subst (λ rs. Gives z rs (this (codes "bettereq"))) (sym e) (⊎_elim
      (λ b. inl (λ v. st.name, (refl, tt), (((kind_term st.kind), declared), (better_is.1 b, tt))))
      (λ b. inr (λ v. st.name, (refl, tt), (((kind_term st.kind), declared), (eq_is.1 b, tt)))) h))

-- ---- the laws

pareto_free : IsFree pareto_rules
pareto_free = record { preference = refl; weight = refl; holds = refl; holds' = refl; better_in = refl; bettereq_in = refl; eq_in = refl; worse_in = refl; worseeq_in = refl; greater = refl; net = refl; state = refl; bit = refl; path = refl }

pub pareto_law : (st : Statement) → HasNoConditions st → (asked : Asked) (z : AtomSet) → IsAnswerSet pareto_rules (IsFact st asked) z
    → Relates st z (InAll st asked.bettereq × InOne st asked.better) (InAll st asked.bettereq) (InAll st asked.eq)
pareto_law st shape asked z answer =
    let names = named_is pareto_rules pareto_free st shape asked z answer refl in
    let facts = IsFact st asked in
    let bettereq_in = given.bettereq_in_is pareto_rules pareto_free st asked z answer in
    let better_in = given.better_in_is pareto_rules pareto_free st asked z answer in
    let eq_in = given.eq_in_is pareto_rules pareto_free st asked z answer in
    let from_ = each_from pareto_rules pareto_free st shape asked z answer names in
    let to_ = each_to pareto_rules pareto_free st shape asked z answer names in
    let told = declared pareto_rules pareto_free st shape asked z answer in
    let bettereq = exactly (retell (by_rules pareto_rules facts z answer (compound (codes "bettereq") (also st.name none)) (λ f. f))
    (λ (s, (pe, end), ((k, pref), (each, end2))) deny. deny (from_ (codes "bettereq_in") asked.bettereq bettereq_in s pe each))
    (λ all. (λ v. st.name, (refl, tt), (((kind_term st.kind), told), (to_ (codes "bettereq_in") asked.bettereq bettereq_in all, tt)))))
    (settled_decided _ (all_decided st asked.bettereq)) in (
      exactly (retell (by_rules pareto_rules facts z answer (compound (codes "better") (also st.name none)) (λ f. f))
          (λ (s, (pe, end), (all, (is, (better, end2)))) deny. (better_in (s (codes "Q"))).1 better (λ b. deny (bettereq.0 (rw pe all), (s (codes "Q"), b.0, b.1))))
          (λ (all, (q, has, b)). (bind (codes "P") st.name (λ v. q), (refl, tt), (bettereq.1 all, ((names q).0 has, ((better_in q).0 (has, b), tt))))))
          (settled_both _ _ (settled_decided _ (all_decided st asked.bettereq)) (settled_decided _ (one_decided st asked.better))),
      bettereq,
      exactly (retell (by_rules pareto_rules facts z answer (compound (codes "eq") (also st.name none)) (λ f. f))
          (λ (s, (pe, end), ((k, pref), (each, end2))) deny. deny (from_ (codes "eq_in") asked.eq eq_in s pe each))
          (λ all. (λ v. st.name, (refl, tt), (((kind_term st.kind), told), (to_ (codes "eq_in") asked.eq eq_in all, tt)))))
          (settled_decided _ (all_decided st asked.eq)),
    )

and_free : IsFree and_rules
and_free = record { preference = refl; weight = refl; holds = refl; holds' = refl; better_in = refl; bettereq_in = refl; eq_in = refl; worse_in = refl; worseeq_in = refl; greater = refl; net = refl; state = refl; bit = refl; path = refl }

pub and_law : (st : Statement) → HasNoConditions st → (asked : Asked) (z : AtomSet) → IsAnswerSet and_rules (IsFact st asked) z
    → Relates st z (InAll st asked.better) (InAll st asked.better ⊎ InAll st asked.eq) (InAll st asked.eq)
and_law st shape asked z answer =
    let names = named_is and_rules and_free st shape asked z answer refl in
    let facts = IsFact st asked in
    let better_in = given.better_in_is and_rules and_free st asked z answer in
    let eq_in = given.eq_in_is and_rules and_free st asked z answer in
    let from_ = each_from and_rules and_free st shape asked z answer names in
    let to_ = each_to and_rules and_free st shape asked z answer names in
    let told = declared and_rules and_free st shape asked z answer in
    let better = exactly (retell (by_rules and_rules facts z answer (compound (codes "better") (also st.name none)) (λ f. f))
    (λ (s, (pe, end), ((k, pref), (each, end2))) deny. deny (from_ (codes "better_in") asked.better better_in s pe each))
    (λ all. (λ v. st.name, (refl, tt), (((kind_term st.kind), told), (to_ (codes "better_in") asked.better better_in all, tt)))))
    (settled_decided _ (all_decided st asked.better)) in
    let eq = exactly (retell (by_rules and_rules facts z answer (compound (codes "eq") (also st.name none)) (λ f. f))
    (λ (s, (pe, end), ((k, pref), (each, end2))) deny. deny (from_ (codes "eq_in") asked.eq eq_in s pe each))
    (λ all. (λ v. st.name, (refl, tt), (((kind_term st.kind), told), (to_ (codes "eq_in") asked.eq eq_in all, tt)))))
    (settled_decided _ (all_decided st asked.eq)) in
    (better, exactly (bettereq_is and_rules and_free st shape asked z answer refl _ _ better eq) (settled_decided _ (decide_either _ _ (all_decided st asked.better) (all_decided st asked.eq))), eq)

neg_free : IsFree neg_rules
neg_free = record { preference = refl; weight = refl; holds = refl; holds' = refl; better_in = refl; bettereq_in = refl; eq_in = refl; worse_in = refl; worseeq_in = refl; greater = refl; net = refl; state = refl; bit = refl; path = refl }

pub neg_law : (st : Statement) → HasNoConditions st → (asked : Asked) (z : AtomSet) → IsAnswerSet neg_rules (IsFact st asked) z
    → Relates st z (InOne st asked.worse) (InOne st asked.worse ⊎ InOne st asked.eq) (InOne st asked.eq)
neg_law st shape asked z answer =
    let facts = IsFact st asked in
    let worse_in = given.worse_in_is neg_rules neg_free st asked z answer in
    let eq_in = given.eq_in_is neg_rules neg_free st asked z answer in
    let element = given.element_is neg_rules neg_free st asked z answer in
    let better = exactly (retell (by_rules neg_rules facts z answer (compound (codes "better") (also st.name none)) (λ f. f))
    (λ (s, (pe, end), (pref, (is, end2))) deny. (worse_in (s (codes "Q"))).1 is (λ h. deny (s (codes "Q"), h.0, h.1)))
    (λ (q, has, h). let (i, r, w, fact) = fact_of_name st q has in (bind (codes "P") st.name (λ v. q), (refl, tt), ((i, (r, (w, (element st.name i r _ w).0 (refl, fact)))), ((worse_in q).0 (has, h), tt)))))
    (settled_decided _ (one_decided st asked.worse)) in
    let eq = exactly (retell (by_rules neg_rules facts z answer (compound (codes "eq") (also st.name none)) (λ f. f))
    (λ (s, (pe, end), (pref, (is, end2))) deny. (eq_in (s (codes "Q"))).1 is (λ h. deny (s (codes "Q"), h.0, h.1)))
    (λ (q, has, h). let (i, r, w, fact) = fact_of_name st q has in (bind (codes "P") st.name (λ v. q), (refl, tt), ((i, (r, (w, (element st.name i r _ w).0 (refl, fact)))), ((eq_in q).0 (has, h), tt)))))
    (settled_decided _ (one_decided st asked.eq)) in
    (better, exactly (bettereq_is neg_rules neg_free st shape asked z answer refl _ _ better eq) (settled_decided _ (decide_either _ _ (one_decided st asked.worse) (one_decided st asked.eq))), eq)
