-- The programs of `less(weight)` and `more(weight)` mean their orders.
use Rattle.std.proofs.Common.{◌≡◌, ℕ, ◌+◌, ℤ, pos, ◌≤ℤ◌, List, [], map, Bool, IsTrue, refl, sym, subst, ap, ap₂, ◌∙◌, ⊎_elim, inl, inr, Contains}
use Rattle.std.specs.Prelude.{◌<ℤ◌, codes, ◌-ℤ◌}
use Rattle.std.proofs.lemmas.Bool.{false≢true}
use Rattle.ap_term.specs.Arithmetic.{is_integer}
use Rattle.ap_term.specs.Value.{Value, Values, integer, constant, compound, none, also}
use Rattle.rule_form.specs.AnswerSets.{IsAnswerSet}
use Rattle.rule_form.specs.Truth.{AtomSet, weight}
use Rattle.rule_form.specs.Values.{Substitution}
use Rattle.rule_form.specs.Unfolded.{bind, CountsIs}
use Rattle.rule_form.proofs.Lists.{in_append, to_left, to_right, in_map, to_map, in_flat, to_flat, in_filter, to_filter, apart_filter}
use Rattle.rule_form.proofs.Rules.{same, same_decides, same_itself}
use Rattle.rule_form.proofs.Tells.{Tells}
use Rattle.rule_form.proofs.Totals.{Apart, settled_in}
use Rattle.rule_form.proofs.Unfolds.{here, first_or_rest, nothing_in}
use Rattle.type_law.specs.Takes.{HasNoConditions, Relates, HasIntegerWeights}
use Rattle.element_form.specs.Ground.{Statement, Ground, Ranked, Target, For, Name, HasFormula, key}
use Rattle.element_form.specs.Facts.{Asked, target_term, IsAskedFor, IsElementFact, IsWeight, IsFact}
use Rattle.element_form.specs.Satisfied.{Pair, pair_value, same_pair, pair_to, pairs, distinct, satisfied_pairs, weight_sum}
use Rattle.pref_library.specs.Sums.{sum_rules, weighted, less_weight_rules, more_weight_rules}
use Rattle.element_form.proofs.Distinct.{arguments_of, first_of, rest_of, number_of, same_values, in_distinct, to_distinct, apart_distinct}
use Rattle.type_law.proofs.Facts.{no_condition, for_target}
use Rattle.type_law.proofs.Given as given
use Rattle.type_law.proofs.Given.{IsFree}
use Rattle.type_law.proofs.Numbers.{minus_is, minus_there}
use Rattle.type_law.proofs.SumLaw.{globals, tuples, tuples_total, tuples_distinct, sum_law}

-- ---- pairs

pair_from : (p q : Pair) → p.weights ≡ q.weights → p.formula ≡ q.formula → p ≡ q
pair_from p q e f = ap₂ (λ (w : Values) (g : Value). record { weights = w; formula = g }) e f

pair_same : (p q : Pair) → IsTrue (same_pair p q) → p ≡ q
pair_same p q e = let s = same_decides (pair_value p) (pair_value q) e in
    pair_from p q (ap (λ v. arguments_of (first_of (arguments_of v))) s) (ap (λ v. first_of (rest_of (arguments_of v))) s)

pair_itself : (p : Pair) → IsTrue (same_pair p p)
pair_itself p = same_itself (pair_value p)

abbrev HasPair : Statement → Pair → Type 0
HasPair st p = (e : Ground) × (r : Ranked) × Contains st.elements e × Contains e.ranks r × (r.weights ≡ p.weights) × (r.target ≡ For p.formula)

in_pair : (w : Values) (t : Target) (p : Pair) → Contains (pair_to w t) p → (w ≡ p.weights) × (t ≡ For p.formula)
in_pair w (For f) p c = ⊎_elim (λ e. (ap (λ (q : Pair). q.weights) e, ap (λ (q : Pair). For q.formula) e)) (λ r. absurd (nothing_in p r)) (first_or_rest (record { weights = w; formula = f }) [] p c)
in_pair w (Name q) p c = absurd (nothing_in p c)

in_pairs : (st : Statement) (p : Pair) → Contains (pairs st) p → HasPair st p
in_pairs st p c =
    let (e, among, h) = in_flat (λ (e : Ground). _) st.elements p c in
    let (r, rank, q) = in_flat (λ (r : Ranked). pair_to r.weights r.target) e.ranks p h in
    let both = in_pair r.weights r.target p q in
    (e, r, among, rank, both.0, both.1)

to_pairs : (st : Statement) (p : Pair) → HasPair st p → Contains (pairs st) p
to_pairs st p (e, r, among, rank, w, t) = to_flat _ st.elements e p among (to_flat (λ (r : Ranked). pair_to r.weights r.target) e.ranks r p rank
    (subst (λ u. Contains (pair_to r.weights u) p) (sym t) (subst (λ v. Contains (pair_to v (For p.formula)) p) (sym w) (here p []))))

module _ (st : Statement) (sat : Value → Bool) where
  in_satisfied : (p : Pair) → Contains (satisfied_pairs st sat) p → HasPair st p × IsTrue (sat p.formula)
  in_satisfied p c = let h = in_filter (λ (p : Pair). sat p.formula) (distinct same_pair (pairs st)) p c in (in_pairs st p (in_distinct same_pair pair_same pair_itself (pairs st) p h.0), h.1)

  to_satisfied : (p : Pair) → HasPair st p → IsTrue (sat p.formula) → Contains (satisfied_pairs st sat) p
  to_satisfied p h e = to_filter (λ (p : Pair). sat p.formula) (distinct same_pair (pairs st)) p (to_distinct same_pair pair_same pair_itself (pairs st) p (to_pairs st p h)) e

  apart_satisfied : Apart (satisfied_pairs st sat)
  apart_satisfied = apart_filter (λ (p : Pair). sat p.formula) (distinct same_pair (pairs st)) (apart_distinct same_pair pair_same pair_itself (pairs st))

-- ---- tuples

abbrev old_tuple : Pair → Values
old_tuple p = also (integer (weight p.weights)) (also (compound [] p.weights) (also p.formula (also (constant (codes "o")) none)))

abbrev new_tuple : Pair → Values
new_tuple p = also (integer (pos 0 -ℤ weight p.weights)) (also (compound [] p.weights) (also p.formula (also (constant (codes "n")) none)))

abbrev second : Values → Value
second vs = first_of (rest_of vs)

abbrev third : Values → Value
third vs = second (rest_of vs)

o_is_not_n : constant (codes "o") ≡ constant (codes "n") → ⊥
o_is_not_n e = false≢true (subst (λ v. IsTrue (same (constant (codes "o")) v)) e (same_itself (constant (codes "o"))))

four_same : {n m w x f g : Value} (c : Value) → n ≡ m → w ≡ x → f ≡ g → also n (also w (also f (also c none))) ≡ also m (also x (also g (also c none)))
four_same c e d h = cc

module _ (holds holds' : List ℕ) (free : IsFree (sum_rules (weighted holds holds'))) (st : Statement) (shape : HasNoConditions st) (integers : HasIntegerWeights st)
    (asked : Asked) (z : AtomSet) (answer : IsAnswerSet (sum_rules (weighted holds holds')) (IsFact st asked) z) (one other : Value → Bool)
    (one_is : (f : Value) → Tells (z (compound holds (also f none))) (IsAskedFor st f × IsTrue (one f)))
    (other_is : (f : Value) → Tells (z (compound holds' (also f none))) (IsAskedFor st f × IsTrue (other f))) where
  abbrev those : List Values
  those = tuples (λ (p : Pair). weight p.weights) (satisfied_pairs st other) (satisfied_pairs st one) old_tuple new_tuple

  element_is : (p i r t w : Value) → Tells (z (compound (codes "preference") (also p (also i (also r (also t (also w none))))))) ((p ≡ st.name) × IsElementFact st i r t w)
  element_is = given.element_is (sum_rules (weighted holds holds')) free st asked z answer

  weight_is : (w n : Value) → Tells (z (compound (codes "weight") (also w (also n none)))) (IsWeight st (also w (also n none)))
  weight_is = given.weight_is (sum_rules (weighted holds holds')) free st asked z answer

  -- a fact on a formula with a weight: the pair, and the weight is the first of its weights
  pair_of : (p i r f w n : Value) → IsTrue (z (compound (codes "preference") (also p (also i (also r (also (compound (codes "for") (also f none)) (also w none))))))) → IsTrue (z (compound (codes "weight") (also w (also n none))))
      → ((q : Pair) → HasPair st q → q.formula ≡ f → compound [] q.weights ≡ w → n ≡ integer (weight q.weights) → ⊥) → ⊥
  pair_of p i r f w n pref weigh g =
      (element_is p i r _ w).1 pref (λ (pe, (e, k, ranked, among, ie, re, place, target, we)).
      (weight_is w n).1 weigh (λ (e2, ranked2, rest2, among2, place2, is2, we2).
      ⊎_elim
      (λ at. let rank : Contains e.ranks ranked = (at.0, at.2, at.3) in
      let (m, rest, is, fits) = integers e ranked among rank in
      let first : integer (weight ranked.weights) ≡ first_of ranked.weights = subst (λ vs. integer (weight vs) ≡ first_of vs) (sym is) refl in
      let same_weights : ranked2.weights ≡ ranked.weights = ap arguments_of (sym we2 ∙ we) in
      let n_is : n ≡ first_of ranked.weights = sym (ap first_of is2) ∙ ap first_of same_weights in
      g (record { weights = ranked.weights; formula = f }) (e, ranked, among, rank, refl, for_target f ranked.target target) refl (sym we) (n_is ∙ sym first))
      (λ c. no_condition st shape f (e, ranked, among, c.1, for_target f ranked.target target))
      place))

  -- and the facts of a pair
  facts_of : (q : Pair) → HasPair st q → (i r : Value) × IsTrue (z (compound (codes "preference") (also st.name (also i (also r (also (compound (codes "for") (also q.formula none)) (also (compound [] q.weights) none)))))))
      × IsTrue (z (compound (codes "weight") (also (compound [] q.weights) (also (integer (weight q.weights)) none)))) × HasFormula st q.formula × IsTrue (is_integer (weight q.weights))
  facts_of q (e, ranked, among, rank, we, target) =
      let (m, rest, is, fits) = integers e ranked among rank in
      let (k, lt, at) = rank in
      let w_is : q.weights ≡ also (integer m) rest = sym we ∙ is in
      let first : also (integer m) rest ≡ also (integer (weight q.weights)) rest = ap (λ vs. also (integer (weight vs)) rest) (sym w_is) in (
        (key e),
        integer (pos (k + 1)),
        (element_is st.name (key e) (integer (pos (k + 1))) _ (compound [] q.weights)).0 (refl, (e, k + 1, ranked, among, refl, refl, inl (k, refl, lt, at), ap target_term (sym target), ap (compound []) (sym we))),
        (weight_is (compound [] q.weights) (integer (weight q.weights))).0 (e, ranked, rest, among, inl rank, is ∙ first, ap (compound []) (sym we)),
        (e, ranked, among, rank, target),
        subst (λ vs. IsTrue (is_integer (weight vs))) (sym w_is) fits,
      )

  back : (s : Substitution) (t : Values) → CountsIs globals z s (weighted holds holds') t → Contains those t
  back s t (inl (u, agrees, is, ((i, (r, pref)), (weigh, (held, end))))) = settled_in same_values those t (λ deny.
      pair_of (u (codes "P")) i r (u (codes "F")) (u (codes "W")) (u (codes "N")) pref weigh (λ q has fe we ne. (other_is (u (codes "F"))).1 held (λ h.
      deny (subst (Contains those) (four_same (constant (codes "o")) (sym ne) we fe ∙ is)
      (to_left (map old_tuple (satisfied_pairs st other)) (map new_tuple (satisfied_pairs st one)) (old_tuple q) (to_map old_tuple (satisfied_pairs st other) q (to_satisfied st other q has (subst (λ f. IsTrue (other f)) (sym fe) h.1))))))))
  back s t (inr (inl (u, agrees, (v, (a, b, c, ae, be, ce, ve), is), ((i, (r, pref)), (weigh, (held, end)))))) = settled_in same_values those t (λ deny.
      pair_of (u (codes "P")) i r (u (codes "F")) (u (codes "W")) (u (codes "N")) pref weigh (λ q has fe we ne. (one_is (u (codes "F"))).1 held (λ h.
      let value : v ≡ integer (pos 0 -ℤ weight q.weights) = ve ∙ ap integer (minus_is a b c ce ∙ ap₂ (λ x y. x -ℤ y) (ap number_of ae) (ap number_of (be ∙ ne))) in
      deny (subst (Contains those) (four_same (constant (codes "n")) (sym value) we fe ∙ is)
      (to_right (map old_tuple (satisfied_pairs st other)) (map new_tuple (satisfied_pairs st one)) (new_tuple q) (to_map new_tuple (satisfied_pairs st one) q (to_satisfied st one q has (subst (λ f. IsTrue (one f)) (sym fe) h.1))))))))
  back s t (inr (inr h)) = absurd h

  there : (s : Substitution) → st.name ≡ s (codes "P") → (t : Values) → Contains those t → CountsIs globals z s (weighted holds holds') t
  there s at t c = ⊎_elim
      (λ h. let (q, m, e) = in_map old_tuple (satisfied_pairs st other) t h in
      let (has, sat) = in_satisfied st other q m in
      let (i, r, pref, weigh, formula, fits) = facts_of q has in
      let u : Substitution = bind (codes "P") st.name (bind (codes "F") q.formula (bind (codes "W") (compound [] q.weights) (λ n. integer (weight q.weights)))) in
      inl (u, (at, (at, tt)), e, ((i, (r, pref)), (weigh, ((other_is q.formula).0 (inl formula, sat), tt)))))
      (λ h. let (q, m, e) = in_map new_tuple (satisfied_pairs st one) t h in
      let (has, sat) = in_satisfied st one q m in
      let (i, r, pref, weigh, formula, fits) = facts_of q has in
      let u : Substitution = bind (codes "P") st.name (bind (codes "F") q.formula (bind (codes "W") (compound [] q.weights) (λ n. integer (weight q.weights)))) in
      inr (inl (
        u,
        (at, (at, tt)),
        (integer (pos 0 -ℤ weight q.weights), (pos 0, weight q.weights, pos 0 -ℤ weight q.weights, refl, refl, minus_there (weight q.weights) fits, refl), e),
        ((i, (r, pref)), (weigh, ((one_is q.formula).0 (inl formula, sat), tt))),
      )))
      (in_append (map old_tuple (satisfied_pairs st other)) (map new_tuple (satisfied_pairs st one)) t c)

  pub law : Relates st z (weight_sum st one <ℤ weight_sum st other) (weight_sum st one ≤ℤ weight_sum st other) (weight_sum st one ≡ weight_sum st other)
  law =
      let value : Pair → ℤ = λ p. weight p.weights in
      sum_law (weighted holds holds') free st asked z answer those
      (tuples_distinct value (satisfied_pairs st other) (satisfied_pairs st one) old_tuple new_tuple
      (λ p q e. pair_from p q (ap (λ vs. arguments_of (second vs)) e) (ap third e)) (λ p q e. pair_from p q (ap (λ vs. arguments_of (second vs)) e) (ap third e))
      (λ p q e. o_is_not_n (ap (λ vs. third (rest_of vs)) e)) (apart_satisfied st other) (apart_satisfied st one))
      (weight_sum st one) (weight_sum st other)
      (tuples_total value (satisfied_pairs st other) (satisfied_pairs st one) old_tuple new_tuple (λ p. refl) (λ p. refl))
      (λ s at t. (there s at t, back s t))

less_free : IsFree less_weight_rules
less_free = record { preference = refl; weight = refl; holds = refl; holds' = refl; better_in = refl; bettereq_in = refl; eq_in = refl; worse_in = refl; worseeq_in = refl; greater = refl; net = refl; state = refl; bit = refl; path = refl }

more_free : IsFree more_weight_rules
more_free = record { preference = refl; weight = refl; holds = refl; holds' = refl; better_in = refl; bettereq_in = refl; eq_in = refl; worse_in = refl; worseeq_in = refl; greater = refl; net = refl; state = refl; bit = refl; path = refl }

pub less_weight_law : (st : Statement) → HasNoConditions st → HasIntegerWeights st → (asked : Asked) (z : AtomSet) → IsAnswerSet less_weight_rules (IsFact st asked) z
    → Relates st z (weight_sum st asked.new <ℤ weight_sum st asked.old) (weight_sum st asked.new ≤ℤ weight_sum st asked.old) (weight_sum st asked.new ≡ weight_sum st asked.old)
less_weight_law st shape integers asked z answer = law (codes "holds") (codes "holds'") less_free st shape integers asked z answer asked.new asked.old
    (given.new_is less_weight_rules less_free st asked z answer) (given.old_is less_weight_rules less_free st asked z answer)

pub more_weight_law : (st : Statement) → HasNoConditions st → HasIntegerWeights st → (asked : Asked) (z : AtomSet) → IsAnswerSet more_weight_rules (IsFact st asked) z
    → Relates st z (weight_sum st asked.old <ℤ weight_sum st asked.new) (weight_sum st asked.old ≤ℤ weight_sum st asked.new) (weight_sum st asked.old ≡ weight_sum st asked.new)
more_weight_law st shape integers asked z answer = law (codes "holds'") (codes "holds") more_free st shape integers asked z answer asked.old asked.new
    (given.old_is more_weight_rules more_free st asked z answer) (given.new_is more_weight_rules more_free st asked z answer)
