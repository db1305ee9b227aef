-- The programs of `less(cardinality)` and `more(cardinality)` mean their orders.
use Rattle.std.proofs.Common.{◌≡◌, ℕ, ◌<◌, ◌≤◌, ℤ, pos, ◌≤ℤ◌, List, [], ◌∷◌, length, map, Bool, IsTrue, refl, sym, subst, ap, ap₂, ◌∙◌, ⊎_elim, inl, inr, Contains, arith}
use Rattle.std.specs.Prelude.{◌↔◌, ◌<ℤ◌, codes, ◌-ℤ◌}
use Rattle.std.proofs.lemmas.Bool.{false≢true}
use Rattle.std.proofs.lemmas.Int.{ints}
use Rattle.ap_term.specs.Value.{Value, Values, integer, constant, compound, none, also}
use Rattle.rule_form.specs.AnswerSets.{IsAnswerSet}
use Rattle.rule_form.specs.Truth.{AtomSet, total}
use Rattle.rule_form.specs.Values.{Substitution}
use Rattle.rule_form.specs.Unfolded.{bind, CountsIs}
use Rattle.rule_form.proofs.Lists.{in_append, to_left, to_right, in_map, to_map, in_filter, to_filter, apart_filter}
use Rattle.rule_form.proofs.Rules.{same, same_decides, same_itself}
use Rattle.rule_form.proofs.Tells.{Tells}
use Rattle.rule_form.proofs.Totals.{Apart, settled_in}
use Rattle.type_law.specs.Takes.{HasNoConditions, Relates}
use Rattle.element_form.specs.Ground.{Statement, HasFormula}
use Rattle.element_form.specs.Facts.{Asked, IsAskedFor, IsElementFact, IsFact}
use Rattle.element_form.specs.Satisfied.{same_value, formulas, distinct, satisfied_formulas, count}
use Rattle.pref_library.specs.Sums.{sum_rules, counted, less_cardinality_rules, more_cardinality_rules}
use Rattle.element_form.proofs.Distinct.{first_of, rest_of, number_of, same_values, in_distinct, to_distinct, apart_distinct}
use Rattle.element_form.proofs.Members.{in_formulas, to_formulas}
use Rattle.type_law.proofs.Facts.{rank_of, fact_of}
use Rattle.type_law.proofs.Given as given
use Rattle.type_law.proofs.Given.{IsFree}
use Rattle.type_law.proofs.Numbers.{minus_is, minus_there}
use Rattle.type_law.proofs.SumLaw.{globals, tuples, tuples_total, tuples_distinct, sum_law}

-- ---- formulas

module _ (st : Statement) (sat : Value → Bool) where
  in_satisfied : (f : Value) → Contains (satisfied_formulas st sat) f → HasFormula st f × IsTrue (sat f)
  in_satisfied f c = let h = in_filter sat (distinct same_value (formulas st)) f c in (in_formulas st f (in_distinct same_value same_decides same_itself (formulas st) f h.0), h.1)

  to_satisfied : (f : Value) → HasFormula st f → IsTrue (sat f) → Contains (satisfied_formulas st sat) f
  to_satisfied f h e = to_filter sat (distinct same_value (formulas st)) f (to_distinct same_value same_decides same_itself (formulas st) f (to_formulas st f h)) e

  apart_satisfied : Apart (satisfied_formulas st sat)
  apart_satisfied = apart_filter sat (distinct same_value (formulas st)) (apart_distinct same_value same_decides same_itself (formulas st))

-- ---- tuples

abbrev old_tuple : Value → Values
old_tuple f = also (integer (pos 1)) (also f (also (constant (codes "o")) none))

abbrev new_tuple : Value → Values
new_tuple f = also (integer (pos 0 -ℤ pos 1)) (also f (also (constant (codes "n")) none))

abbrev second : Values → Value
second vs = first_of (rest_of vs)

o_is_not_n : constant (codes "o") ≡ constant (codes "n") → ⊥
o_is_not_n e = false≢true (subst (λ v. IsTrue (same (constant (codes "o")) v)) e (same_itself (constant (codes "o"))))

three_same : {n m f g : Value} (c : Value) → n ≡ m → f ≡ g → also n (also f (also c none)) ≡ also m (also g (also c none))
three_same c e h = cc

abbrev one_each : Value → ℤ
one_each f = pos 1

total_length : (fs : List Value) → total one_each fs ≡ pos (length fs)
total_length [] = refl
total_length (f ∷ fs) = let e : total one_each fs ≡ pos (length fs) = total_length fs in omega (arith, ints)

fewer : (m n : ℕ) → (pos m <ℤ pos n) ↔ (m < n)
fewer m n = (λ h. omega (arith, ints), λ h. omega (arith, ints))

no_more : (m n : ℕ) → (pos m ≤ℤ pos n) ↔ (m ≤ n)
no_more m n = (λ h. omega (arith, ints), λ h. omega (arith, ints))

as_many : (m n : ℕ) → (pos m ≡ pos n) ↔ (m ≡ n)
as_many m n = (λ h. omega (arith, ints), λ h. ap pos h)

then : {A B C : Type 0} → A ↔ B → B ↔ C → A ↔ C
then f g = (λ a. g.0 (f.0 a), λ c. f.1 (g.1 c))

module _ (holds holds' : List ℕ) (free : IsFree (sum_rules (counted holds holds'))) (st : Statement) (shape : HasNoConditions st)
    (asked : Asked) (z : AtomSet) (answer : IsAnswerSet (sum_rules (counted holds holds')) (IsFact st asked) z) (one other : Value → Bool)
    (one_is : (f : Value) → Tells (z (compound holds (also f none))) (IsAskedFor st f × IsTrue (one f)))
    (other_is : (f : Value) → Tells (z (compound holds' (also f none))) (IsAskedFor st f × IsTrue (other f))) where
  abbrev those : List Values
  those = tuples one_each (satisfied_formulas st other) (satisfied_formulas st one) old_tuple new_tuple

  element_is : (p i r t w : Value) → Tells (z (compound (codes "preference") (also p (also i (also r (also t (also w none))))))) ((p ≡ st.name) × IsElementFact st i r t w)
  element_is = given.element_is (sum_rules (counted holds holds')) free st asked z answer

  back : (s : Substitution) (t : Values) → CountsIs globals z s (counted holds holds') t → Contains those t
  back s t (inl (u, agrees, is, ((i, (r, (w, pref))), (held, end)))) = settled_in same_values those t (λ deny.
      (element_is (u (codes "P")) i r _ w).1 pref (λ (pe, fact). (other_is (u (codes "F"))).1 held (λ h.
      deny (subst (Contains those) is (to_left (map old_tuple (satisfied_formulas st other)) (map new_tuple (satisfied_formulas st one)) (old_tuple (u (codes "F")))
      (to_map old_tuple (satisfied_formulas st other) (u (codes "F")) (to_satisfied st other (u (codes "F")) (rank_of st shape i r (u (codes "F")) w fact) h.1)))))))
  back s t (inr (inl (u, agrees, (v, (a, b, c, ae, be, ce, ve), is), ((i, (r, (w, pref))), (held, end))))) = settled_in same_values those t (λ deny.
      (element_is (u (codes "P")) i r _ w).1 pref (λ (pe, fact). (one_is (u (codes "F"))).1 held (λ h.
      let value : v ≡ integer (pos 0 -ℤ pos 1) = ve ∙ ap integer (minus_is a b c ce ∙ ap₂ (λ x y. x -ℤ y) (ap number_of ae) (ap number_of be)) in
      deny (subst (Contains those) (three_same (constant (codes "n")) (sym value) refl ∙ is) (to_right (map old_tuple (satisfied_formulas st other)) (map new_tuple (satisfied_formulas st one)) (new_tuple (u (codes "F")))
      (to_map new_tuple (satisfied_formulas st one) (u (codes "F")) (to_satisfied st one (u (codes "F")) (rank_of st shape i r (u (codes "F")) w fact) h.1)))))))
  back s t (inr (inr h)) = absurd h

  there : (s : Substitution) → st.name ≡ s (codes "P") → (t : Values) → Contains those t → CountsIs globals z s (counted holds holds') t
  there s at t c = ⊎_elim
      (λ h. let (f, m, e) = in_map old_tuple (satisfied_formulas st other) t h in
      let (has, sat) = in_satisfied st other f m in
      let (i, r, w, fact) = fact_of st f has in
      inl (bind (codes "P") st.name (λ n. f), (at, (at, tt)), e, ((i, (r, (w, (element_is st.name i r _ w).0 (refl, fact)))), ((other_is f).0 (inl has, sat), tt))))
      (λ h. let (f, m, e) = in_map new_tuple (satisfied_formulas st one) t h in
      let (has, sat) = in_satisfied st one f m in
      let (i, r, w, fact) = fact_of st f has in
      inr (inl (
        bind (codes "P") st.name (λ n. f),
        (at, (at, tt)),
        (integer (pos 0 -ℤ pos 1), (pos 0, pos 1, pos 0 -ℤ pos 1, refl, refl, minus_there (pos 1) refl, refl), e),
        ((i, (r, (w, (element_is st.name i r _ w).0 (refl, fact)))), ((one_is f).0 (inl has, sat), tt)),
      )))
      (in_append (map old_tuple (satisfied_formulas st other)) (map new_tuple (satisfied_formulas st one)) t c)

  pub law : Relates st z (count st one < count st other) (count st one ≤ count st other) (count st one ≡ count st other)
  law =
      let olds = satisfied_formulas st other in let news = satisfied_formulas st one in
      let sums = sum_law (counted holds holds') free st asked z answer those
      (tuples_distinct one_each olds news old_tuple new_tuple (λ f g e. ap second e) (λ f g e. ap second e) (λ f g e. o_is_not_n (ap (λ vs. second (rest_of vs)) e)) (apart_satisfied st other) (apart_satisfied st one))
      (pos (count st one)) (pos (count st other))
      (tuples_total one_each olds news old_tuple new_tuple (λ f. refl) (λ f. refl) ∙ ap₂ (λ x y. x -ℤ y) (total_length olds) (total_length news))
      (λ s at t. (there s at t, back s t)) in
      (then sums.0 (fewer (count st one) (count st other)), then sums.1 (no_more (count st one) (count st other)), then sums.2 (as_many (count st one) (count st other)))

less_free : IsFree less_cardinality_rules
less_free = record { preference = refl; weight = refl; holds = refl; holds' = refl; better_in = refl; bettereq_in = refl; eq_in = refl; worse_in = refl; worseeq_in = refl; greater = refl; net = refl; state = refl; bit = refl; path = refl }

more_free : IsFree more_cardinality_rules
more_free = record { preference = refl; weight = refl; holds = refl; holds' = refl; better_in = refl; bettereq_in = refl; eq_in = refl; worse_in = refl; worseeq_in = refl; greater = refl; net = refl; state = refl; bit = refl; path = refl }

pub less_cardinality_law : (st : Statement) → HasNoConditions st → (asked : Asked) (z : AtomSet) → IsAnswerSet less_cardinality_rules (IsFact st asked) z
    → Relates st z (count st asked.new < count st asked.old) (count st asked.new ≤ count st asked.old) (count st asked.new ≡ count st asked.old)
less_cardinality_law st shape asked z answer = law (codes "holds") (codes "holds'") less_free st shape asked z answer asked.new asked.old
    (given.new_is less_cardinality_rules less_free st asked z answer) (given.old_is less_cardinality_rules less_free st asked z answer)

pub more_cardinality_law : (st : Statement) → HasNoConditions st → (asked : Asked) (z : AtomSet) → IsAnswerSet more_cardinality_rules (IsFact st asked) z
    → Relates st z (count st asked.old < count st asked.new) (count st asked.old ≤ count st asked.new) (count st asked.old ≡ count st asked.new)
more_cardinality_law st shape asked z answer = law (codes "holds'") (codes "holds") more_free st shape asked z answer asked.old asked.new
    (given.old_is more_cardinality_rules more_free st asked z answer) (given.new_is more_cardinality_rules more_free st asked z answer)
