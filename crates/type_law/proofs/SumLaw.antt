-- Three rules that compare a sum over two lists of tuples, the one with opposite weights.
use Rattle.std.proofs.Common.{◌≡◌, ◌≢◌, ℕ, ℤ, pos, ◌≤ℤ◌, List, [], ◌∷◌, ◌++◌, map, true, IsTrue, refl, sym, subst, ◌∙◌, Contains, AllPairs}
use Rattle.std.specs.Prelude.{◌↔◌, ◌<ℤ◌, codes, ◌-ℤ◌}
use Rattle.ap_syntax.specs.declared.rules.Function.TheVariants.{Sum}
use Rattle.ap_term.specs.Value.{Value, Values, integer, compound, none, also}
use Rattle.rule_form.specs.AnswerSets.{IsAnswerSet}
use Rattle.rule_form.specs.Trees.{Element}
use Rattle.rule_form.specs.Truth.{AtomSet, weight, total}
use Rattle.rule_form.specs.Values.{Substitution}
use Rattle.rule_form.specs.Unfolded.{NumberIs, CountsIs}
use Rattle.rule_form.proofs.Lists.{in_map, apart_back, apart_append, apart_map, total_append, total_map, total_minus}
use Rattle.rule_form.proofs.Rules.{same, same_itself}
use Rattle.rule_form.proofs.Tells.{retell, exactly, by_rules}
use Rattle.rule_form.proofs.Totals.{Apart, same_total}
use Rattle.type_law.specs.Takes.{Relates}
use Rattle.element_form.specs.Ground.{Statement, kind_term}
use Rattle.element_form.specs.Facts.{Asked, IsFact}
use Rattle.pref_library.specs.Sums.{sum_rules}
use Rattle.type_law.proofs.Given as given
use Rattle.type_law.proofs.Given.{IsFree}
use Rattle.type_law.proofs.Numbers.{settled_lt, settled_le, settled_same, above, equals, less, reaches, not_more, not_below, as_much, nothing_left, sum_up, le_to}

abbrev pub globals : List (List ℕ)
globals = codes "P" ∷ codes "P" ∷ []

-- the tuples: those of the olds add their values, and those of the news take theirs away
module _ {X : Type 0} (value : X → ℤ) (olds news : List X) (old_tuple new_tuple : X → Values) where
  abbrev pub tuples : List Values
  tuples = map old_tuple olds ++ map new_tuple news

  pub tuples_total : ((x : X) → weight (old_tuple x) ≡ value x) → ((x : X) → weight (new_tuple x) ≡ pos 0 -ℤ value x) → total weight tuples ≡ total value olds -ℤ total value news
  tuples_total old_weight new_weight =
      let news_ : total weight (map new_tuple news) ≡ total (λ (x : X). pos 0 -ℤ value x) news = total_map weight (λ (x : X). pos 0 -ℤ value x) new_tuple news (λ x c. new_weight x) in
      sum_up (total weight tuples) (total weight (map old_tuple olds)) (total weight (map new_tuple news)) (total value olds) (total value news)
      (total_append weight (map old_tuple olds) (map new_tuple news)) (total_map weight value old_tuple olds (λ x c. old_weight x))
      (news_ ∙ total_minus (λ (x : X). pos 0 -ℤ value x) value news (λ x c. refl))

  pub tuples_distinct : ((a b : X) → old_tuple a ≡ old_tuple b → a ≡ b) → ((a b : X) → new_tuple a ≡ new_tuple b → a ≡ b) → ((a b : X) → old_tuple a ≡ new_tuple b → ⊥)
      → Apart olds → Apart news → AllPairs (λ t u. t ≢ u) tuples
  tuples_distinct old_injective new_injective differ p q = apart_back tuples (apart_append (map old_tuple olds) (map new_tuple news)
      (apart_map old_tuple old_injective olds p) (apart_map new_tuple new_injective news q)
      (λ t c d. let (a, m, e) = in_map old_tuple olds t c in let (b, k, f) = in_map new_tuple news t d in differ a b (e ∙ sym f)))

-- the rules
module _ (elements : List Element) (free : IsFree (sum_rules elements)) (st : Statement) (asked : Asked) (z : AtomSet) (answer : IsAnswerSet (sum_rules elements) (IsFact st asked) z)
    (those : List Values) (distinct : AllPairs (λ t u. t ≢ u) those) (x y : ℤ) (sum : total weight those ≡ y -ℤ x)
    (counts : (s : Substitution) → st.name ≡ s (codes "P") → (t : Values) → Contains those t ↔ CountsIs globals z s elements t) where
  abbrev this : List ℕ → Value
  this name = compound name (also st.name none)

  number_is : (s : Substitution) (n : ℤ) → st.name ≡ s (codes "P") → NumberIs globals z s Sum elements n → n ≡ y -ℤ x
  number_is s n at c = c.number ∙ (same_total weight c.tuples those c.distinct distinct (λ t. (λ m. (counts s at t).1 ((c.counts t).0 m), λ m. (c.counts t).1 ((counts s at t).0 m))) ∙ sum)

  number_there : NumberIs globals z (λ n. st.name) Sum elements (y -ℤ x)
  number_there = record { tuples = those; distinct = distinct; counts = counts (λ n. st.name) refl; number = sym sum }

  declared : IsTrue (z (compound (codes "preference") (also st.name (also (kind_term st.kind) none))))
  declared = given.declared (sum_rules elements) free st asked z answer

  pub sum_law : Relates st z (x <ℤ y) (x ≤ℤ y) (x ≡ y)
  sum_law = (
    exactly (retell (by_rules (sum_rules elements) (IsFact st asked) z answer (this (codes "better")) (λ f. f))
        (λ (s, (pe, at), ((k, pref), ((n, l, r, number, (v, ve, range, le), re, e), end))) deny. deny (less n x y (number_is s n pe number) (above 1 n v ve l r le re e)))
        (λ h. (λ n. st.name, (refl, tt), (((kind_term st.kind), declared), ((y -ℤ x, true, true, number_there, (integer (pos 1), refl, refl, sym (le_to (pos 1) (y -ℤ x) (reaches x y h))), refl, refl), tt)))))
        (settled_lt x y),
    exactly (retell (by_rules (sum_rules elements) (IsFact st asked) z answer (this (codes "bettereq")) (λ f. f))
        (λ (s, (pe, at), ((k, pref), ((n, l, r, number, (v, ve, range, le), re, e), end))) deny. deny (not_more n x y (number_is s n pe number) (above 0 n v ve l r le re e)))
        (λ h. (λ n. st.name, (refl, tt), (((kind_term st.kind), declared), ((y -ℤ x, true, true, number_there, (integer (pos 0), refl, refl, sym (le_to (pos 0) (y -ℤ x) (not_below x y h))), refl, refl), tt)))))
        (settled_le x y),
    exactly (retell (by_rules (sum_rules elements) (IsFact st asked) z answer (this (codes "eq")) (λ f. f))
        (λ (s, (pe, at), ((k, pref), ((n, l, r, number, (v, ve, range, le), re, e), end))) deny. deny (as_much n x y (number_is s n pe number) (equals 0 n v ve l r le re e)))
        (λ h. (
          λ n. st.name,
          (refl, tt),
          (
            ((kind_term st.kind), declared),
            (
              (
                y -ℤ x,
                true,
                true,
                number_there,
                (integer (pos 0), refl, refl, sym (subst (λ n. IsTrue (same (integer (pos 0)) (integer n))) (nothing_left x y h) (same_itself (integer (pos 0))))),
                refl,
                refl,
              ),
              tt,
            ),
          ),
        )))
        (settled_same x y),
  )
