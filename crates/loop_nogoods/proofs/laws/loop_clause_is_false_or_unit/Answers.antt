use Rattle.std.proofs.Common.{◌≡◌, ◌≢◌, ◌⊎◌, ◌<◌, ℕ, Bool, true, false, Option, Some, None, List, length, get_or, refl, inl, inr, sym, ap, ◌∙◌, subst, ⊎_elim}
use Rattle.std.specs.Ordering.{is_eq}
use Rattle.std.specs.declared.cmp.Ordering.TheVariants.{Less}
use Rattle.std.proofs.lemmas.Bool.{cases_order, false≢true}
use Rattle.std.proofs.lemmas.List.{get_or_default}
use Rattle.std.proofs.lemmas.List.Elements.{Contains-get_or}
use Rattle.theory_form.specs.declared.literals.Lit.{Lit}
use Rattle.theory_form.specs.Literals.{lit_cmp}
use Rattle.theory_form.specs.Order.{lit_ties}
use Rattle.theory_form.specs.Theories.{TheoryView}
use Rattle.theory_form.specs.Truth.{IsFalseClause, IsFalseIn, IsUnitBy, value_of}
use Rattle.theory_model.specs.Loops.{IsExternal, IsLoopClause}
use Rattle.loop_nogoods.specs.Unfounded.{IsUnfounded}
use Rattle.loop_nogoods.proofs.ValidLemmas.{lit_eq_same}
use Rattle.loop_nogoods.proofs.laws.loop_clause_is_false_or_unit.Goals as goal

-- no literal stands before itself
before_itself : (x y z : Lit) → x ≡ z → y ≡ z → lit_cmp x y ≡ Less → ⊥
before_itself x y z p q h =
    let less : lit_cmp z z ≡ Less = ap (λ (l : Lit). lit_cmp l z) (sym p) ∙ (ap (lit_cmp x) (sym q) ∙ h) in
    false≢true (sym (ap is_eq less) ∙ (sym (lit_ties z z) ∙ lit_eq_same z))

module _ (t : TheoryView) (block : ℕ) (a : List (Option Bool)) (u : ℕ → Bool) (unfounded : IsUnfounded t block a u) (v : ℕ) (c : List Lit) (loop : IsLoopClause t u v c) where
  abbrev negation : Lit
  negation = record { var = record { 0 = v }; yes = false }

  is_false : value_of a v ≡ Some true → IsFalseClause a c
  is_false on k d lt = ⊎_elim
      (λ (is : get_or c k d ≡ negation). subst (IsFalseIn a) (sym is) on)
      (λ (ext : IsExternal t u (get_or c k d)). unfounded.supports (get_or c k d) ext)
      ((loop.literals (get_or c k d)).0 (Contains-get_or c k d lt))

  is_unit : value_of a v ≡ None → IsUnitBy a c negation
  is_unit free =
      let here = (loop.literals negation).1 (inl refl) in
      let place : ℕ = here.0 in
      let at : (d : Lit) → get_or c place d ≡ negation = λ d. get_or_default c place d negation here.1 ∙ here.2 in
      record {
        place = place;
        unit = record {
          free = record { within = here.1; holds = λ d. ap (λ (l : Lit). value_of a l.var.0) (at d) ∙ free };
          rest = λ k lt apart. record { within = lt; holds = other place at here.1 k lt apart };
        };
        lit_is = at;
      }
    where
      other : (place : ℕ) → ((d : Lit) → get_or c place d ≡ negation) → place < length c → (k : ℕ) → k < length c → k ≢ place → (d : Lit) → IsFalseIn a (get_or c k d)
      other place at within k lt apart d = ⊎_elim
          (λ (is : get_or c k d ≡ negation). absurd (⊎_elim
          (λ (same : k ≡ place). apart same)
          (λ (order : (k < place) ⊎ (place < k)). ⊎_elim
          (λ (low : k < place). before_itself (get_or c k d) (get_or c place d) negation is (at d) (loop.ascending k place d low within))
          (λ (high : place < k). before_itself (get_or c place d) (get_or c k d) negation (at d) is (loop.ascending place k d high lt))
          order)
          (cases_order k place)))
          (λ (ext : IsExternal t u (get_or c k d)). unfounded.supports (get_or c k d) ext)
          ((loop.literals (get_or c k d)).0 (Contains-get_or c k d lt))

  by_value : (o : Option Bool) → value_of a v ≡ o → o ≢ Some false → IsFalseClause a c ⊎ IsUnitBy a c negation
  by_value None e h = inr (is_unit e)
  by_value (Some true) e h = inl (is_false e)
  by_value (Some false) e h = absurd (h refl)

pub returns : goal.returns
returns c = λ t block a u unfounded v member clause loop.
    by_value t block a u unfounded v clause loop (value_of a v) refl (unfounded.not_false v member)
