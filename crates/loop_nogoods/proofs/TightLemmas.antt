-- A tight program has no unfounded set where its atoms are supported.
use Rattle.std.proofs.Common.{◌≡◌, ◌≢◌, ℕ, zero, suc, ◌<◌, ◌⊎◌, Bool, true, false, not, Option, Some, None, List, get_or, sym, ap, ◌∙◌, subst, arith, ⊎_elim}
use Rattle.std.specs.Prelude.{IsTrue}
use Rattle.std.specs.List.{Contains}
use Rattle.std.proofs.lemmas.Bool.{and_parts, cases_Bool, false≢true}
use Rattle.std.proofs.lemmas.List.Elements.{Contains-get_or}
use Rattle.std.proofs.lemmas.List.Folds.{Any-from_list_any}
use Rattle.theory_form.specs.declared.literals.Lit.{Lit}
use Rattle.theory_form.specs.declared.rows.BodyRow.{BodyRow}
use Rattle.std.specs.declared.cmp.Ordering.TheVariants.{Less, Greater}
use Rattle.std.specs.Ordering.{ordering_reverse}
use Rattle.theory_form.specs.Literals.{IsAscending, lit_cmp}
use Rattle.theory_form.specs.Order.{lit_total}
use Rattle.theory_form.specs.Theories.{TheoryView, body_of, supports_of}
use Rattle.theory_form.specs.Truth.{IsFalseIn, IsFreeIn, IsSettled, IsTrueIn, TrueAt, TwoFree, value_of}
use Rattle.theory_model.specs.Loops.{is_internal, is_positive_in, rests_on}
use Rattle.loop_nogoods.specs.Bodies.{lits_in, support_lits}
use Rattle.loop_nogoods.specs.Tight.{AreClausesSettled, AreSupported, HasSupportClauses, IsTight}
use Rattle.loop_nogoods.specs.Unfounded.{IsUnfounded}
use Rattle.loop_nogoods.proofs.SupportLemmas.{supports_from}

-- a body that rests on a set has a member of it
member_of_body : (u : ℕ → Bool) (o : Option BodyRow) → IsTrue (rests_on u o) → (l : Lit) × Contains (lits_in o) l × IsTrue l.yes × IsTrue (u l.var.0)
member_of_body u None h = absurd (false≢true h)
member_of_body u (Some row) h =
    let some = Any-from_list_any (is_positive_in u) row.lits h in
    let l : Lit = some.1 in
    let parts = and_parts l.yes (u l.var.0) some.4 in
    (l, (some.0, some.2, some.3), parts.0, parts.1)

module _ (t : TheoryView) (block : ℕ) (a : List (Option Bool)) (tight : IsTight t block) (supported : AreSupported t block a) (u : ℕ → Bool) (unfounded : IsUnfounded t block a u) where
  none_below : (n v : ℕ) → IsTrue (u v) → tight.0 v < n → ⊥
  none_below zero v on lt = omega arith
  none_below (suc n) v on lt =
      let atom = unfounded.atoms v on in
      let some = supported v atom (unfounded.not_false v on) in
      let s : Lit = some.0 in
      ⊎_elim
      (λ (inside : is_internal t u s ≡ true).
      let parts = and_parts s.yes (rests_on u (body_of t s.var.0)) inside in
      let m = member_of_body u (body_of t s.var.0) parts.1 in
      let lower = tight.1 v s m.0 atom some.1 parts.0 m.1 m.2 (unfounded.atoms m.0.var.0 m.3) in
      none_below n m.0.var.0 m.3 (omega arith))
      (λ (outside : is_internal t u s ≡ false). some.2 (unfounded.supports s (v, on, supports_from (supports_of t v) s some.1, outside)))
      (cases_Bool (is_internal t u s))

  pub tight_has_none : ⊥
  tight_has_none = none_below (suc (tight.0 unfounded.some.0)) unfounded.some.0 unfounded.some.1 (omega arith)

true_not_false : (a : List (Option Bool)) (l : Lit) → IsTrueIn a l → IsFalseIn a l → ⊥
true_not_false a l on off = apart l.yes (sym on ∙ off)
  where
    apart : (b : Bool) → Some b ≡ Some (not b) → ⊥
    apart true e = cc
    apart false e = cc

free_not_false : (a : List (Option Bool)) (l : Lit) → IsFreeIn a l → IsFalseIn a l → ⊥
free_not_false a l free off = let e : None ≡ Some (not l.yes) = sym free ∙ off in cc

-- a literal is not before itself
not_before_itself : (l : Lit) → lit_cmp l l ≡ Less → ⊥
not_before_itself l h = let e : Less ≡ Greater = sym h ∙ (lit_total.antisymm l l ∙ ap ordering_reverse h) in cc

module _ (t : TheoryView) (a : List (Option Bool)) (v : ℕ) (atom : value_of a v ≢ Some false) (c : List Lit) (ascending : IsAscending c) (literals : (l : Lit) → Contains c l → (l ≡ record { var = record { 0 = v }; yes = false }) ⊎ Contains (support_lits t v) l) where
  abbrev but : Lit
  but = record { var = record { 0 = v }; yes = false }

  from_true : (i : ℕ) → TrueAt a c i → (s : Lit) × Contains (support_lits t v) s × (IsFalseIn a s → ⊥)
  from_true i on =
      let l : Lit = get_or c i but in
      let holds : IsTrueIn a l = on.holds but in
      ⊎_elim
      (λ (is : l ≡ but). absurd (atom (subst (IsTrueIn a) is holds)))
      (λ (support : Contains (support_lits t v) l). (l, support, true_not_false a l holds))
      (literals l (Contains-get_or c i but on.within))

  from_free : (i j : ℕ) → TwoFree a c i j → (s : Lit) × Contains (support_lits t v) s × (IsFalseIn a s → ⊥)
  from_free i j two =
      let first : Lit = get_or c i but in
      let second : Lit = get_or c j but in
      ⊎_elim
      (λ (is : first ≡ but). ⊎_elim
      (λ (too : second ≡ but).
      absurd (not_before_itself but (subst (λ l. lit_cmp l but ≡ Less) is (subst (λ l. lit_cmp first l ≡ Less) too (ascending i j but two.before two.second.within)))))
      (λ (support : Contains (support_lits t v) second). (second, support, free_not_false a second (two.second.holds but)))
      (literals second (Contains-get_or c j but two.second.within)))
      (λ (support : Contains (support_lits t v) first). (first, support, free_not_false a first (two.first.holds but)))
      (literals first (Contains-get_or c i but two.first.within))

  from_settled : IsSettled a c → (s : Lit) × Contains (support_lits t v) s × (IsFalseIn a s → ⊥)
  from_settled settled = ⊎_elim
      (λ (on : (i : ℕ) × TrueAt a c i). from_true on.0 on.1)
      (λ (free : (i j : ℕ) × TwoFree a c i j). from_free free.0 free.1 free.2)
      settled

pub supported_from_clauses : (t : TheoryView) (block : ℕ) (a : List (Option Bool)) → HasSupportClauses t block → AreClausesSettled t a → AreSupported t block a
supported_from_clauses t block a has settled v atom not_false =
    let clause = has v atom in
    from_settled t a v not_false clause.1 clause.3 clause.4 (settled clause.0 clause.1 clause.2)
