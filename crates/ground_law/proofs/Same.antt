-- The same instance, but for values of variables that are not global, holds alike.
use Rattle.std.proofs.Common.{ℕ, List, Contains, sym, subst, ◌∙◌, ⊎_elim, inl, inr}
use Rattle.ap_term.specs.Value.{Value}
use Rattle.rule_form.specs.Instances.{Instance, GuardedAggregate, GuardedHolds}
use Rattle.rule_form.specs.Relevant.{Stands, IsAsked, IsBarred}
use Rattle.ground_law.proofs.Bodies.{HoldsIn}
use Rattle.rule_form.specs.Globals.{Agrees, global_variables}
use Rattle.rule_form.specs.Possible.{Setting}
use Rattle.rule_form.specs.Trees.{Literal, Pos, Not, Compare, Each, Rule}
use Rattle.rule_form.specs.Truth.{AtomSet, In, Out}
use Rattle.rule_form.specs.Values.{Substitution}
use Rattle.rule_form.specs.Instances.{IsSame}

pub agrees_back : (names : List (List ℕ)) (s t u : Substitution) → Agrees names s t → Agrees names t u → Agrees names s u
agrees_back names s t u f h = λ k d lt. h k d lt ∙ f k d lt

pub agrees_on : (names : List (List ℕ)) (s t u : Substitution) → Agrees names s t → Agrees names s u → Agrees names t u
agrees_on names s t u f h = λ k d lt. h k d lt ∙ sym (f k d lt)

use_values : (names : List (List ℕ)) (has lacks : Value → Type 0) (s t : Substitution) → Agrees names s t → (u : GuardedAggregate) → GuardedHolds names has lacks s u → GuardedHolds names has lacks t u
use_values names has lacks s t same u (n, c, e) = (
  n,
  record {
    tuples = c.tuples;
    distinct = c.distinct;
    counts = λ v. (
      λ m. let (el, w, among, agrees, is, h) = (c.counts v).0 m in (el, w, among, agrees_on names s t w same agrees, is, h),
      λ (el, w, among, agrees, is, h). (c.counts v).1 (el, w, among, agrees_back names s t w same agrees, is, h),
    );
    number = c.number;
  },
  e,
)

module _ (st : Setting) (i j : Instance) (same : IsSame i j) where
  stands_back : (u : Substitution) (l : Literal) → Stands st j u l → Stands st i u l
  stands_back u l (c, m, agrees, sure) = (
    c,
    subst (λ (r : Rule). Contains r.body (Each l c)) (sym same.rule) m,
    agrees_back (global_variables i.rule) i.values j.values u same.values (subst (λ (r : Rule). Agrees (global_variables r) j.values u) (sym same.rule) agrees),
    sure,
  )

  pub asked_back : (b : Value) → IsAsked st j b → IsAsked st i b
  asked_back b = ⊎_elim (λ m. inl (subst (λ l. Contains l b) (sym same.positive) m)) (λ (atom, u, stands, is). inr (atom, u, stands_back u (Pos atom) stands, is))

  pub barred_back : (b : Value) → IsBarred st j b → IsBarred st i b
  barred_back b = ⊎_elim (λ m. inl (subst (λ l. Contains l b) (sym same.negative) m)) (λ (atom, u, stands, is). inr (atom, u, stands_back u (Not atom) stands, is))

  pub same_holds : (x y : AtomSet) → HoldsIn st x y i → HoldsIn st x y j
  same_holds x y h = record {
    asked = λ b a. h.asked b (asked_back b a);
    barred = λ b a. h.barred b (barred_back b a);
    compared = λ u l rel r v w stands. h.compared u l rel r v w (stands_back u (Compare l rel r) stands);
    aggregates = λ u m. subst (λ (r : Rule). GuardedHolds (global_variables r) (In x) (Out x) j.values u) same.rule
        (use_values (global_variables i.rule) (In x) (Out x) i.values j.values same.values u (h.aggregates u (subst (λ l. Contains l u) (sym same.aggregates) m)));
  }
