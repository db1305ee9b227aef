-- Where nothing is answered, each implied clause is settled.
use Rattle.std.proofs.Common.{◌≡◌, ℕ, ◌==◌, ℤ, pos, ◌≤ℤ◌, ◌<ℤ◌, Bool, true, false, not, cond, ◌⊎◌, ⊎_elim, List, [], ◌∷◌, refl, sym, ap, subst, ◌∙◌, arith}
use Rattle.std.specs.Prelude.{Option, Some, None, Contains, All}
use mathlib.Core.Path.{fun_ext}
use Rattle.std.proofs.lemmas.Int.{ints}
use Rattle.std.proofs.lemmas.Bool.{eqb-true}
use Rattle.std.proofs.lemmas.List.Elements.{All-head, All-tail}
use Rattle.theory_form.specs.declared.literals.Lit.{Lit}
use Rattle.theory_form.specs.declared.literals.Var.{Var}
use Rattle.theory_form.specs.declared.rows.SumRow.{SumRow}
use Rattle.theory_form.specs.Kinds.{IsRow}
use Rattle.theory_form.specs.Truth.{value_of, IsFalseIn, IsFreeIn, IsFalseClause, IsUnitAt, IsSettled}
use Rattle.agg_nogoods.specs.Implied.{IsImplied}
use Rattle.agg_nogoods.specs.Known.{known_with}
use Rattle.agg_nogoods.specs.Ends.{greatest_end}
use Rattle.agg_nogoods.specs.Slack.{slack, NoneForced}
use Rattle.agg_nogoods.proofs.SumLemmas.{opposite_terms}
use Rattle.agg_nogoods.proofs.ClauseLemmas.{AllKnownFalse}
use Rattle.agg_nogoods.proofs.EndLemmas.{Apart, Each, IsLight, put, put_own, put_other, put_light}
use Rattle.agg_nogoods.proofs.LookLemmas.{settled_unless, false_says, unit_says}
use Rattle.agg_nogoods.proofs.RuleLemmas.{ImpliesWhere, asked_terms, limit, own_literal, implied_where, slack_is, apart_from, asked_apart, falls_known}
use Rattle.agg_nogoods.proofs.FoundLemmas.{not-not}

-- the same as the assignment, where the row's variable has the value
pub known_same : (a : List (Option Bool)) (v : ℕ) (b : Bool) → value_of a v ≡ Some b → known_with a v b ≡ value_of a
known_same a v b is = fun_ext (λ u. by_test u (u == v) refl)
  where
    by_test : (u : ℕ) (q : Bool) → (u == v) ≡ q → known_with a v b u ≡ value_of a u
    by_test u true e = ap (λ q. cond q (Some b) (value_of a u)) e ∙ sym is ∙ ap (value_of a) (sym (eqb-true u v e))
    by_test u false e = ap (λ q. cond q (Some b) (value_of a u)) e

-- ---- light terms

light_terms : (k : ℕ → Option Bool) (s : ℤ) (ts : List (ℤ × Var)) → All (IsLight k s) ts → Each (IsLight k s) ts
light_terms k s [] h = tt
light_terms k s (t ∷ ts) h = (All-head (IsLight k s) t ts h, light_terms k s ts (All-tail (IsLight k s) t ts h))

light_opposite : (k : ℕ → Option Bool) (s : ℤ) (ts : List (ℤ × Var)) → Each (IsLight k s) ts → Each (IsLight k s) (opposite_terms ts)
light_opposite k s [] h = tt
light_opposite k s (t ∷ ts) h = (λ free. let le = h.0 free in omega (arith, ints), light_opposite k s ts h.1)

light_asked : (h : Bool) (k : ℕ → Option Bool) (s : ℤ) (ts : List (ℤ × Var)) → Each (IsLight k s) ts → Each (IsLight k s) (asked_terms h ts)
light_asked true k s ts e = e
light_asked false k s ts e = light_opposite k s ts e

-- ---- one literal of a clause without a value

-- what is known where that literal is false too
one_more : (k : ℕ → Option Bool) (c : List Lit) (l : Lit) → k l.var.0 ≡ None → ((m : Lit) → Contains c m → (m ≡ l) ⊎ (k m.var.0 ≡ Some (not m.yes))) → AllKnownFalse (put k l.var.0 (not l.yes)) c
one_more k c l free others m i =
    ⊎_elim (λ is. subst (λ (q : Lit). put k l.var.0 (not l.yes) q.var.0 ≡ Some (not q.yes)) (sym is) (put_own k l.var.0 (not l.yes)))
    (λ e. put_other k l.var.0 (not l.yes) m.var.0 (λ same. let none = ap k same ∙ free in absurd (cc)) ∙ e) (others m i)

module _ (row : SumRow) (ok : IsRow row.terms row.bound) (a : List (Option Bool)) (c : List Lit) where
  apart : (h : Bool) → Apart (asked_terms h row.terms)
  apart h = asked_apart h row.terms (apart_from row.terms ok.apart)

  -- what is known where the clause is false leaves no slack
  no_slack : (h : Bool) → ImpliesWhere row h c → (k : ℕ → Option Bool) → AllKnownFalse k c → greatest_end k (asked_terms h row.terms) <ℤ limit h row.bound
  no_slack h w k known = falls_known c (asked_terms h row.terms) (limit h row.bound) k (apart h) w.1 known

  -- ---- the row's variable has a value

  module _ (g : Bool) (is : value_of a row.var.0 ≡ Some g) (above : pos 0 ≤ℤ slack (known_with a row.var.0 g) row g) (none : NoneForced (known_with a row.var.0 g) row (slack (known_with a row.var.0 g) row g)) where
    abbrev kept : ℤ
    kept = slack (value_of a) row g

    above_here : pos 0 ≤ℤ kept
    above_here = subst (λ k. pos 0 ≤ℤ slack k row g) (known_same a row.var.0 g is) above

    light_here : Each (IsLight (value_of a) kept) (asked_terms g row.terms)
    light_here = light_asked g (value_of a) kept row.terms (light_terms (value_of a) kept row.terms (subst (λ k. NoneForced k row (slack k row g)) (known_same a row.var.0 g is) none))

    -- the clause has the literal that is false by the value
    same_way : (h : Bool) → IsFalseIn a (own_literal row h) → h ≡ g
    same_way h e = sym (not-not h) ∙ (let both : Some (not (not h)) ≡ Some g = sym e ∙ is in cc)

    not_false : (h : Bool) → ImpliesWhere row h c → IsFalseClause a c → ⊥
    not_false h w f =
        let e = same_way h (false_says a c f (own_literal row h) w.0) in
        let short = no_slack g (subst (λ b. ImpliesWhere row b c) e w) (value_of a) (false_says a c f) in
        let s = slack_is (value_of a) row g in
        let low = above_here in
        omega (arith, ints)

    not_unit : (h : Bool) → ImpliesWhere row h c → (i : ℕ) × IsUnitAt a c i → ⊥
    not_unit h w (i, u) = by_unit (unit_says a c i u)
      where
        by_unit : (l : Lit) × Contains c l × IsFreeIn a l × ((m : Lit) → Contains c m → (m ≡ l) ⊎ IsFalseIn a m) → ⊥
        by_unit (l, there, free, others) =
            let own : IsFalseIn a (own_literal row h) =
            ⊎_elim (λ same. absurd (let gone = subst (IsFreeIn a) (sym same) free in cc)) (λ e. e) (others (own_literal row h) w.0) in
            let short = no_slack g (subst (λ b. ImpliesWhere row b c) (same_way h own) w) (put (value_of a) l.var.0 (not l.yes)) (one_more (value_of a) c l free others) in
            let le = put_light (value_of a) l.var.0 (not l.yes) kept free above_here (asked_terms g row.terms) (apart g) light_here in
            let s = slack_is (value_of a) row g in
            omega (arith, ints)

    pub settled_with : IsImplied row c → IsSettled a c
    settled_with i = let (h, w) = implied_where row c i in settled_unless a c (λ e. ⊎_elim (not_false h w) (not_unit h w) e)

  -- ---- it has none

  module _ (is : value_of a row.var.0 ≡ None) (above : (h : Bool) → pos 0 ≤ℤ slack (known_with a row.var.0 h) row h) where
    not_false_own : (h : Bool) → ImpliesWhere row h c → IsFalseClause a c → ⊥
    not_false_own h w f = let e = false_says a c f (own_literal row h) w.0 in cc

    not_unit_own : (h : Bool) → ImpliesWhere row h c → (i : ℕ) × IsUnitAt a c i → ⊥
    not_unit_own h w (i, u) = by_unit (unit_says a c i u)
      where
        by_unit : (l : Lit) × Contains c l × IsFreeIn a l × ((m : Lit) → Contains c m → (m ≡ l) ⊎ IsFalseIn a m) → ⊥
        by_unit (l, there, free, others) =
            let own : own_literal row h ≡ l = ⊎_elim (λ same. same) (λ e. absurd (cc)) (others (own_literal row h) w.0) in
            let known : AllKnownFalse (put (value_of a) row.var.0 h) c =
            subst (λ b. AllKnownFalse (put (value_of a) row.var.0 b) c) (not-not h)
            (subst (λ (q : Lit). AllKnownFalse (put (value_of a) q.var.0 (not q.yes)) c) (sym own) (one_more (value_of a) c l free others)) in
            let short = no_slack h w (put (value_of a) row.var.0 h) known in
            let s = slack_is (known_with a row.var.0 h) row h in
            let low = above h in
            omega (arith, ints)

    pub settled_own : IsImplied row c → IsSettled a c
    settled_own i = let (h, w) = implied_where row c i in settled_unless a c (λ e. ⊎_elim (not_false_own h w) (not_unit_own h w) e)
