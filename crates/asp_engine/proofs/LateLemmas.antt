-- Clauses of loops and sums, with their steps.
use Rattle.std.proofs.Common.{◌≡◌, ℕ, suc, ◌⊎◌, inl, inr, Bool, true, false, not, List, ◌∷◌, length, Option, Some, None, get_or, refl, ap, sym, ◌∙◌, subst, arith}
use Rattle.std.specs.Prelude.{ℤ, IsSomeAnd, IsTrue}
use Rattle.std.specs.List.{All, Contains}
use Rattle.std.specs.Option.{IfNone, IfSome}
use Rattle.std.proofs.lemmas.Bool.{cases_eq}
use Rattle.std.proofs.lemmas.List.{get_or_default}
use Rattle.std.proofs.lemmas.List.Elements.{All-contains}
use Rattle.sets.specs.Lists.{IsNumberOf}
use Rattle.theory_form.specs.declared.literals.Lit.{Lit}
use Rattle.theory_form.specs.declared.literals.Var.{Var}
use Rattle.theory_form.specs.declared.rows.SumRow.{SumRow}
use Rattle.theory_form.specs.Literals.{IsAscending, opposite}
use Rattle.theory_form.specs.Theories.{TheoryView, row_of}
use Rattle.theory_form.specs.Truth.{IsFalseClause, IsFalseIn, IsFreeIn, IsUnitAt, IsUnitBy}
use Rattle.theory_model.specs.Loops.{AreAtomsOf, IsLoopClause}
use Rattle.theory_model.specs.Whole.{AreOver, IsWhole}
use Rattle.theory_model.proofs.GrowthLemmas.{loop_clause_over, terms_over}
use Rattle.loop_nogoods.specs.Sets.{AreAscending, has}
use Rattle.loop_nogoods.specs.Unfounded.{IsUnfounded}
use Rattle.loop_nogoods.proofs.SupportLemmas.{atoms_are_variables}
use Rattle.agg_nogoods.specs.Implied.{IsConsistent, IsFalseOrUnit, IsImplied, IsOverRow}
use Rattle.search_law.proofs.SumLemmas.{row_variable}
use Rattle.proof_log.specs.declared.steps.Step.{Step}
use Rattle.proof_log.specs.declared.steps.Step.TheVariants.{Loop, Sum}
use Rattle.proof_log.specs.States.{StateView}
use Rattle.proof_log.specs.Steps.{IsStep}
use Rattle.proof_log.specs.Valid.{AreOfProgram, IsSumClause}
use Rattle.proof_log.proofs.ProgramLemmas.{has_first}
use Rattle.asp_engine.specs.declared.additions.Late.{Late}
use Rattle.asp_engine.specs.Keys.{IsSameTheory}
use Rattle.asp_engine.specs.Lates.{Brings, IsLate, IsLoopOf}

-- the theory of a state, up to what is reserved
same_view : (w t : TheoryView) → IsSameTheory w t → w ≡ record t { reserved = w.reserved }
same_view w t h = λ i. record { variables = h.variables i; clauses = h.clauses i; blocks = h.blocks i; reserved = w.reserved }

pub if_some : {A : Type 0} (P : A → Type 0) (o : Option A) (a : A) → o ≡ Some a → IfSome o P → P a
if_some P o a e h = subst (λ x. IfSome x P) e h

pub if_none : {A : Type 0} (P : Type 0) (o : Option A) → o ≡ None → IfNone o P → P
if_none P o e h = subst (λ x. IfNone x P) e h

-- ---- loops

of_program : (t : TheoryView) (a : List (Option Bool)) (block : ℕ) (atom : Var) (others : List Var) → IsUnfounded t block a (has (atom ∷ others)) →
    AreAscending (atom ∷ others) → AreOfProgram t atom others
of_program t a block atom others u up = record {
  apart = λ k d within same. let x = up 0 (suc k) d (omega arith) (omega (arith, within)) in absurd (omega (arith, x, same));
  program = (block, u.atoms);
}

loop_brings : (t : TheoryView) (atom : Var) (others : List Var) (c : List Lit) (v : StateView) → AreOfProgram t atom others →
    IsLoopClause t (has (atom ∷ others)) atom.0 c → IsSameTheory v.theory t → Brings v (Loop atom others) c
loop_brings t atom others c v of clause same =
    let e = same_view v.theory t same in
    record {
      valid = (subst (λ (w : TheoryView). AreOfProgram w atom others) (sym e) (record { apart = of.apart; program = of.program }), tt);
      after = (c, subst (λ (w : TheoryView). IsLoopClause w (has (atom ∷ others)) atom.0 c) (sym e) (record { ascending = clause.ascending; literals = clause.literals }), refl);
      is_new = tt;
    }

loop_step : (t : TheoryView) (block : ℕ) (atom : Var) (others : List Var) → AreAtomsOf t block (has (atom ∷ others)) → AreAscending (atom ∷ others) →
    IsStep (Loop atom others)
loop_step t block atom others atoms up = record {
  numbers = λ k d within. let x = atoms_are_variables t block (atom ∷ others) atoms (suc k) d (omega (arith, within)) in x.0;
  ascending = λ i j d before within. up (suc i) (suc j) d (omega (arith, before)) (omega (arith, within));
}

told_by : (a : List (Option Bool)) (c : List Lit) (l : Lit) → IsFalseClause a c ⊎ IsUnitBy a c l → IsFalseOrUnit a c
told_by a c l h = elim h [
  | inl all ↦ inl all
  | inr unit ↦ inr (unit.place, unit.unit)
]

loop_late : (t : TheoryView) (a : List (Option Bool)) (block : ℕ) (atom : Var) (others : List Var) (c : List Lit) → IsWhole t →
    IsUnfounded t block a (has (atom ∷ others)) → AreAscending (atom ∷ others) → IsLoopClause t (has (atom ∷ others)) atom.0 c → IsFalseOrUnit a c →
    IsLate t a (record { clause = c; step = Loop atom others })
loop_late t a block atom others c whole u up clause told = record {
  step = loop_step t block atom others u.atoms up;
  judged = tt;
  listed = tt;
  brings = λ v same. loop_brings t atom others c v (of_program t a block atom others u up) clause same;
  does = λ span held m n goes. goes;
  learns = refl;
  told = told;
  over = loop_clause_over t block (has (atom ∷ others)) atom.0 c whole u.atoms (has_first atom others) clause;
}

-- what is added for an unfounded set
pub loop_is_late : (t : TheoryView) (a : List (Option Bool)) (block : ℕ) (set : List Var) (l : Late) → IsWhole t → IsUnfounded t block a (has set) →
    AreAscending set → ((v : ℕ) → IsTrue (has set v) → (c : List Lit) → IsLoopClause t (has set) v c → IsFalseClause a c ⊎ IsUnitBy a c (record { var = record { 0 = v }; yes = false })) →
    IsLoopOf t set l → IsLate t a l
loop_is_late t a block set l whole u up tells of =
    let atom : Var = of.atom in
    let others : List Var = of.others in
    let in_set : IsTrue (has set atom.0) = subst (λ (vars : List Var). IsTrue (has vars atom.0)) of.set_is (has_first atom others) in
    let told = told_by a l.clause (record { var = record { 0 = atom.0 }; yes = false }) (tells atom.0 in_set l.clause of.clause) in
    let late : IsLate t a (record { clause = l.clause; step = Loop atom others }) =
    loop_late t a block atom others l.clause whole
    (subst (λ (vars : List Var). IsUnfounded t block a (has vars)) (sym of.set_is) u)
    (subst AreAscending (sym of.set_is) up)
    (subst (λ (vars : List Var). IsLoopClause t (has vars) atom.0 l.clause) (sym of.set_is) of.clause)
    told in
    subst (λ (s : Step). IsLate t a (record { clause = l.clause; step = s })) (sym of.step) late

-- ---- sums

not_both : (a : List (Option Bool)) (l : Lit) → IsFalseIn a l → IsFalseIn a (opposite l) → ⊥
not_both a l f g =
    let q : Some (not l.yes) ≡ Some (not (not l.yes)) = sym f ∙ g in
    let r : not l.yes ≡ not (not l.yes) = cc in
    differs (not l.yes) r where
      differs : (b : Bool) → b ≡ not b → ⊥
      differs true h = cc
      differs false h = cc

not_same : (l : Lit) → l ≡ opposite l → ⊥
not_same l h = differs l.yes (ap (λ (m : Lit). m.yes) h) where
  differs : (b : Bool) → b ≡ not b → ⊥
  differs true e = absurd (cc)
  differs false e = absurd (cc)

-- a literal of a clause that is unit at a place is false, or stands there
unit_at : (a : List (Option Bool)) (c : List Lit) (i : ℕ) (l : Lit) → IsUnitAt a c i → Contains c l → IsFalseIn a l ⊎ (l ≡ get_or c i l)
unit_at a c i l unit h = elim (cases_eq h.0 i) [
  | inl same ↦ inr (sym h.2 ∙ ap (λ k. get_or c k l) same)
  | inr other ↦ inl (subst (IsFalseIn a) h.2 ((unit.rest h.0 h.1 other).holds l))
]

no_value_and_value : (a : List (Option Bool)) (l m : Lit) → l.var ≡ m.var → IsFreeIn a l → IsFalseIn a m → ⊥
no_value_and_value a l m same free off =
    let here : IsFreeIn a m = subst (λ (v : Var). IsFreeIn a (record { var = v; yes = l.yes })) same free in
    let z : None ≡ Some (not m.yes) = sym here ∙ off in
    absurd (cc)

-- a clause that is false or unit is consistent
consistent_told : (a : List (Option Bool)) (c : List Lit) → IsFalseOrUnit a c → IsConsistent c
consistent_told a c told l one two = elim told [
  | inl all ↦ not_both a l (All-contains (IsFalseIn a) c l all one) (All-contains (IsFalseIn a) c (opposite l) all two)
  | inr unit ↦
      let i : ℕ = unit.0 in
      let free = unit.1.free.holds in
      elim (unit_at a c i l unit.1 one) [
        | inl off ↦ elim (unit_at a c i (opposite l) unit.1 two) [
          | inl other_off ↦ not_both a l off other_off
          | inr here ↦ no_value_and_value a (opposite l) l refl (subst (IsFreeIn a) (sym here) (free (opposite l))) off
        ]
        | inr here ↦ elim (unit_at a c i (opposite l) unit.1 two) [
          | inl other_off ↦ no_value_and_value a l (opposite l) refl (subst (IsFreeIn a) (sym here) (free l)) other_off
          | inr there ↦ not_same l (here ∙ (get_or_default c i l (opposite l) unit.1.free.within ∙ sym there))
        ]
      ]
]

sum_over : (t : TheoryView) (v : ℕ) (row : SumRow) (c : List Lit) → IsWhole t → row_of t v ≡ Some row → All (IsOverRow row) c → AreOver (length t.variables) c
sum_over t v row c whole is own k d within = elim (own k d within) [
  | inl same ↦
      let f = row_variable t v row is in
      let e : (get_or c k d).var.0 ≡ v = ap (λ (x : Var). x.0) same ∙ f.0 in
      subst (IsNumberOf (length t.variables)) (sym e) f.1
  | inr term ↦
      let x = All-contains (λ (y : ℤ × Var). IsNumberOf (length t.variables) y.1.0) row.terms term.1 (terms_over t whole v row is) (term.0, term.2, term.3) in
      subst (λ (w : Var). IsNumberOf (length t.variables) w.0) term.4 x
]

pub sum_late : (t : TheoryView) (a : List (Option Bool)) (guard : Var) (row : SumRow) (c : List Lit) → IsWhole t → row_of t guard.0 ≡ Some row →
    IsImplied row c → IsFalseOrUnit a c → All (IsOverRow row) c → IsAscending c → IsLate t a (record { clause = c; step = Sum guard c })
sum_late t a guard row c whole row_is implied told own up =
    let over = sum_over t guard.0 row c whole row_is own in
    let clause : IsSumClause t guard c = subst (λ (o : Option SumRow). IsSomeAnd o (λ r. IsImplied r c)) (sym row_is) implied in
    record {
      step = record {
        numbers = λ k d w. (over k d w).0;
        ascending = up;
        consistent = consistent_told a c told;
      };
      judged = tt;
      listed = over;
      brings = λ v same. record {
        valid = (subst (λ (w : TheoryView). IsSumClause w guard c) (sym (same_view v.theory t same)) clause, tt);
        after = refl;
        is_new = tt;
      };
      does = λ span held m n goes. goes;
      learns = refl;
      told = told;
      over = over;
    }

pub late_same : (t : TheoryView) (a : List (Option Bool)) (l : Late) (c : List Lit) (s : Step) → l.clause ≡ c → l.step ≡ s →
    IsLate t a (record { clause = c; step = s }) → IsLate t a l
late_same t a l c s e f h =
    subst (λ (x : Step). IsLate t a (record { clause = l.clause; step = x })) (sym f)
    (subst (λ (x : List Lit). IsLate t a (record { clause = x; step = s })) (sym e) h)
