-- What becomes of periods and theories along the steps of a query.
use Rattle.std.proofs.Common.{◌≡◌, ℕ, zero, suc, ◌+◌, ◌-◌, ◌*◌, ◌^◌, ◌<◌, ◌≤◌, ◌≢◌, ◌⊎◌, inl, inr, ◌++◌, Bool, true, false, List, [], ◌∷◌, length, Option, Some, None, get_or, refl, ap, sym, ◌∙◌, subst, arith, length-append}
use Rattle.std.specs.Prelude.{IsFalse, IsSomeAnd}
use Rattle.std.proofs.lemmas.Bool.{cases_lt}
use Rattle.theory_form.specs.declared.literals.Lit.{Lit}
use Rattle.theory_form.specs.declared.literals.ClauseId.{ClauseId}
use Rattle.theory_form.specs.Theories.{Extends, TheoryView}
use Rattle.theory_form.proofs.ExtendLemmas.{Extends-same, Extends-clause, Extends-reserved}
use Rattle.theory_model.specs.Whole.{AreOver}
use Rattle.proof_log.specs.declared.steps.Step.{Step}
use Rattle.proof_log.specs.declared.steps.Step.TheVariants.{Found, Passed, Improve, Dominate, Exclude, Learn, Loop, Sum, Erase, Optimal, Closed}
use Rattle.proof_log.specs.States.{StateView, clause_in, with_clause, without_clause}
use Rattle.proof_log.specs.Steps.{AreLiterals}
use Rattle.search_law.specs.Few.{IsPlainClause}
use Rattle.asp_engine.specs.declared.periods.Period.{Period}
use Rattle.asp_engine.specs.Moves.{Does, IsMove, Leads, Moment, learned, learns, moment}
use Rattle.asp_engine.specs.Periods.{IsPeriod, learned_by}
use Rattle.asp_engine.proofs.KeyLemmas.{clause_with_other, clause_without_other}
use Rattle.asp_solver.proofs.PeriodLemmas.{AreFew, Goes, goes_late, goes_learned, learned_more, period_begun}

plain_from : (n vars : ℕ) (c : List Lit) → n ≡ vars → AreLiterals c → AreOver n c → IsPlainClause vars c
plain_from n vars c same h over = record { ascending = h.ascending; consistent = h.consistent; over = subst (λ k. AreOver k c) same over }

erased_beyond : (v : StateView) (n : ℕ) → ((k : ℕ) → length v.theory.clauses < k → clause_in v k ≡ None) → (k : ℕ) → length v.theory.clauses < k → n ≤ length v.theory.clauses → clause_in (without_clause v n) k ≡ None
erased_beyond v n beyond k above le = clause_without_other v n k (λ e. absurd (omega (arith, above, le, e))) ∙ beyond k above

module _ (few : AreFew) (span vars : ℕ) (positive : 0 < span) (held : ℕ → Bool) where
  goes_step : (m n : Moment) (step : Step) → IsMove span held m step n → Goes span vars m → Goes span vars n × (learned_by span n.period ≡ learned_by span m.period + learns step)
  goes_step m n (Found atoms) x h = absurd x.does
  goes_step m n (Passed set better) x h = absurd x.does
  goes_step m n Improve x h = absurd x.does
  goes_step m n (Dominate set) x h = absurd x.does
  goes_step m n (Exclude set) x h = absurd x.does
  goes_step m n (Learn lits hints) x h =
      let id : ClauseId = record { 0 = length m.state.theory.clauses + 1 } in
      let plain = plain_from (length m.state.theory.variables) vars lits h.variables x.step_is.0 x.listed in (
        goes_learned few span vars positive m lits id refl plain x.is_new h n x.after x.does.0 x.does.1,
        learned_more few span vars positive m lits id refl plain x.is_new h n x.does.0,
      )
  goes_step m n (Loop atom others) x h =
      (goes_late span vars m n x.after.0 x.after.2 x.does.0 x.does.1 h, (let e = ap (learned_by span) x.does.0 in omega (arith, e)))
  goes_step m n (Sum guard lits) x h =
      (goes_late span vars m n lits x.after x.does.0 x.does.1 h, (let e = ap (learned_by span) x.does.0 in omega (arith, e)))
  goes_step m n (Erase clause) x h =
      let none : n.period.learned ≡ [] = ap (λ (p : Period). p.learned) x.does.1 ∙ h.fresh x.does.0 in
      let le : clause.0 ≤ length m.state.theory.clauses = within m.state clause.0 h.beyond x.does.3 in
      let y : Goes span vars (moment (without_clause m.state clause.0) n.period n.ended) = record {
        variables = h.variables;
        beyond = λ k above. erased_beyond m.state clause.0 h.beyond k above le;
        period = period_begun span vars (without_clause m.state clause.0) n.period positive
            (subst (λ (p : Period). 0 < p.number) (sym x.does.1) h.period.number)
            (subst (λ (p : Period). span * p.number ≤ 3 ^ vars + span) (sym x.does.1) h.period.before) none;
        fresh = λ e. none;
      } in
      (subst (Goes span vars) (λ i. record { state = sym x.after i; period = n.period; ended = n.ended }) y, (let e = ap (learned_by span) x.does.1 in omega (arith, e))) where
        within : (v : StateView) (k : ℕ) → ((j : ℕ) → length v.theory.clauses < j → clause_in v j ≡ None) → IsSomeAnd (clause_in v k) (λ c. 2 ≤ length c) → k ≤ length v.theory.clauses
        within v k beyond some = elim (cases_lt (length v.theory.clauses) k) [
          | inl above ↦ absurd (subst (λ (o : Option (List Lit)). IsSomeAnd o (λ (c : List Lit). 2 ≤ length c)) (beyond k above) some)
          | inr le ↦ le
        ]
  goes_step m n (Optimal set clause) x h = absurd x.does
  goes_step m n (Closed clause) x h = absurd x.does

  pub goes_on : (m n : Moment) (steps : List Step) → Leads span held m steps n → Goes span vars m → Goes span vars n × (learned_by span n.period ≡ learned_by span m.period + learned steps)
  goes_on m n [] l h = (subst (Goes span vars) l h, (let e = ap (λ (x : Moment). learned_by span x.period) l in omega (arith, e)))
  goes_on m n (s ∷ steps) l h =
      let a = goes_step m l.0 s l.1 h in
      let b = goes_on l.0 n steps l.2 a.0 in
      let p = a.1 in
      let q = b.1 in
      (b.0, (omega (arith, p, q)))

-- what becomes of the clause of a number that is held
module _ (span : ℕ) (held : ℕ → Bool) (k : ℕ) (on : held k ≡ true) where
  record Stays (m n : Moment) : Type 0 where
    clause : clause_in n.state k ≡ clause_in m.state k
    le : k ≤ length n.state.theory.clauses

  late : (m n : Moment) (c : List Lit) → n.state ≡ with_clause m.state c → k ≤ length m.state.theory.clauses → Stays m n
  late m n c is le =
      let none : Option (List Lit) = None in
      let len : length n.state.theory.clauses ≡ length m.state.theory.clauses + 1 = ap (λ (v : StateView). length v.theory.clauses) is ∙ length-append m.state.theory.clauses (none ∷ []) in
      record {
        clause = ap (λ v. clause_in v k) is ∙ clause_with_other m.state c k (λ e. absurd (omega (arith, le, e)));
        le = (omega (arith, le, len));
      }

  stays_step : (m n : Moment) (step : Step) → IsMove span held m step n → k ≤ length m.state.theory.clauses → Stays m n
  stays_step m n (Found atoms) x le = absurd x.does
  stays_step m n (Passed set better) x le = absurd x.does
  stays_step m n Improve x le = absurd x.does
  stays_step m n (Dominate set) x le = absurd x.does
  stays_step m n (Exclude set) x le = absurd x.does
  stays_step m n (Learn lits hints) x le = late m n lits x.after le
  stays_step m n (Loop atom others) x le = late m n x.after.0 x.after.2 le
  stays_step m n (Sum guard lits) x le = late m n lits x.after le
  stays_step m n (Erase clause) x le =
      let other : k ≢ clause.0 = λ e. absurd (let z : false ≡ true = sym x.does.4 ∙ (ap held (sym e) ∙ on) in cc) in
      record {
        clause = ap (λ v. clause_in v k) x.after ∙ clause_without_other m.state clause.0 k other;
        le = (let e = ap (λ (v : StateView). length v.theory.clauses) x.after in omega (arith, le, e));
      }
  stays_step m n (Optimal set clause) x le = absurd x.does
  stays_step m n (Closed clause) x le = absurd x.does

  pub held_stays : (m n : Moment) (steps : List Step) → Leads span held m steps n → k ≤ length m.state.theory.clauses → clause_in n.state k ≡ clause_in m.state k
  held_stays m n [] l le = ap (λ (x : Moment). clause_in x.state k) (sym l)
  held_stays m n (s ∷ steps) l le =
      let x = stays_step m l.0 s l.1 le in
      held_stays l.0 n steps l.2 x.le ∙ x.clause

-- ---- theories

-- what stays true of a theory that skips a number stays true of the theory of the state
theory_step : (P : TheoryView → Type 0) → ((t : TheoryView) (r : ℕ) → P t → P (record t { clauses = t.clauses ++ None ∷ []; reserved = r })) → (span : ℕ) (held : ℕ → Bool) (m n : Moment) (step : Step) → IsMove span held m step n → P m.state.theory → P n.state.theory
theory_step P more span held m n (Found atoms) x h = absurd x.does
theory_step P more span held m n (Passed set better) x h = absurd x.does
theory_step P more span held m n Improve x h = absurd x.does
theory_step P more span held m n (Dominate set) x h = absurd x.does
theory_step P more span held m n (Exclude set) x h = absurd x.does
theory_step P more span held m n (Learn lits hints) x h = subst (λ (v : StateView). P v.theory) (sym x.after) (more m.state.theory (m.state.theory.reserved - 1) h)
theory_step P more span held m n (Loop atom others) x h = subst (λ (v : StateView). P v.theory) (sym x.after.2) (more m.state.theory (m.state.theory.reserved - 1) h)
theory_step P more span held m n (Sum guard lits) x h = subst (λ (v : StateView). P v.theory) (sym x.after) (more m.state.theory (m.state.theory.reserved - 1) h)
theory_step P more span held m n (Erase clause) x h = subst (λ (v : StateView). P v.theory) (sym x.after) h
theory_step P more span held m n (Optimal set clause) x h = absurd x.does
theory_step P more span held m n (Closed clause) x h = absurd x.does

pub theory_on : (P : TheoryView → Type 0) → ((t : TheoryView) (r : ℕ) → P t → P (record t { clauses = t.clauses ++ None ∷ []; reserved = r })) → (span : ℕ) (held : ℕ → Bool) (m n : Moment) (steps : List Step) → Leads span held m steps n → P m.state.theory → P n.state.theory
theory_on P more span held m n [] l h = subst (λ (x : Moment). P x.state.theory) l h
theory_on P more span held m n (step ∷ steps) l h = theory_on P more span held l.0 n steps l.2 (theory_step P more span held m l.0 step l.1 h)

-- the theory grew by numbers that it skipped
pub record Grown (s t : TheoryView) : Type 0 where
  pub extends : Extends s t
  pub variables : t.variables ≡ s.variables
  pub blocks : t.blocks ≡ s.blocks

grown_more : (s t : TheoryView) (r : ℕ) → Grown s t → Grown s (record t { clauses = t.clauses ++ None ∷ []; reserved = r })
grown_more s t r h = record {
  extends = Extends-reserved s (record t { clauses = t.clauses ++ None ∷ [] }) r (Extends-clause s t None h.extends);
  variables = h.variables;
  blocks = h.blocks;
}

pub grown_on : (span : ℕ) (held : ℕ → Bool) (m n : Moment) (steps : List Step) → Leads span held m steps n → Grown m.state.theory n.state.theory
grown_on span held m n steps l = theory_on (Grown m.state.theory) (grown_more m.state.theory) span held m n steps l (record { extends = Extends-same m.state.theory; variables = refl; blocks = refl })
