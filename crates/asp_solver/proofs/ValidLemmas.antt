-- What is true of a solver's log.
use Rattle.std.proofs.Common.{◌≡◌, ℕ, Bool, List, length, Option, Some, get_or, ap, sym, ◌∙◌}
use Rattle.std.specs.Prelude.{IsTrue}
use Rattle.std.specs.List.{All}
use Rattle.theory_form.specs.declared.literals.ClauseId.{ClauseId}
use Rattle.theory_form.specs.declared.literals.Lit.{Lit}
use Rattle.theory_form.specs.Theories.{TheoryView}
use Rattle.theory_model.specs.Models.{IsModel}
use Rattle.theory_model.specs.Truth.{clause_true}
use Rattle.proof_log.specs.declared.steps.Step.{Step}
use Rattle.proof_log.specs.Logs.{IsLog}
use Rattle.proof_log.specs.States.{StateView, clause_among, clause_in}
use Rattle.asp_engine.specs.declared.engine.Engine.{Engine}
use Rattle.asp_engine.specs.declared.periods.Query.{Query}
use Rattle.asp_engine.specs.Periods.{IsPeriod}
use Rattle.asp_solver.specs.Holding.{Holds}
use Rattle.asp_solver.specs.Views.{IsStateOf}
use Rattle.asp_solver.proofs.OneLog.{AreOne, log_one}
use Rattle.asp_solver.proofs.PeriodLemmas.{period_same}
use Rattle.asp_solver.proofs.StateLemmas.{StayValid, clause_same, taken_state}

-- the law of kept clauses
abbrev pub AreTrueLaw : Type 0
AreTrueLaw = (t : TheoryView) (steps : List Step) (added : List (Option (List Lit))) → IsLog t steps added → (f : ℕ → Bool) → IsModel t f →
    (id : ℕ) (c : List Lit) → clause_among t added id ≡ Some c → IsTrue (clause_true f c)

pub log_valid : StayValid → (span taken : ℕ) (e : Engine) (qs : List Query) → Holds span e qs taken → (added : List (Option (List Lit))) × IsLog e.theory e.log.steps added
log_valid stays span taken e qs h =
    (h.state.added, (taken_state stays taken e.theory e.log.steps e.parts.store e.parts.numbers.items h.state h.has_taken).log)

pub kept_true : AreTrueLaw → (t : TheoryView) (steps : List Step) (v : StateView) → IsStateOf t steps v → (f : ℕ → Bool) → IsModel t f →
    (k : ℕ) (c : List Lit) → clause_in v k ≡ Some c → IsTrue (clause_true f c)
kept_true law t steps v x f model k c at =
    let same : clause_in v k ≡ clause_among t v.added k = ap (λ cs. clause_among (record v.theory { clauses = cs }) v.added k) x.theory.clauses in
    law t steps v.added x.log f model k c (sym same ∙ at)

pub periods_of : StayValid → AreOne → (span taken : ℕ) (e : Engine) (qs : List Query) → Holds span e qs taken → (v : StateView) → IsStateOf e.theory e.log.steps v →
    All (λ (q : Query). IsPeriod span (length e.theory.variables) v q.period) qs
periods_of stays one span taken e qs h v x i d w =
    let own = taken_state stays taken e.theory e.log.steps e.parts.store e.parts.numbers.items h.state h.has_taken in
    let added : v.added ≡ h.state.added = log_one one e.theory e.log.steps v.added h.state.added x.log own.log in
    let clauses : v.theory.clauses ≡ h.state.theory.clauses = x.theory.clauses ∙ sym h.has_taken.theory.clauses in
    period_same span (length e.theory.variables) h.state v (get_or qs i d).period
    (λ j k u. clause_same h.state v (get_or (get_or qs i d).period.learned j k).0 clauses added) (h.periods i d w)
