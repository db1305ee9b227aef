use Rattle.std.proofs.Common.{◌≡◌, ℕ, Bool, List, length, Option, Some, subst}
use Rattle.std.specs.Prelude.{IsTrue}
use Rattle.std.specs.List.{All}
use Rattle.theory_form.specs.declared.literals.Lit.{Lit}
use Rattle.proof_log.specs.Logs.{IsLog}
use Rattle.proof_log.specs.States.{StateView}
use Rattle.asp_engine.specs.declared.periods.Query.{Query}
use Rattle.asp_engine.specs.Periods.{IsPeriod}
use Rattle.asp_solver.specs.Calls.{first_span}
use Rattle.asp_solver.specs.Views.{IsStateOf, SolverView}
use Rattle.asp_solver.proofs.ValidLemmas.{kept_true, log_valid, periods_of}
use Rattle.asp_solver.proofs.solver.Solver.log.Goals as goal

pub returns-clause-valid : goal.returns-clause-valid
returns-clause-valid c =
    subst (λ (s : SolverView). (added : List (Option (List Lit))) × IsLog s.theory s.log.steps added) c.self.view_is
    (log_valid c.logs_stay_valid.ensures first_span c.self.inside.taken c.self.inside.engine c.self.inside.queries.items c.self.invariant)

pub returns-clause-models : goal.returns-clause-models
returns-clause-models c = kept_true c.logs_are_true.ensures.models c.args.self.now.theory c.args.self.now.log.steps

pub returns-clause-queries : goal.returns-clause-queries
returns-clause-queries c =
    subst (λ (s : SolverView). (v : StateView) → IsStateOf s.theory s.log.steps v → All (λ (q : Query). IsPeriod first_span (length s.theory.variables) v q.period) s.queries) c.self.view_is
    (periods_of c.logs_stay_valid.ensures c.loop_clauses_are_one.ensures first_span c.self.inside.taken c.self.inside.engine c.self.inside.queries.items c.self.invariant)
