use Rattle.std.proofs.Common.{◌≡◌, sym, subst}
use Rattle.asp_engine.specs.declared.engine.Engine.{Engine}
use Rattle.asp_solver.specs.Calls.{first_span}
use Rattle.asp_solver.specs.Holding.{Holds}
use Rattle.asp_solver.specs.Lent.{RestView}
use Rattle.asp_solver.proofs.ResumeLemmas.{holds_resumed}
use Rattle.asp_solver.proofs.solver.Solver.resume.Goals as goal

pub invariant_of-result : goal.invariant_of-result
invariant_of-result c =
    let r = c.requires in
    let held = subst (λ (x : RestView). Holds first_span (record { theory = c.requires.0; log = c.requires.1; parts = x.parts }) x.queries x.taken) (sym c.rest.view_is) r.2 in
    holds_resumed c.logs_stay_valid.ensures c.logs_are_true.ensures.over c.logs_are_true.ensures.within c.steps_keep_logs.ensures.others first_span c.rest.inside.taken
    r.0 c.args.theory r.1 c.args.kept.log c.rest.inside.parts c.rest.inside.queries.items r.3 held
