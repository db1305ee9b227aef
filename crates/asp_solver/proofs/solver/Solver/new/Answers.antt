use Rattle.std.proofs.Common.{◌≡◌, List, refl, sym, ap, subst}
use Rattle.proof_log.specs.Steps.{LogView}
use Rattle.asp_engine.specs.declared.periods.Query.{Query}
use Rattle.asp_solver.specs.Calls.{first_span}
use Rattle.asp_solver.specs.Holding.{Holds}
use Rattle.asp_solver.proofs.ResumeLemmas.{holds_new}
use Rattle.asp_solver.proofs.solver.Solver.new.Goals as goal

pub invariant_of-result : goal.invariant_of-result
invariant_of-result c =
    let p = c.new-2.ensures in
    subst (λ (qs : List Query). Holds first_span (record { theory = c.args.theory; log = c.new.result; parts = c.new-2.result }) qs 0) (sym c.new-3.ensures.items)
    (holds_new c.logs_are_true.ensures.over c.logs_are_true.ensures.within c.steps_keep_logs.ensures.none first_span
    (record { theory = c.args.theory; log = c.new.result; parts = c.new-2.result })
    c.requires.can_search c.requires.skips (ap (λ (l : LogView). l.steps) c.new.ensures) p.store p.numbers p.marks p.span)
