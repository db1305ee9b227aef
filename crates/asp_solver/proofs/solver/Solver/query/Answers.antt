use Rattle.std.proofs.Common.{◌∙◌, inl, inr, ap, sym, subst}
use Rattle.asp_solver.specs.Answers.{IsRefutedOrMemory, NoneRefuted, as_turn}
use Rattle.asp_solver.specs.Views.{SolverView}
use Rattle.asp_solver.proofs.solver.Solver.query.Goals as goal
use Rattle.asp_solver.proofs.solver.Solver.query.Goals.{in-Found, in-Refuted, in-Spent, in-Memory}

pub returns-clause-at_once : goal.returns-clause-at_once
returns-clause-at_once c = elim c.run-turn.ensures.at_once [
  | inl none ↦ inl (subst (λ (s : SolverView). NoneRefuted s c.args.assume.now) c.self.view_is none)
  | inr x ↦ inr (
    x.0,
    elim c.match-turn.branch [
      | in-Found w ↦ subst IsRefutedOrMemory (w.in-Found.is ∙ sym (ap as_turn w.result-is)) x.1
      | in-Refuted w ↦ subst IsRefutedOrMemory (w.in-Refuted.is ∙ sym (ap as_turn w.result-is)) x.1
      | in-Spent w ↦ subst IsRefutedOrMemory (w.in-Spent.is ∙ sym (ap as_turn w.result-is)) x.1
      | in-Memory w ↦ subst IsRefutedOrMemory (w.in-Memory.is ∙ sym (ap as_turn w.result-is)) x.1
    ],
  )
]
