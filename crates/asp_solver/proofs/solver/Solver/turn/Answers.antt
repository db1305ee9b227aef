use Rattle.std.proofs.Common.{inl, inr, subst}
use Rattle.asp_solver.specs.Answers.{NoneRefuted}
use Rattle.asp_solver.specs.Views.{SolverView}
use Rattle.asp_solver.proofs.solver.Solver.turn.Goals as goal

pub returns-clause-at_once : goal.returns-clause-at_once
returns-clause-at_once c = elim c.run.ensures.at_once [
  | inl none ↦ inl (subst (λ (s : SolverView). NoneRefuted s c.args.assume.now) c.self.view_is none)
  | inr x ↦ inr x
]
