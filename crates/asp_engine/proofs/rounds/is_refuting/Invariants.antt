use Rattle.std.proofs.Common.{◌<◌, ℕ, get_or, Contains}
use Rattle.theory_form.specs.declared.literals.Lit.{Lit}
use Rattle.theory_form.specs.Literals.{opposite}
use Rattle.asp_engine.proofs.rounds.is_refuting.Given as goal

abbrev pub invariant-loop-l : goal.invariant-loop-l
invariant-loop-l l = (k : ℕ) (d : Lit) → k < l.l-index → Contains l.assume (opposite (get_or l.lits k d))
