use Rattle.std.proofs.Common.{ℕ, ◌<◌, get_or}
use Rattle.theory_form.specs.declared.literals.Var.{Var}
use Rattle.proof_log.proofs.conditions.are_ascending.Given as goal

-- each variable before this place is below those between it and the place
abbrev pub invariant-loop-i : goal.invariant-loop-i
invariant-loop-i l = (j k : ℕ) (d : Var) → j < k → k < l.i → (get_or l.vars j d).0 < (get_or l.vars k d).0
