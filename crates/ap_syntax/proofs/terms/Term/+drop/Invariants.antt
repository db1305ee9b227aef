use Rattle.std.proofs.Common.{◌≤◌}
use Rattle.ap_syntax.specs.declared.terms.Term.{size-Term}
use Rattle.ap_syntax.proofs.terms.Term.+drop.Given as goal

abbrev pub decreases-drop : goal.decreases-drop
decreases-drop l = goal.size-drop l

-- what is left of the term is no deeper than the term
abbrev pub invariant-loop-self : goal.invariant-loop-self
invariant-loop-self l = size-Term l.self ≤ size-Term l.fn.self
