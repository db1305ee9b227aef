use Rattle.theory_build.specs.Bodies as spec
use Rattle.theory_build.proofs.BodyLemmas.{HasUsed, is_used}
use Rattle.theory_build.proofs.bodies.used_lits.Given as goal

abbrev pub invariant-loop-place : goal.invariant-loop-place
invariant-loop-place l = HasUsed (is_used l.g.rules) (spec.lits_of l.p l.g) l.place l.all.items
