use Rattle.std.proofs.Common.{◌≡◌, ◌==◌, filter, not, take}
use Rattle.asp_learn.proofs.blames.without.Given as goal

abbrev pub invariant-loop-l : goal.invariant-loop-l
invariant-loop-l l = l.others.items ≡ filter (λ m. not (m.var.0 == l.v.0)) (take l.l-index l.lits)
