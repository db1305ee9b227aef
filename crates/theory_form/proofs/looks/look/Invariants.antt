use Rattle.theory_form.proofs.LookLemmas.{Seen}
use Rattle.theory_form.proofs.looks.look.Given as goal

abbrev pub invariant-loop-i : goal.invariant-loop-i
invariant-loop-i l = Seen l.assignment l.lits l.i l.free
