use Rattle.std.proofs.Common.{◌≡◌, ◌<◌, ◌≤◌, ℕ, get_or, length, true}
use Rattle.theory_form.specs.declared.literals.Lit.{Lit}
use Rattle.asp_learn.specs.Marked.{marked}
use Rattle.asp_learn.proofs.descents.next_unmarked.Given as goal

abbrev pub invariant-loop-i : goal.invariant-loop-i
invariant-loop-i l = (k : ℕ) (d : Lit) → l.from ≤ k → k < l.i → k < length l.lits → marked l.marks (get_or l.lits k d).var.0 ≡ true
