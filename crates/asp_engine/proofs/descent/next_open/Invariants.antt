use Rattle.std.proofs.Common.{◌<◌, ◌-◌, ℕ, length, get_or}
use Rattle.theory_form.specs.declared.literals.Lit.{Lit}
use Rattle.theory_form.specs.Truth.{IsTrueIn}
use Rattle.asp_engine.proofs.descent.next_open.Given as goal

abbrev pub invariant-assumptions : goal.invariant-assumptions
invariant-assumptions l = (k : ℕ) (d : Lit) → k < l.cursor → k < length l.assume → IsTrueIn l.a (get_or l.assume k d)

abbrev pub decreases-assumptions : goal.decreases-assumptions
decreases-assumptions l = length l.assume - l.cursor
