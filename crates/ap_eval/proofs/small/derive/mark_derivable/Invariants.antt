use Rattle.std.proofs.Common.{not}
use Rattle.std.specs.Prelude.{count_by}
use Rattle.ap_eval.specs.AtomSets.{AtomSet, IsSubset, has}
use Rattle.ap_eval.specs.Derivations.{IsClosedWithin, marked}
use Rattle.ap_eval.proofs.small.derive.mark_derivable.Given as goal

abbrev pub invariant-loop-place : goal.invariant-loop-place
invariant-loop-place l = (y : AtomSet) → IsClosedWithin l.statements (has l.x) y → IsSubset (marked l.x l.fn.marks) y → IsSubset (marked l.x l.marks) y

abbrev pub decreases-loop-place : goal.decreases-loop-place
decreases-loop-place l = count_by not l.marks
