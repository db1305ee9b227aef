use Rattle.std.proofs.Common.{take}
use Rattle.definite.specs.Rules.{marked}
use Rattle.ap_eval.specs.Supports.{AreDecided}
use Rattle.ap_eval.proofs.acyclic.decide_all.Given as goal

abbrev pub invariant-loop-atom : goal.invariant-loop-atom
invariant-loop-atom l = AreDecided l.g (marked l.fn.marks) (take l.atom-index l.order) l.marks
