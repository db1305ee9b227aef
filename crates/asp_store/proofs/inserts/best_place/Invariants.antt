use Rattle.std.proofs.Common.{◌<◌, length}
use Rattle.asp_store.proofs.inserts.best_place.Given as goal

abbrev pub invariant-loop-i : goal.invariant-loop-i
invariant-loop-i l = 0 < length l.lits → l.best < length l.lits
