use Rattle.std.proofs.Common.{length}
use Rattle.small_optima.proofs.subsets.+nonempty_subsets.Given as goal

abbrev pub decreases-nonempty_subsets : goal.decreases-nonempty_subsets
decreases-nonempty_subsets l = length l.atoms.now
