use Rattle.std.proofs.Common.{◌≡◌, length, take}
use Rattle.loop_nogoods.proofs.OpenLemmas.{AreOpen}
use Rattle.loop_nogoods.proofs.founding.mark_open.Given as goal

abbrev pub invariant-loop-v : goal.invariant-loop-v
invariant-loop-v l = record { places : length l.atoms ≡ length l.initial.atoms; marks : AreOpen l.a (take l.v-index l.vars) l.atoms }
