use Rattle.asp_engine.proofs.LevelLemmas.{Levels}
use Rattle.asp_engine.proofs.levels.second_level.Given as goal

abbrev pub invariant-loop-l : goal.invariant-loop-l
invariant-loop-l l = Levels l.s.places l.s.entries l.lits l.l-index l.top l.second
