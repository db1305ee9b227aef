use Rattle.std.proofs.Common.{arith}
use Rattle.asp_engine.proofs.LevelLemmas.{levels_between, levels_over, levels_under}
use Rattle.asp_engine.proofs.levels.second_level.Goals as goal
use Rattle.asp_engine.proofs.levels.second_level.Goals.{then-level-top, else-level-top+then-level-second, else-level-top+else-level-second}

pub loop-l-preserved : goal.loop-l-preserved
loop-l-preserved c =
    let s = c.args.s.now in
    let i = c.loop-l in
    let level = c.level_at-level.result in
    elim c.if-level-top.branch [
      | then-level-top w ↦
          rw (w.top-is, w.second-is)
          (levels_over s.places s.entries c.args.lits.now i.l-index i.top i.second level _ (omega arith) c.level_at-level.ensures (omega arith) i.invariant)
      | else-level-top+then-level-second w ↦
          rw (w.top-is, w.second-is)
          (levels_between s.places s.entries c.args.lits.now i.l-index i.top i.second level _ (omega arith) c.level_at-level.ensures (omega arith) i.invariant)
      | else-level-top+else-level-second w ↦
          rw (w.top-is, w.second-is)
          (levels_under s.places s.entries c.args.lits.now i.l-index i.top i.second i.invariant)
    ]
