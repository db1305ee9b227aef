use Rattle.std.proofs.Common.{inl, sym}
use Rattle.asp_engine.proofs.LevelLemmas.{free_from_why}
use Rattle.asp_engine.proofs.levels.level_at.Goals as goal

pub returns-in-None : goal.returns-in-None
returns-in-None c =
    let s = c.args.s.now in
    inl (free_from_why s.places c.args.l.var.0 s.entries (sym c.in-None.ensures))
