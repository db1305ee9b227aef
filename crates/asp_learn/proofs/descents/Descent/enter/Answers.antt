use Rattle.std.proofs.Common.{not, sym, ◌∙◌}
use Rattle.asp_learn.proofs.DescentLemmas.{why_there}
use Rattle.asp_learn.proofs.descents.Descent.enter.Goals as goal

pub unreachable-requires : goal.unreachable-requires
unreachable-requires c =
    why_there c.args.s.now.places c.args.s.now.entries c.args.l.var.0 (not c.args.l.yes) c.requires.is_false (sym c.why.ensures ∙ c.in-None.is)
