use Rattle.std.proofs.Common.{ap, ◌∙◌}
use Rattle.loop_nogoods.specs.Tests.{are_named}
use Rattle.loop_nogoods.proofs.ValidLemmas.{named_are_supports, named_back}
use Rattle.loop_nogoods.proofs.validity.are_supports.Goals as goal

pub returns-clause-value : goal.returns-clause-value
returns-clause-value c =
    c.are_named-named.ensures
    ∙ (ap (λ lits. are_named c.args.t.now c.write_supports.new.marks c.args.u.now c.args.but c.args.yes lits) c.lits.ensures.literals
    ∙ named_are_supports c.args.t.now c.args.u.now c.args.yes c.args.marks.now c.write_supports.new.marks c.requires c.write_supports.ensures c.args.but c.args.c.now)

pub returns-clause-marks : goal.returns-clause-marks
returns-clause-marks c =
    named_back c.args.t.now c.args.u.now c.args.yes c.args.marks.now c.write_supports.new.marks c.requires c.write_supports.ensures c.write_supports-2.new.marks c.write_supports-2.ensures
