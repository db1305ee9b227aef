use Rattle.std.proofs.Common.{ℕ, Bool, ap, ◌∙◌}
use Rattle.loop_nogoods.specs.Tests.{fits_set}
use Rattle.loop_nogoods.proofs.SupportLemmas.{marks_of_list, marks_of_list_back}
use Rattle.loop_nogoods.proofs.validity.has_externals.Goals as goal

pub returns-clause-value : goal.returns-clause-value
returns-clause-value c =
    let set = marks_of_list c.args.t.now c.args.u.now c.args.marks.now c.write_all.new.marks c.requires.clear c.requires.variables c.write_all.ensures in
    c.fits_set-fits.ensures ∙ ap (λ (m : ℕ → Bool). fits_set c.args.t.now c.args.u.now m c.args.but c.args.c.now) set

pub returns-clause-marks : goal.returns-clause-marks
returns-clause-marks c =
    marks_of_list_back c.args.t.now c.args.u.now c.args.marks.now c.write_all.new.marks c.write_all-2.new.marks c.requires.clear c.requires.variables c.write_all.ensures c.write_all-2.ensures
