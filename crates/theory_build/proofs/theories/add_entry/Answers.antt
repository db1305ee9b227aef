use Rattle.theory_build.proofs.GrowthLemmas.{grown_itself}
use Rattle.theory_build.proofs.theories.add_entry.Goals as goal

pub returns-in_err-add_var-clause-grown : goal.returns-in_err-add_var-clause-grown
returns-in_err-add_var-clause-grown c = grown_itself c.args.t.now c.add_var.new.self c.in_err-add_var.ensures.err
