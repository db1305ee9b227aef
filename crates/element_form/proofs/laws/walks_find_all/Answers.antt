use Rattle.std.proofs.Common.{IsTrue}
use Rattle.element_form.proofs.Closure.{walk_is}
use Rattle.element_form.proofs.GraphLaw.{leads_is, cycle_is}
use Rattle.element_form.proofs.laws.walks_find_all.Goals as goal

pub returns-clause-marks : goal.returns-clause-marks
returns-clause-marks c = walk_is

pub returns-clause-edges : goal.returns-clause-edges
returns-clause-edges c test = leads_is (λ a b. IsTrue (test a b))

pub returns-clause-cycles : goal.returns-clause-cycles
returns-clause-cycles c test = cycle_is (λ a b. IsTrue (test a b))
