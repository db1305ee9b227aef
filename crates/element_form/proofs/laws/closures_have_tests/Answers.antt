use Rattle.element_form.proofs.GreaterLaw.{greater_test, greater_test_is}
use Rattle.element_form.proofs.Paths.{path_test, path_test_is}
use Rattle.element_form.proofs.laws.closures_have_tests.Goals as goal

pub returns-clause-greater : goal.returns-clause-greater
returns-clause-greater c st = (greater_test st, greater_test_is st)

pub returns-clause-path : goal.returns-clause-path
returns-clause-path c st = (path_test st, path_test_is st)
