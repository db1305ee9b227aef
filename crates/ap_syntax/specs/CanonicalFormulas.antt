-- What is written of a formula, and how closely it binds.
use Rattle.ap_syntax.specs.declared.preferences.Formula.{Formula, fold-Formula}
use Rattle.ap_syntax.specs.CanonicalTerms.{Written}
use Rattle.ap_syntax.specs.CanonicalPreferences.{formula_step}

abbrev pub formula_written : Formula → Written
formula_written = fold-Formula Written formula_step
