use Rattle.rule_form.specs.Possible.{IsCertain}
use Rattle.type_law.proofs.Fits.{takes}
use Rattle.type_law.proofs.shapes_fit_programs.Goals as goal

pub returns : goal.returns
returns c setting p st kind is well named grounded = takes (IsCertain setting) p st well grounded kind is named
