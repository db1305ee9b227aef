use Rattle.std.proofs.Common.{◌≡◌, ◌++◌, drop}
use Rattle.std.specs.Prelude.{flat_map}
use Rattle.ap_pieces.specs.Pieces.{formula_occurrences}
use Rattle.ap_pieces.proofs.elements.+formulas.Given as goal

abbrev pub invariant-push_formulas-loop-formula : goal.invariant-push_formulas-loop-formula
invariant-push_formulas-loop-formula l = l.initial.found ++ flat_map formula_occurrences l.formulas ≡ l.found ++ flat_map formula_occurrences (drop l.formula-index l.formulas)
