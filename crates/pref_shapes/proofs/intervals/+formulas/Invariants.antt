use Rattle.std.proofs.Common.{◌≡◌, drop}
use Rattle.std.specs.List.{list_any}
use Rattle.pref_shapes.specs.Intervals.{formula_has_interval}
use Rattle.pref_shapes.proofs.intervals.+formulas.Given as goal

abbrev pub invariant-in_formulas-loop-formula : goal.invariant-in_formulas-loop-formula
invariant-in_formulas-loop-formula l = list_any formula_has_interval l.formulas ≡ list_any formula_has_interval (drop l.formula-index l.formulas)
