use Rattle.std.proofs.Common.{◌≡◌, map, take}
use Rattle.pref_library.specs.Rows as spec
use Rattle.rule_form.specs.Readings.{read_element}
use Rattle.pref_library.proofs.build.elements.Given as goal

abbrev pub invariant-loop-row : goal.invariant-loop-row
invariant-loop-row l = map read_element l.elements.items ≡ map spec.element_row (take l.row-index l.rows)
