use Rattle.std.proofs.Common.{◌≡◌, map, take}
use Rattle.pref_library.specs.Rows as spec
use Rattle.rule_form.specs.Readings.{read_literal}
use Rattle.pref_library.proofs.build.literals.Given as goal

abbrev pub invariant-loop-row : goal.invariant-loop-row
invariant-loop-row l = map read_literal l.literals.items ≡ map spec.literal_row (take l.row-index l.rows)
