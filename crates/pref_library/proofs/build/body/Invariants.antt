use Rattle.std.proofs.Common.{◌≡◌, map, take}
use Rattle.pref_library.specs.Rows as spec
use Rattle.rule_form.specs.Readings.{read_item}
use Rattle.pref_library.proofs.build.body.Given as goal

abbrev pub invariant-loop-row : goal.invariant-loop-row
invariant-loop-row l = map read_item l.items.items ≡ map spec.item_row (take l.row-index l.rows)
