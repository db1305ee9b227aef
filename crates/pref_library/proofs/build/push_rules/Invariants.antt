use Rattle.std.proofs.Common.{◌≡◌, ◌++◌, map, take}
use Rattle.pref_library.specs.Rows.{rule_row}
use Rattle.rule_form.specs.Readings.{read_rule}
use Rattle.pref_library.proofs.build.push_rules.Given as goal

abbrev pub invariant-loop-row : goal.invariant-loop-row
invariant-loop-row l = map read_rule l.rules.items ≡ map read_rule l.fn.rules.items ++ map rule_row (take l.row-index l.rows)
