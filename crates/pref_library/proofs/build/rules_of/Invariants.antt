use Rattle.std.proofs.Common.{◌≡◌, ◌++◌, map, drop}
use Rattle.pref_library.specs.Rows.{rows_rules}
use Rattle.rule_form.specs.Readings.{read_rule}
use Rattle.pref_library.proofs.build.rules_of.Given as goal

abbrev pub invariant-loop-passage : goal.invariant-loop-passage
invariant-loop-passage l = rows_rules l.passage-items ≡ map read_rule l.rules.items ++ rows_rules (drop l.passage-index l.passage-items)
