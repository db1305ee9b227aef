use Rattle.std.proofs.Common.{◌≡◌, map, take}
use Rattle.pref_library.specs.Rows as spec
use Rattle.rule_form.specs.Readings.{read_term}
use Rattle.pref_library.proofs.build.terms.Given as goal

abbrev pub invariant-loop-row : goal.invariant-loop-row
invariant-loop-row l = map read_term l.terms.items ≡ map spec.term_row (take l.row-index l.rows)
