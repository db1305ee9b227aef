use Rattle.std.proofs.Common.{◌≡◌, ◌++◌, map, take, Some}
use Rattle.pref_library.specs.Programs.{read_statement}
use Rattle.pref_library.specs.Rows.{rule_row}
use Rattle.pref_library.proofs.build.push_statements.Given as goal

abbrev pub invariant-loop-row : goal.invariant-loop-row
invariant-loop-row l = map read_statement l.statements.items ≡ map read_statement l.fn.statements.items ++ map (λ row. Some (rule_row row)) (take l.row-index l.rows)
