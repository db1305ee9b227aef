use Rattle.std.proofs.Common.{◌≡◌, ◌++◌, map, drop}
use Rattle.pref_library.specs.Programs.{read_statement}
use Rattle.pref_library.specs.Rows.{rows_statements}
use Rattle.pref_library.proofs.build.program_of.Given as goal

abbrev pub invariant-loop-passage : goal.invariant-loop-passage
invariant-loop-passage l = rows_statements l.passage-items ≡ map read_statement l.statements.items ++ rows_statements (drop l.passage-index l.passage-items)
