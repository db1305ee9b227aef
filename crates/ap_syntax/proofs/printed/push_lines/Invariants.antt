use Rattle.std.proofs.Common.{◌≡◌, ◌++◌, drop, string_bytes}
use Rattle.std.specs.List.{flat_map}
use Rattle.ap_syntax.specs.Pieces.{text_of}
use Rattle.ap_syntax.specs.Canonical.{line_pieces}
use Rattle.ap_syntax.proofs.Joined.{joined_lines}
use Rattle.ap_syntax.proofs.printed.push_lines.Given as goal

-- what is there, with the statements that are left, is the whole
abbrev pub invariant-loop-statement : goal.invariant-loop-statement
invariant-loop-statement l =
    string_bytes l.out ++ joined_lines (drop l.statement-index l.statements)
    ≡ string_bytes l.initial.out ++ text_of (flat_map line_pieces l.statements)
