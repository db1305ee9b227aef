use denote.Shadow.{shadow}
use denote.Text.{Utf8}
use Rattle.std.proofs.Common.{◌≡◌, ◌++◌, drop, string_bytes}
use Rattle.ap_syntax.specs.Pieces.{text_of}
use Rattle.ap_syntax.specs.CanonicalRules.{body_pieces}
use Rattle.ap_syntax.proofs.Joined.{joined_body}
use Rattle.ap_syntax.proofs.printed_rules.push_body.Given as goal

-- what is there, with the parts that are left, is the whole
abbrev pub invariant-loop-item : goal.invariant-loop-item
invariant-loop-item l =
    (string_bytes l.out ++ joined_body l.between (drop l.item-index l.body) ≡ string_bytes l.initial.out ++ text_of (body_pieces l.body))
    × shadow (Utf8 l.between)
