use denote.Shadow.{shadow}
use denote.Text.{Utf8}
use Rattle.std.proofs.Common.{◌≡◌, ◌++◌, drop, map, string_bytes}
use Rattle.ap_syntax.specs.Pieces.{parted, text_of}
use Rattle.ap_syntax.specs.Separators.{between}
use Rattle.ap_syntax.proofs.Joined.{joined}
use Rattle.ap_syntax.proofs.printed_lists.push_parted.Given as goal

-- what is there, with the members that are left, is the whole
abbrev pub invariant-loop-item : goal.invariant-loop-item
invariant-loop-item g l =
    (string_bytes l.out ++ joined l.front (text_of (between l.separator)) (map g.T.Canonical.pieces (drop l.item-index l.items)) ≡ string_bytes l.initial.out ++ text_of (parted (between l.separator) (map g.T.Canonical.pieces l.items)))
    × shadow (Utf8 l.front)
