use denote.Shadow.{shadow}
use denote.Text.{Utf8}
use Rattle.std.proofs.Common.{◌≡◌, ◌++◌, drop, map, string_bytes}
use Rattle.ap_syntax.specs.Pieces.{parted, text_of}
use Rattle.ap_syntax.specs.Separators.{between}
use Rattle.ap_syntax.specs.CanonicalTerms.{at_least}
use Rattle.ap_syntax.specs.CanonicalFormulas.{formula_written}
use Rattle.ap_syntax.proofs.Joined.{joined}
use Rattle.ap_syntax.proofs.printed_preferences.+printing.Given as goal

-- what is there, with the formulas that are left, is the whole
abbrev pub invariant-push_parts-loop-formula : goal.invariant-push_parts-loop-formula
invariant-push_parts-loop-formula l =
    (string_bytes l.out ++ joined l.front (text_of (between l.separator)) (map (at_least l.level) (map formula_written (drop l.formula-index l.formulas))) ≡ string_bytes l.initial.out ++ text_of (parted (between l.separator) (map (at_least l.level) (map formula_written l.formulas))))
    × shadow (Utf8 l.front)
