use denote.Shadow.{shadow}
use denote.Text.{Utf8}
use Rattle.std.proofs.Common.{◌≡◌, ◌++◌, drop, map, string_bytes}
use Rattle.std.specs.Prelude.{codes}
use Rattle.ap_syntax.specs.Pieces.{text_of}
use Rattle.ap_syntax.specs.CanonicalTerms.{term_pieces, terms_pieces}
use Rattle.ap_syntax.proofs.Joined.{joined}
use Rattle.ap_syntax.proofs.printed_terms.+printing.Given as goal

-- what is there, with the terms that are left, is the whole
abbrev pub invariant-push_terms-loop-term : goal.invariant-push_terms-loop-term
invariant-push_terms-loop-term l =
    (string_bytes l.out ++ joined l.between (codes ", ") (map term_pieces (drop l.term-index l.terms)) ≡ string_bytes l.initial.out ++ text_of (terms_pieces l.terms))
    × shadow (Utf8 l.between)
