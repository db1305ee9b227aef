use Rattle.std.proofs.Common.{◌≡◌, ◌∷◌, ◌++◌, string_bytes}
use Rattle.std.specs.List.{flat_map}
use Rattle.std.specs.Prelude.{encode_utf8_all}
use Rattle.ap_syntax.specs.CanonicalTerms.{escaped}
use Rattle.ap_syntax.proofs.printed_terms.push_quoted.Given as goal

-- the characters so far are written, behind a quote
abbrev pub invariant-loop-c : goal.invariant-loop-c
invariant-loop-c l = string_bytes l.out ≡ string_bytes l.fn.out ++ 34 ∷ flat_map escaped (encode_utf8_all l.yielded)
