use Rattle.std.proofs.Common.{◌≡◌, ◌++◌, length, string_bytes}
use Rattle.std.specs.Str.Iter.{chars_rest}
use Rattle.ap_grammar.specs.Lexemes.{string_of, unescaped}
use Rattle.literal_parse.proofs.strings.string.Given as goal

-- what was read so far, and what is left
abbrev pub invariant-inside : goal.invariant-inside
invariant-inside l = string_of l.fn.quoted ≡ string_bytes l.inside ++ unescaped (chars_rest l.rest)

abbrev pub decreases-inside : goal.decreases-inside
decreases-inside l = length (chars_rest l.rest)
