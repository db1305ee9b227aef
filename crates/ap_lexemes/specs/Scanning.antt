-- What a scan of the tokens does at each of them.
use Rattle.std.specs.Prelude.{◌≡◌, Option, None, Some}
use Rattle.ap_lexemes.specs.Limits.{Levels}
use Rattle.ap_lexemes.specs.declared.limit.Limit.{Limit}

-- no limit stands at the token, and these are the levels behind it
abbrev pub Goes : Levels → Levels → Option Limit → Type 0
Goes behind new None = new ≡ behind
Goes behind new (Some l) = Unit {0}
