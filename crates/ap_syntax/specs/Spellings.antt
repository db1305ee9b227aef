-- The bytes of a text, wherever they stand.
use Rattle.std.specs.Prelude.{ℕ, List, string_bytes}
use Rattle.ap_syntax.specs.declared.text.Spelling.{Spelling}
use Rattle.ap_syntax.specs.declared.text.Spelling.TheVariants.{Short, Long}

abbrev pub spelled_bytes : Spelling → List ℕ
spelled_bytes (Short short) = short.bytes
spelled_bytes (Long long) = string_bytes long
