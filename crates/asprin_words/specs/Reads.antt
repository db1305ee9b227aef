-- What a function that reads a part of the words answers.
use Rattle.std.specs.Prelude.{◌≡◌, map, Option, None, Some, Result, Ok, Err, option_map, string_bytes}
use Rattle.asprin_words.specs.Asked.{Asked, AskedLed, Auditing, Solving, audit, solve, texts_of}
use Rattle.asprin_words.specs.Values.{Meaning, Setting, Source, files, made, minus, number, symbol}
use Rattle.asprin_words.specs.Values as value
use Rattle.asprin_words.specs.declared.fault.WordsFault.{WordsFault}
use Rattle.asprin_words.specs.declared.fault.WordsFault.TheVariants.{Usage, Memory}
use Rattle.asprin_words.specs.declared.words.Audit.{Audit}
use Rattle.asprin_words.specs.declared.words.Certificate.{Certificate}
use Rattle.asprin_words.specs.declared.words.Constant.{Constant}
use Rattle.asprin_words.specs.declared.words.ConstantValue.{ConstantValue}
use Rattle.asprin_words.specs.declared.words.ConstantValue.TheVariants.{Minus, Name, Number}
use Rattle.asprin_words.specs.declared.words.Input.{Input}
use Rattle.asprin_words.specs.declared.words.Input.TheVariants.{Files, Made}
use Rattle.asprin_words.specs.declared.values.LedFiles.{LedFiles}
use Rattle.asprin_words.specs.declared.words.LedWords.{LedWords}
use Rattle.asprin_words.specs.declared.words.Solve.{Solve}
use Rattle.asprin_words.specs.declared.words.Words.{Words}
use Rattle.asprin_words.specs.declared.words.Words.TheVariants as words

-- the value of the part, seen so; the words are refused exactly where the part has none; memory may run out in any place
abbrev pub Reads : {A B : Type 0} → (A → B) → Option B → Result A WordsFault → Type 0
Reads view part (Ok x) = part ≡ Some (view x)
Reads view part (Err Usage) = part ≡ None
Reads view part (Err Memory) = Unit {0}

abbrev pub meaning_of : ConstantValue → Meaning
meaning_of (Name text) = symbol (string_bytes text)
meaning_of (Number n) = number n
meaning_of (Minus n) = minus n

abbrev pub setting_of : Constant → Setting
setting_of c = record { name = string_bytes c.name; meaning = meaning_of c.value }

abbrev pub certificate_of : Certificate → value.Certificate
certificate_of c = record { file = string_bytes c.file; binary = c.binary }

abbrev pub source_of : Input → Source
source_of (Files names) = files (texts_of names.items)
source_of (Made offers) = made offers

abbrev pub solving_of : Solve → Solving
solving_of w = record {
  wanted = w.wanted;
  sorted = w.sorted;
  budget = w.budget;
  chains = w.chains;
  certificate = option_map certificate_of w.certificate;
  constants = map setting_of w.constants.items;
  source = source_of w.input;
}

abbrev pub auditing_of : Audit → Auditing
auditing_of w = record { budget = w.budget; constants = map setting_of w.constants.items; files = texts_of w.files.items }

abbrev pub asked_of : Words → Asked
asked_of (words.Solve w) = solve (solving_of w)
asked_of (words.Audit w) = audit (auditing_of w)

abbrev pub led_of : LedFiles → value.Led
led_of l = record { first = string_bytes l.first; files = texts_of l.files.items }

abbrev pub led_asked_of : LedWords → AskedLed
led_asked_of w = record { constants = map setting_of w.constants.items; led = record { first = string_bytes w.first; files = texts_of w.files.items } }
