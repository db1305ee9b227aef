-- How the words of a command line are spelled: options with their values, flags, and files.
use Rattle.std.specs.Prelude.{ℕ, ◌==◌, ◌&&◌, Bool, true, false, not, List, [], ◌∷◌, map, length, drop, codes, if◌then◌else◌, Option, Some, None, option_map, encode_utf8, slice_get, find, is_some}
use Rattle.std.specs.List.{list_any, before_first, after_first}
use Rattle.std.specs.Option.{option_map_or}
use Rattle.std.specs.Str.{bytes_eq, chars}

-- a text, by its bytes
abbrev pub Text : Type 0
Text = List ℕ

-- an option stands alone; or it has a value and stands once; or it has a value and may be repeated
pub data Sort : Type 0 where
  flag : Sort
  single : Sort
  repeated : Sort

-- an option that a program knows, and how it is written: `-c` for the letter c, or `--name`
pub record Known : Type 0 where
  pub name : Text
  pub long : Option Text
  pub short : Option ℕ
  pub sort : Sort

abbrev pub letter : ℕ → Sort → Known
letter c sort = record { name = c ∷ []; long = None; short = Some c; sort = sort }

abbrev pub named : Text → Sort → Known
named name sort = record { name = name; long = Some name; short = None; sort = sort }

-- what a word or two ask for: an option with its value, where that of a flag is `true`; a file is a value of FILE
pub record Use : Type 0 where
  pub name : Text
  pub sort : Sort
  pub value : Text

abbrev pub used_with : Known → Text → Use
used_with k value = record { name = k.name; sort = k.sort; value = value }

abbrev pub file_name : Text
file_name = codes "FILE"

abbrev pub file : Text → Use
file name = record { name = file_name; sort = repeated; value = name }

-- ---- one word

abbrev pub known_long : List Known → Text → Option Known
known_long t name = find (λ k. option_map_or (λ s. bytes_eq s name) k.long false) t

abbrev pub known_short : List Known → ℕ → Option Known
known_short t c = find (λ k. option_map_or (λ s. s == c) k.short false) t

-- what stands behind a hyphen (45) that a word begins with
abbrev pub behind_hyphen : Text → Option Text
behind_hyphen [] = None
behind_hyphen (b ∷ text) = if b == 45 then Some text else None

-- what stands before the first `=` (61), and what stands behind it if there is one
abbrev pub parted : Text → Text × Option Text
parted text = (
  before_first (λ b. b == 61) text,
  if list_any (λ b. b == 61) text then Some (after_first (λ b. b == 61) text) else None,
)

-- the value that stands behind a letter in its word, with one `=` taken off; none where the word ends there
abbrev pub attached : Text → Option Text
attached [] = None
attached (b ∷ text) = if b == 61 then Some text else Some (b ∷ text)

-- what a word is that no option waits for: refused, the end of the options, no option, an option with its value, or an option whose
-- value is the next word
pub data Form : Type 0 where
  stray : Form
  ends : Form
  plain : Form
  whole : Known → Text → Form
  waits : Known → Form

-- an option of this sort, with the value that stands in its own word
abbrev pub sort_form : Sort → Known → Option Text → Form
sort_form flag k None = whole k (codes "true")
sort_form flag k (Some value) = stray
sort_form single k None = waits k
sort_form single k (Some value) = whole k value
sort_form repeated k None = waits k
sort_form repeated k (Some value) = whole k value

abbrev pub option_form : Option Known → Option Text → Form
option_form None value = stray
option_form (Some k) value = sort_form k.sort k value

-- `-cVALUE` and `-c=VALUE`, by the first character behind the `-`; each text has one, and bytes that are no text are no option
abbrev pub letter_form : List Known → Text → Option ℕ → Form
letter_form t text None = plain
letter_form t text (Some c) = option_form (known_short t c) (attached (drop (length (encode_utf8 c)) text))

-- by what stands behind a first `-`: what begins with none is no option, and neither is `-` alone; then `--name` and `--name=VALUE`;
-- else a letter
abbrev pub hyphen_form : List Known → Option Text → Form
hyphen_form t None = plain
hyphen_form t (Some []) = plain
hyphen_form t (Some (b ∷ text)) =
    if b == 45 then option_form (known_long t (parted text).0) (parted text).1 else letter_form t (b ∷ text) (slice_get (chars (b ∷ text)) 0)

abbrev pub form_of : List Known → Text → Form
form_of t word = if bytes_eq word (codes "--") then ends else hyphen_form t (behind_hyphen word)

-- ---- all words

abbrev pub then_use : Use → Option (List Use) → Option (List Use)
then_use u = option_map (λ us. u ∷ us)

-- a word, where it is the value that an option waits for
abbrev pub value_then : Form → Known → Text → Option (List Use) → Option (List Use)
value_then plain k word others = then_use (used_with k word) others
value_then _ k word others = None

-- a word, and what the words behind it ask for
abbrev pub word_then : Form → Text → List Text → Option (List Use) → (Known → Option (List Use)) → Option (List Use)
word_then stray word rest others value = None
word_then ends word rest others value = Some (map file rest)
word_then plain word rest others value = then_use (file word) others
word_then (whole k text) word rest others value = then_use (used_with k text) others
word_then (waits k) word rest others value = value k

-- what the words ask for, in order, where an option may wait for its value; nothing where a word is refused or a value is missing
unfoldable pub uses_from : List Known → Option Known → List Text → Option (List Use)
uses_from t None [] = Some []
uses_from t (Some k) [] = None
uses_from t None (word ∷ rest) = word_then (form_of t word) word rest (uses_from t None rest) (λ k. uses_from t (Some k) rest)
uses_from t (Some k) (word ∷ rest) = value_then (form_of t word) k word (uses_from t None rest)

abbrev pub uses_of : List Known → List Text → Option (List Use)
uses_of t words = uses_from t None words

-- ---- repeated options

abbrev pub may_repeat : Sort → Bool
may_repeat repeated = true
may_repeat _ = false

-- the second use is of the first one's option, and that may not be repeated
abbrev pub repeats : Use → Use → Bool
repeats u v = bytes_eq u.name v.name && not (may_repeat v.sort)

-- no option is used again, but one that may be repeated
abbrev pub stand_once : List Use → Bool
stand_once [] = true
stand_once (u ∷ us) = not (list_any (repeats u) us) && stand_once us

abbrev pub where_once : Option (List Use) → Option (List Use)
where_once None = None
where_once (Some us) = if stand_once us then Some us else None

-- what the words ask for, where they are spelled well and repeat nothing
abbrev pub taken_of : List Known → List Text → Option (List Use)
taken_of t words = where_once (uses_of t words)

-- ---- what stands for an option

-- the values of an option, in order
abbrev pub values_of : Text → List Use → List Text
values_of name [] = []
values_of name (u ∷ us) = if bytes_eq u.name name then u.value ∷ values_of name us else values_of name us

-- the first value of an option
abbrev pub value_of : Text → List Use → Option Text
value_of name uses = slice_get (values_of name uses) 0

-- an option is used
abbrev pub is_used : Text → List Use → Bool
is_used name uses = is_some (value_of name uses)

abbrev pub is_true : Option Text → Bool
is_true None = false
is_true (Some text) = bytes_eq text (codes "true")

-- a flag is used
abbrev pub is_flagged : Text → List Use → Bool
is_flagged name uses = is_true (value_of name uses)
