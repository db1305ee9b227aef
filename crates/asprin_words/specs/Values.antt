-- The values of options, by the rules of each.
use Rattle.std.specs.Prelude.{ℕ, ◌+◌, ◌-◌, ◌*◌, ◌==◌, ◌&&◌, ◌||◌, Bool, false, not, List, [], ◌∷◌, ◌++◌, length, codes, if◌then◌else◌, nat_le, nat_lt, Option, Some, None, option_map, option_and_then}
use Rattle.std.specs.List.{fold, list_all, list_any}
use Rattle.std.specs.Str.{bytes_eq}
use Rattle.asprin_words.specs.Spelled.{Text, parted}

-- ---- numbers

abbrev pub is_digit : ℕ → Bool
is_digit b = nat_le 48 b && nat_le b 57

-- one to eighteen digits
abbrev pub is_number : Text → Bool
is_number text = nat_le 1 (length text) && nat_le (length text) 18 && list_all is_digit text

abbrev pub one_digit_more : ℕ → ℕ → ℕ
one_digit_more n d = n * 10 + (d - 48)

abbrev pub number_value : Text → ℕ
number_value text = fold one_digit_more 0 text

abbrev pub number_in : ℕ → ℕ → Text → Option ℕ
number_in low high text =
    if is_number text && nat_le low (number_value text) && nat_le (number_value text) high then Some (number_value text) else None

-- the number of an option that may be left out
abbrev pub number_or : ℕ → ℕ → ℕ → Option Text → Option ℕ
number_or low high default None = Some default
number_or low high default (Some text) = number_in low high text

-- ---- constants

abbrev pub is_small_letter : ℕ → Bool
is_small_letter b = nat_le 97 b && nat_le b 122

-- a letter, a digit, `_` (95) or `'` (39)
abbrev pub is_name_byte : ℕ → Bool
is_name_byte b = is_small_letter b || nat_le 65 b && nat_le b 90 || is_digit b || b == 95 || b == 39

-- any number of `_`, a letter a to z, and then letters, digits, `_` and `'`
abbrev pub is_name_text : Text → Bool
is_name_text [] = false
is_name_text (b ∷ bs) = if b == 95 then is_name_text bs else is_small_letter b && list_all is_name_byte bs

abbrev pub is_identifier : Text → Bool
is_identifier text = is_name_text text && not (bytes_eq text (codes "not"))

-- what a constant stands for: a name, a number, or a number behind a `-`
pub data Meaning : Type 0 where
  symbol : Text → Meaning
  number : ℕ → Meaning
  minus : ℕ → Meaning

-- a number up to 2147483647, with an optional `-` (45)
abbrev pub signed_number : Text → Option Meaning
signed_number [] = None
signed_number (b ∷ bs) = if b == 45 then option_map minus (number_in 0 2147483647 bs) else option_map number (number_in 0 2147483647 (b ∷ bs))

abbrev pub meaning_of : Text → Option Meaning
meaning_of text = if is_identifier text then Some (symbol text) else signed_number text

pub record Setting : Type 0 where
  pub name : Text
  pub meaning : Meaning

abbrev pub setting_by : Text → Option Text → Option Setting
setting_by name None = None
setting_by name (Some value) = if is_identifier name then option_map (λ m. record { name = name; meaning = m }) (meaning_of value) else None

-- `name=value`, parted at the first `=`
abbrev pub setting_given : Text → Option Setting
setting_given text = setting_by (parted text).0 (parted text).1

abbrev pub is_set : Text → List Setting → Bool
is_set name settings = list_any (λ s. bytes_eq s.name name) settings

abbrev pub with_setting : List Setting → Option Setting → Option (List Setting)
with_setting before None = None
with_setting before (Some s) = if is_set s.name before then None else Some (before ++ s ∷ [])

-- the constants behind those before them, with different names
abbrev pub settings_from : List Setting → List Text → Option (List Setting)
settings_from before [] = Some before
settings_from before (text ∷ texts) = option_and_then (λ now. settings_from now texts) (with_setting before (setting_given text))

-- ---- files

-- one to 10,000 files with no empty name
abbrev pub are_files : List Text → Bool
are_files names = nat_lt 0 (length names) && nat_le (length names) 10000 && list_all (λ name. not (length name == 0)) names

abbrev pub files_given : List Text → Option (List Text)
files_given names = if are_files names then Some names else None

-- what is read: files, or the one file that is made for so many offers
pub data Source : Type 0 where
  files : List Text → Source
  made : ℕ → Source

-- with a number of offers stand no files
abbrev pub source_given : Option Text → List Text → Option Source
source_given None names = option_map files (files_given names)
source_given (Some offers) [] = option_map made (number_in 1 5000 offers)
source_given (Some offers) (name ∷ names) = None

-- a file that is no input, and the files behind it
pub record Led : Type 0 where
  pub first : Text
  pub files : List Text

abbrev pub led_by : List Text → Option Led
led_by [] = None
led_by (name ∷ names) = if not (length name == 0) && are_files names then Some (record { first = name; files = names }) else None

-- ---- options that hang on one another

-- How many sets are wanted, where 0 means all: one where the words do not say, and all with a number of offers, beside which no number
-- of sets stands.
abbrev pub wanted_given : Option Text → Option Text → Option ℕ
wanted_given None sets = number_or 0 4294967295 1 sets
wanted_given (Some offers) None = Some 0
wanted_given (Some offers) (Some sets) = None

-- a certificate: its file, and whether it is binary
pub record Certificate : Type 0 where
  pub file : Text
  pub binary : Bool

-- `--binary` stands only beside `--cert`, of which the value is not empty
abbrev pub certificate_given : Option Text → Bool → Option (Option Certificate)
certificate_given None binary = if binary then None else Some None
certificate_given (Some file) binary = if length file == 0 then None else Some (Some (record { file = file; binary = binary }))
