-- What a word is by the library's words is what it is by ours.
use Rattle.std.proofs.Common.{◌≡◌, ◌&&◌, ◌==◌, ℕ, Bool, cond, true, false, refl, ap, List, [], ◌∷◌, length, drop, Option, Some, None, codes}
use Rattle.std.specs.Prelude.{encode_utf8, option_and_then, slice_get}
use Rattle.std.specs.Option.{option_map_or}
use Rattle.std.specs.Str.{bytes_eq, chars}
use Rattle.clap.specs.Lexer.{long_of, long_of_rest, short_of, short_of_rest, strip_byte}
use Rattle.clap.specs.Walk.{attached_value}
use Rattle.asprin_words.specs.Spelled.{Form, Known, Text, attached, ends, form_of, hyphen_form, known_long, known_short, letter_form, option_form, parted, plain}

attached_agrees : (text : Text) → attached text ≡ attached_value text
attached_agrees [] = refl
attached_agrees (b ∷ text) = go (b == 61)
  where
    go : (is : Bool) → cond is (Some text) (Some (b ∷ text)) ≡ option_map_or (λ v. Some v) (cond is (Some text) None) (Some (b ∷ text))
    go true = refl
    go false = refl

abbrev pub parsed_letter : List Known → Text → Option ℕ → Form
parsed_letter t text None = plain
parsed_letter t text (Some c) = option_form (known_short t c) (attached_value (drop (length (encode_utf8 c)) text))

letters_agree : (t : List Known) (text : Text) (first : Option ℕ) → letter_form t text first ≡ parsed_letter t text first
letters_agree t text None = refl
letters_agree t text (Some c) = ap (option_form (known_short t c)) (attached_agrees (drop (length (encode_utf8 c)) text))

abbrev pub parsed_hyphens : List Known → Option (Text × Option Text) → Option Text → Form
parsed_hyphens t (Some p) text = option_form (known_long t p.0) p.1
parsed_hyphens t None (Some text) = parsed_letter t text (slice_get (chars text) 0)
parsed_hyphens t None None = plain

abbrev pub parsed_form : List Known → Text → Form
parsed_form t word = cond (bytes_eq word (codes "--")) ends (parsed_hyphens t (long_of word) (short_of word))

pub forms_agree : (t : List Known) (word : Text) → form_of t word ≡ parsed_form t word
forms_agree t [] = refl
forms_agree t (a ∷ word) = first (a == 45)
  where
    -- behind `--`
    named : (text : Text) → cond (bytes_eq text []) ends (option_form (known_long t (parted text).0) (parted text).1)
        ≡ cond (bytes_eq text []) ends (parsed_hyphens t (long_of_rest text) None)
    named [] = refl
    named (c ∷ text) = refl

    -- behind `-`
    second : (text : Text) → cond (bytes_eq text (codes "-")) ends (hyphen_form t (Some text))
        ≡ cond (bytes_eq text (codes "-")) ends (parsed_hyphens t (option_and_then long_of_rest (strip_byte 45 text)) (short_of_rest text))
    second [] = refl
    second (b ∷ text) = go (b == 45)
      where
        go : (is : Bool)
            → cond (is && bytes_eq text []) ends (cond is (option_form (known_long t (parted text).0) (parted text).1) (letter_form t (b ∷ text) (slice_get (chars (b ∷ text)) 0)))
            ≡ cond (is && bytes_eq text []) ends (parsed_hyphens t (option_and_then long_of_rest (cond is (Some text) None)) (cond is None (Some (b ∷ text))))
        go true = named text
        go false = letters_agree t (b ∷ text) (slice_get (chars (b ∷ text)) 0)

    first : (is : Bool)
        → cond (is && bytes_eq word (codes "-")) ends (hyphen_form t (cond is (Some word) None))
        ≡ cond (is && bytes_eq word (codes "-")) ends (parsed_hyphens t (option_and_then long_of_rest (option_and_then (strip_byte 45) (cond is (Some word) None))) (option_and_then short_of_rest (cond is (Some word) None)))
    first true = second word
    first false = refl
