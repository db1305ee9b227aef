-- Rows of words, by the definition alone.
use Rattle.std.proofs.Common.{◌≡◌, ℕ, false, refl, List, [], ◌∷◌, Option, Some, None, codes}
use Rattle.std.specs.Char.{encode_utf8}
use Rattle.std.specs.Str.{chars}
use Rattle.asprin_words.specs.Asked.{Asked, asked_by, audit, solve}
use Rattle.asprin_words.specs.Spelled.{uses_from}
use Rattle.asprin_words.specs.Values.{Setting, Source, files, made, minus}

-- the words with nothing but a number, files and constants
abbrev plainly : ℕ → List Setting → Source → Option Asked
plainly wanted constants source =
    Some (solve (record { wanted = wanted; sorted = false; budget = 200000; chains = 1; certificate = None; constants = constants; source = source }))

no_words : asked_by [] ≡ None
unfolding uses_from
no_words = refl

one_file : asked_by (codes "f" ∷ []) ≡ plainly 1 [] (files (codes "f" ∷ []))
unfolding uses_from chars encode_utf8
one_file = refl

next_word : asked_by (codes "-n" ∷ codes "7" ∷ codes "f" ∷ []) ≡ plainly 7 [] (files (codes "f" ∷ []))
unfolding uses_from chars encode_utf8
next_word = refl

same_word : asked_by (codes "f" ∷ codes "-n7" ∷ []) ≡ plainly 7 [] (files (codes "f" ∷ []))
unfolding uses_from chars encode_utf8
same_word = refl

with_equals : asked_by (codes "-n=7" ∷ codes "f" ∷ []) ≡ plainly 7 [] (files (codes "f" ∷ []))
unfolding uses_from chars encode_utf8
with_equals = refl

number_twice : asked_by (codes "-n" ∷ codes "1" ∷ codes "-n" ∷ codes "2" ∷ codes "f" ∷ []) ≡ None
unfolding uses_from chars encode_utf8
number_twice = refl

negative_number : asked_by (codes "-n" ∷ codes "-5" ∷ codes "f" ∷ []) ≡ None
unfolding uses_from chars encode_utf8
negative_number = refl

offers_and_file : asked_by (codes "--make=3" ∷ codes "f" ∷ []) ≡ None
unfolding uses_from chars encode_utf8
offers_and_file = refl

offers : asked_by (codes "--make=3" ∷ []) ≡ plainly 0 [] (made 3)
unfolding uses_from chars encode_utf8
offers = refl

behind_dashes : asked_by (codes "-" ∷ codes "--" ∷ codes "-x" ∷ codes "--" ∷ []) ≡ plainly 1 [] (files (codes "-" ∷ codes "-x" ∷ codes "--" ∷ []))
unfolding uses_from chars encode_utf8
behind_dashes = refl

nineteen_digits : asked_by (codes "-n" ∷ codes "0000000000000000005" ∷ codes "f" ∷ []) ≡ None
unfolding uses_from chars encode_utf8
nineteen_digits = refl

short_name : asked_by (codes "--sort" ∷ codes "f" ∷ []) ≡ None
unfolding uses_from chars encode_utf8
short_name = refl

constant : asked_by (codes "-c" ∷ codes "n=-3" ∷ codes "f" ∷ []) ≡ plainly 1 (record { name = codes "n"; meaning = minus 3 } ∷ []) (files (codes "f" ∷ []))
unfolding uses_from chars encode_utf8
constant = refl

binary_alone : asked_by (codes "--binary" ∷ codes "f" ∷ []) ≡ None
unfolding uses_from chars encode_utf8
binary_alone = refl

audited : asked_by (codes "--audit" ∷ codes "--budget=5" ∷ codes "f" ∷ []) ≡ Some (audit (record { budget = 5; constants = []; files = codes "f" ∷ [] }))
unfolding uses_from chars encode_utf8
audited = refl

audited_sorted : asked_by (codes "--audit" ∷ codes "--sorted" ∷ codes "f" ∷ []) ≡ None
unfolding uses_from chars encode_utf8
audited_sorted = refl
