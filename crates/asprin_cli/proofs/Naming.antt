-- The names of files.
use Rattle.std.proofs.Common.{◌≡◌, Bool, ◌&&◌, List, [], ◌∷◌, length, map, refl, ap, string_bytes}
use Rattle.std.specs.Prelude.{String, nat_le, nat_lt}
use Rattle.std.specs.List.{list_all}
use Rattle.std.specs.declared.alloc.Global.{Global}
use Rattle.std.proofs.lemmas.List.{length-map}
use Rattle.ap_base.specs.Readings.{texts_of}
use Rattle.asprin_cli.specs.Words.{are_files, is_file}

-- a test of what is made of the members of a list
all_map : {A B : Type 0} (test : B → Bool) (f : A → B) (xs : List A) → list_all test (map f xs) ≡ list_all (λ x. test (f x)) xs
all_map test f [] = refl
all_map test f (x ∷ xs) = ap (λ b. test (f x) && b) (all_map test f xs)

-- the names of files, by the words themselves
pub are_files_by : (words : List (String Global))
    → are_files (texts_of words) ≡ (nat_lt 0 (length words) && nat_le (length words) 10000 && list_all (λ word. is_file (string_bytes word)) words)
are_files_by words = rw (length-map, all_map) refl
