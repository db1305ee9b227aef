-- What the words ask for: `--sorted -n 0 FILE..`.
use Rattle.std.specs.Prelude.{ℕ, Bool, false, not, ◌&&◌, ◌==◌, List, [], ◌∷◌, Option, None, Some, if◌then◌else◌, codes, length, nat_le, nat_lt}
use Rattle.std.specs.List.{list_all}
use Rattle.std.specs.Str.{bytes_eq}

-- the name of a file is not empty and begins with no dash
abbrev pub is_file : List ℕ → Bool
is_file [] = false
is_file (b ∷ bs) = not (b == 45)

-- one to 10,000 names of files
abbrev pub are_files : List (List ℕ) → Bool
are_files names = nat_lt 0 (length names) && nat_le (length names) 10000 && list_all is_file names

-- the names of the files, where the words are of this form
abbrev pub files_of : List (List ℕ) → Option (List (List ℕ))
files_of (sorted ∷ number ∷ all ∷ names) =
    if bytes_eq sorted (codes "--sorted") && bytes_eq number (codes "-n") && bytes_eq all (codes "0") && are_files names
    then Some names else None
files_of _ = None

abbrev pub names_in : Option (List (List ℕ)) → List (List ℕ)
names_in None = []
names_in (Some files) = files

-- the names that the words ask for
abbrev pub asks_for : List (List ℕ) → List (List ℕ)
asks_for words = names_in (files_of words)
