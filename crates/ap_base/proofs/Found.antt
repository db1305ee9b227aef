-- Searches in a list of files.
use Rattle.std.proofs.Common.{◌≡◌, ℕ, zero, suc, ◌<◌, List, [], ◌∷◌, length, drop, get_or, Some, true, arith, string_bytes}
use Rattle.std.proofs.lemmas.Grind.{common_steps}
use Rattle.std.specs.Str.{bytes_eq}
use Rattle.ap_base.specs.Inputs.{find_input}
use Rattle.ap_base.specs.MemSource.{inputs_of, left_of}
use Rattle.ap_base.specs.declared.mem_source.NamedBytes.{NamedBytes}

-- the file at a place is the one that is found from there on, where it has the name
pub found : (files : List NamedBytes) (name : List ℕ) (at : ℕ) (file : NamedBytes) → at < length files → file ≡ get_or files at file
    → bytes_eq (string_bytes file.name) name ≡ true → find_input (inputs_of (drop at files)) name ≡ Some (left_of files (Some at) 0)
found [] name at file less is same = grind arith
found (first ∷ files) name zero file less is same = grind (arith, common_steps)
found (first ∷ files) name (suc at) file less is same = grind (arith, common_steps, found files name at file)
