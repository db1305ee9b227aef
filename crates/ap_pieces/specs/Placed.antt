-- Occurrences as they are collected.
use Rattle.std.specs.Prelude.{Bool, ◌&&◌, List, map}
use Rattle.ap_pieces.specs.declared.variables.Occurrence.{Occurrence}

-- the occurrences in a term that stands where an argument may, or under an operator
abbrev pub placed : Bool → List Occurrence → List Occurrence
placed free os = map (λ (o : Occurrence). record { name = o.name; is_argument = free && o.is_argument }) os
