-- Which `#program` statements change the part.
use Rattle.std.specs.Prelude.{Bool, true, false, List, [], ◌∷◌, if◌then◌else◌}
use Rattle.std.specs.Str.{bytes_eq}
use Rattle.ap_syntax.specs.declared.programs.PartKind.{PartKind}
use Rattle.ap_syntax.specs.declared.programs.PartKind.TheVariants as parts
use Rattle.ap_syntax.specs.declared.programs.Statement.{Statement}
use Rattle.ap_syntax.specs.declared.programs.Statement.TheVariants as statements

-- whether two parts are one
abbrev pub same_part : PartKind → PartKind → Bool
same_part parts.Base parts.Base = true
same_part (parts.Kind x) (parts.Kind y) = bytes_eq x y
same_part p q = false

-- whether a statement opens the part that is in force
abbrev pub repeats : PartKind → Statement → Bool
repeats part (statements.Part file at new) = same_part part new
repeats part s = false

-- the part in force behind a statement
abbrev pub part_after : PartKind → Statement → PartKind
part_after part (statements.Part file at new) = new
part_after part s = part

-- the statements without each `#program` that opens the part already in force
abbrev pub changing : PartKind → List Statement → List Statement
changing part [] = []
changing part (s ∷ ss) = if repeats part s then changing part ss else s ∷ changing (part_after part s) ss
