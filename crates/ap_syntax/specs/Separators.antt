-- What stands between the members of a list.
use Rattle.std.specs.Prelude.{List, codes}
use Rattle.ap_syntax.specs.declared.printed_lists.Separator.{Separator}
use Rattle.ap_syntax.specs.declared.printed_lists.Separator.TheVariants.{Comma, Semicolon, Better, And, Or}
use Rattle.ap_syntax.specs.Pieces.{Piece, spaced, spaced_behind}

abbrev pub between : Separator → List Piece
between Comma = spaced_behind (codes ",")
between Semicolon = spaced_behind (codes ";")
between Better = spaced (codes ">>")
between And = spaced (codes "&")
between Or = spaced (codes "|")
