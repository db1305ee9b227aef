-- The canonical text of a program: one statement on each line, in order, each `#program` among them.
use Rattle.std.specs.Prelude.{ℕ, List, [], ◌∷◌, ◌++◌, codes, Option, Some, None}
use Rattle.std.specs.Fmt.{decimal}
use Rattle.std.specs.List.{flat_map}
use Rattle.ap_syntax.specs.declared.programs.PartKind.{PartKind}
use Rattle.ap_syntax.specs.declared.programs.PartKind.TheVariants.{Base, Kind}
use Rattle.ap_syntax.specs.declared.programs.Program.{Program}
use Rattle.ap_syntax.specs.declared.programs.Statement.{Statement}
use Rattle.ap_syntax.specs.declared.programs.Statement.TheVariants as statements
use Rattle.ap_syntax.specs.Pieces.{Piece, in_parentheses, spaced, spaced_behind, spelled, text_of}
use Rattle.ap_syntax.specs.CanonicalTerms.{term_pieces}
use Rattle.ap_syntax.specs.CanonicalRules.{rule_pieces}
use Rattle.ap_syntax.specs.CanonicalPreferences.{kind_pieces, preference_pieces}

-- a name and an arity; this `/` is no operator
abbrev pub signature_pieces : List ℕ → ℕ → List Piece
signature_pieces name arity = spelled name ++ spelled (codes "/") ++ spelled (decimal arity)

abbrev pub show_pieces : Option (List ℕ × ℕ) → List Piece
show_pieces None = spelled (codes "#show") ++ spelled (codes ".")
show_pieces (Some signature) =
    spaced_behind (codes "#show") ++ signature_pieces signature.0 signature.1 ++ spelled (codes ".")

abbrev pub part_pieces : PartKind → List Piece
part_pieces Base = spaced_behind (codes "#program") ++ spelled (codes "base") ++ spelled (codes ".")
part_pieces (Kind kind) =
    spaced_behind (codes "#program") ++ spelled (codes "preference") ++ in_parentheses (kind_pieces kind)
    ++ spelled (codes ".")

abbrev pub statement_pieces : Statement → List Piece
statement_pieces (statements.Rule rule) = rule_pieces rule
statement_pieces (statements.Const file at name value) =
    spaced_behind (codes "#const") ++ spelled name ++ spaced (codes "=") ++ term_pieces value ++ spelled (codes ".")
statement_pieces (statements.Show signature) = show_pieces signature
statement_pieces (statements.Defined name arity) =
    spaced_behind (codes "#defined") ++ signature_pieces name arity ++ spelled (codes ".")
statement_pieces (statements.Part file at part) = part_pieces part
statement_pieces (statements.Preference p) = preference_pieces p
statement_pieces (statements.Optimize file at name) =
    spelled (codes "#optimize") ++ in_parentheses (spelled name) ++ spelled (codes ".")

-- the line of a statement
abbrev pub line_pieces : Statement → List Piece
line_pieces statement = statement_pieces statement ++ Piece.LineFeed ∷ []

abbrev pub canonical_pieces : Program → List Piece
canonical_pieces program = flat_map line_pieces program.statements

abbrev pub canonical_text : Program → List ℕ
canonical_text program = text_of (canonical_pieces program)
