-- The canonical text of terms, atoms and literals.
use Rattle.std.specs.Prelude.{ℕ, ◌==◌, nat_le, List, [], ◌∷◌, ◌++◌, map, codes, if◌then◌else◌}
use Rattle.std.specs.List.{flat_map}
use Rattle.std.specs.Fmt.{signed_decimal}
use Rattle.ap_syntax.specs.declared.terms.Atom.{Atom}
use Rattle.ap_syntax.specs.declared.terms.Literal.{Literal}
use Rattle.ap_syntax.specs.declared.terms.Literal.TheVariants as literals
use Rattle.ap_syntax.specs.declared.terms.ProductOp.{ProductOp}
use Rattle.ap_syntax.specs.declared.terms.ProductOp.TheVariants.{Times, Over, Rest}
use Rattle.ap_syntax.specs.declared.terms.Rel.{Rel}
use Rattle.ap_syntax.specs.declared.terms.Rel.TheVariants.{Eq, Ne, Lt, Le, Gt, Ge}
use Rattle.ap_syntax.specs.declared.terms.SumOp.{SumOp}
use Rattle.ap_syntax.specs.declared.terms.SumOp.TheVariants as sums
use Rattle.ap_syntax.specs.declared.terms.Term.{Term, fold-Term}
use Rattle.ap_syntax.specs.declared.terms.Term.TheOpen.{Term-F}
use Rattle.ap_syntax.specs.Pieces.{Piece, commas, in_parentheses, spaced, spaced_behind, spelled}

-- a byte of a string: a line feed, a backslash and a quote are written with a backslash
abbrev pub escaped : ℕ → List ℕ
escaped b = if b == 10 then codes "\\n" else if b == 92 then codes "\\\\" else if b == 34 then codes "\\\"" else b ∷ []

abbrev pub quoted : List ℕ → List ℕ
quoted bytes = codes "\"" ++ flat_map escaped bytes ++ codes "\""

abbrev pub rel_sign : Rel → List ℕ
rel_sign Eq = codes "="
rel_sign Ne = codes "!="
rel_sign Lt = codes "<"
rel_sign Le = codes "<="
rel_sign Gt = codes ">"
rel_sign Ge = codes ">="

abbrev pub sum_sign : SumOp → List ℕ
sum_sign sums.Plus = codes "+"
sum_sign sums.Less = codes "-"

abbrev pub product_sign : ProductOp → List ℕ
product_sign Times = codes "*"
product_sign Over = codes "/"
product_sign Rest = codes "\\"

-- What is written, and how closely it binds. Of terms: 0 an interval, 1 a sum, 2 a product, 3 a negation, 4 anything
-- else. Of formulas: 0 a disjunction, 1 a conjunction, 2 a negation, 3 an atom.
pub record Written : Type 0 where
  pub level : ℕ
  pub pieces : List Piece

-- where something of this level or above may stand; anything looser stands in parentheses
abbrev pub at_least : ℕ → Written → List Piece
at_least level w = if nat_le level w.level then w.pieces else in_parentheses w.pieces

-- a name with its arguments, which stand in parentheses if there are any
abbrev pub applied : List ℕ → List (List Piece) → List Piece
applied name [] = spelled name
applied name (part ∷ parts) = spelled name ++ in_parentheses (commas (part ∷ parts))

-- the members of a tuple; a single one has a comma behind it
abbrev pub members : List (List Piece) → List Piece
members (part ∷ []) = part ++ spaced_behind (codes ",")
members parts = commas parts

-- one level of a term; a sum and a product go on to the right with what binds more closely
abbrev pub term_step : Term-F Written → Written
term_step (Term-F.Int number) = record { level = 4; pieces = spelled (signed_decimal number) }
term_step (Term-F.Str text) = record { level = 4; pieces = spelled (quoted text) }
term_step (Term-F.Const name) = record { level = 4; pieces = spelled name }
term_step (Term-F.Var name) = record { level = 4; pieces = spelled name }
term_step Term-F.Any = record { level = 4; pieces = spelled (codes "_") }
term_step (Term-F.Fun name parts) = record { level = 4; pieces = applied name (map (at_least 0) parts) }
term_step (Term-F.Tuple parts) = record { level = 4; pieces = in_parentheses (members (map (at_least 0) parts)) }
term_step (Term-F.Minus part) = record { level = 3; pieces = spelled (codes "-") ++ at_least 4 part }
term_step (Term-F.Sum left op right) =
    record { level = 1; pieces = at_least 1 left ++ spaced (sum_sign op) ++ at_least 2 right }
term_step (Term-F.Product left op right) =
    record { level = 2; pieces = at_least 2 left ++ spaced (product_sign op) ++ at_least 3 right }
term_step (Term-F.Range low high) =
    record { level = 0; pieces = at_least 1 low ++ spelled (codes "..") ++ at_least 1 high }

abbrev pub written : Term → Written
written = fold-Term Written term_step

-- a term, an atom, a literal
abbrev pub term_pieces : Term → List Piece
term_pieces term = at_least 0 (written term)

abbrev pub terms_pieces : List Term → List Piece
terms_pieces terms = commas (map term_pieces terms)

abbrev pub atom_pieces : Atom → List Piece
atom_pieces atom = applied atom.name (map term_pieces atom.terms)

abbrev pub literal_pieces : Literal → List Piece
literal_pieces (literals.Pos atom) = atom_pieces atom
literal_pieces (literals.Not atom) = spaced_behind (codes "not") ++ atom_pieces atom
literal_pieces (literals.Compare left rel right) = term_pieces left ++ spaced (rel_sign rel) ++ term_pieces right

abbrev pub literals_pieces : List Literal → List Piece
literals_pieces literals = commas (map literal_pieces literals)
