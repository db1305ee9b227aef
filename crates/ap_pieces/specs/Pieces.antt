-- Rules and elements as lists of pieces, in the order of the text: what they say of variables.
use Rattle.std.specs.Prelude.{ℕ, Bool, List, [], ◌∷◌, ◌++◌, map, flat_map, length, Option, Some, None, true, false}
use Rattle.ap_syntax.specs.declared.terms.Term.{Term, out-Term}
use Rattle.ap_syntax.specs.declared.terms.Term.TheOpen.{Term-F}
use Rattle.ap_syntax.specs.declared.terms.Atom.{Atom}
use Rattle.ap_syntax.specs.declared.terms.Rel.{Rel}
use Rattle.ap_syntax.specs.declared.terms.Rel.TheVariants.{Eq}
use Rattle.ap_syntax.specs.declared.terms.Literal.{Literal}
use Rattle.ap_syntax.specs.declared.terms.Literal.TheVariants.{Pos, Not, Compare}
use Rattle.ap_syntax.specs.declared.rules.Guard.{Guard}
use Rattle.ap_syntax.specs.declared.rules.ChoiceElement.{ChoiceElement}
use Rattle.ap_syntax.specs.declared.rules.AggElement.{AggElement}
use Rattle.ap_syntax.specs.declared.rules.BodyItem.{BodyItem}
use Rattle.ap_syntax.specs.declared.rules.BodyItem.TheVariants as items
use Rattle.ap_syntax.specs.declared.rules.HeadForm.{HeadForm}
use Rattle.ap_syntax.specs.declared.rules.HeadForm.TheVariants.{One, Choice, Nothing}
use Rattle.ap_syntax.specs.declared.rules.Rule.{Rule}
use Rattle.ap_syntax.specs.declared.preferences.Formula.{Formula, fold-Formula}
use Rattle.ap_syntax.specs.declared.preferences.Formula.TheOpen.{Formula-F}
use Rattle.ap_syntax.specs.declared.preferences.Target.{Target}
use Rattle.ap_syntax.specs.declared.preferences.Target.TheVariants.{For, Name}
use Rattle.ap_syntax.specs.declared.preferences.Ranked.{Ranked}
use Rattle.ap_syntax.specs.declared.preferences.Element.{Element}
use Rattle.ap_syntax.specs.declared.preferences.Preference.{Preference}
use Rattle.ap_pieces.specs.declared.variables.Occurrence.{Occurrence}
use Rattle.ap_pieces.specs.declared.pieces.Side.{Side}
use Rattle.ap_pieces.specs.declared.pieces.Side.TheVariants.{Variable, Any, Compound}
use Rattle.ap_pieces.specs.declared.pieces.Mention.{Mention}
use Rattle.ap_pieces.specs.declared.pieces.Mention.TheVariants as mentions
use Rattle.ap_pieces.specs.declared.pieces.Signature.{Signature}
use Rattle.ap_pieces.specs.declared.pieces.Piece.{Piece}
use Rattle.ap_pieces.specs.declared.pieces.Piece.TheVariants.{Uses, Plain, Value, Part}
use Rattle.ap_pieces.specs.Variables.{occurrences, occurrences_of, joined}

-- ---- literals

-- one side of a comparison: a variable, `_`, or any other term by what occurs in it
abbrev pub side_form : Term → Term-F Term → Side
side_form term (Term-F.Var name) = Variable name
side_form term Term-F.Any = Any
side_form term _ = Compound (occurrences term)

abbrev pub side_of : Term → Side
side_of term = side_form term (out-Term term)

abbrev pub side_occurrences : Side → List Occurrence
side_occurrences (Variable name) = record { name = Some name; is_argument = true } ∷ []
side_occurrences Any = record { name = None; is_argument = true } ∷ []
side_occurrences (Compound os) = os

abbrev pub comparison_of : Term → Rel → Term → Mention
comparison_of left Eq right = mentions.Equal (side_of left) (side_of right)
comparison_of left _ right = mentions.Other (occurrences left ++ occurrences right)

-- what a literal says of variables: positive atoms and `=` may bind some, and any other literal uses them
abbrev pub mention_of : Literal → Mention
mention_of (Pos atom) = mentions.Atom (occurrences_of atom.terms)
mention_of (Not atom) = mentions.Other (occurrences_of atom.terms)
mention_of (Compare left rel right) = comparison_of left rel right

abbrev pub mention_occurrences : Mention → List Occurrence
mention_occurrences (mentions.Atom os) = os
mention_occurrences (mentions.Equal left right) = side_occurrences left ++ side_occurrences right
mention_occurrences (mentions.Other os) = os

abbrev pub literal_occurrences : Literal → List Occurrence
literal_occurrences (Pos atom) = occurrences_of atom.terms
literal_occurrences (Not atom) = occurrences_of atom.terms
literal_occurrences (Compare left rel right) = occurrences left ++ occurrences right

-- ---- aggregates

-- the predicate of an atom
abbrev pub signature_of : Atom → Signature
signature_of atom = record { name = atom.name; arity = length atom.terms }

abbrev pub literal_signatures : Literal → List Signature
literal_signatures (Pos atom) = signature_of atom ∷ []
literal_signatures (Not atom) = signature_of atom ∷ []
literal_signatures (Compare left rel right) = []

-- the predicates that an element between braces mentions
abbrev pub tuple_signatures : AggElement → List Signature
tuple_signatures element = flat_map literal_signatures element.condition

-- the occurrences in an element between braces
abbrev pub tuple_occurrences : AggElement → List Occurrence
tuple_occurrences element = occurrences_of element.terms ++ flat_map literal_occurrences element.condition

-- a guard with `=` of an aggregate that is not negated is given a value by what stands between the braces; any other guard has its own
abbrev pub value_piece : Bool → Rel → Term → List AggElement → Piece
value_piece false Eq term elements = Value (side_of term) (flat_map tuple_occurrences elements) (flat_map tuple_signatures elements)
value_piece _ _ term elements = Uses (occurrences term)

abbrev pub value_pieces : Bool → Option Guard → List AggElement → List Piece
value_pieces negated None elements = []
value_pieces negated (Some guard) elements = value_piece negated guard.rel guard.term elements ∷ []

-- ---- rules

-- Terms outside braces and plain literals of the body bear global variables. A part is an element between braces, a conditional
-- literal or an element of a statement, and has a condition of its own.

abbrev pub guard_pieces : Option Guard → List Piece
guard_pieces None = []
guard_pieces (Some guard) = Uses (occurrences guard.term) ∷ []

abbrev pub choice_piece : ChoiceElement → Piece
choice_piece element = Part (occurrences_of element.atom.terms) (map mention_of element.condition)

abbrev pub tuple_piece : AggElement → Piece
tuple_piece element = Part (occurrences_of element.terms) (map mention_of element.condition)

abbrev pub head_pieces : HeadForm → List Piece
head_pieces (One atom) = Uses (occurrences_of atom.terms) ∷ []
head_pieces (Choice left elements right) = guard_pieces left ++ map choice_piece elements ++ guard_pieces right
head_pieces Nothing = []

abbrev pub item_pieces : BodyItem → List Piece
item_pieces (items.Plain literal) = Plain (mention_of literal) ∷ []
item_pieces (items.All at literal condition) = Part (literal_occurrences literal) (map mention_of condition) ∷ []
item_pieces (items.Agg negated left function elements right) =
    value_pieces negated left elements ++ map tuple_piece elements ++ value_pieces negated right elements

abbrev pub rule_pieces : Rule → List Piece
rule_pieces rule = head_pieces rule.head ++ flat_map item_pieces rule.body

-- all occurrences of a piece, in the order of the text
abbrev pub piece_occurrences : Piece → List Occurrence
piece_occurrences (Uses os) = os
piece_occurrences (Plain mention) = mention_occurrences mention
piece_occurrences (Value side inside mentioned) = side_occurrences side
piece_occurrences (Part os condition) = os ++ flat_map mention_occurrences condition

-- ---- elements of statements

abbrev pub formula_step : Formula-F (List Occurrence) → List Occurrence
formula_step (Formula-F.Atom atom) = occurrences_of atom.terms
formula_step (Formula-F.Not inner) = inner
formula_step (Formula-F.And members) = joined members
formula_step (Formula-F.Or members) = joined members

-- the occurrences in a formula's atoms
abbrev pub formula_occurrences : Formula → List Occurrence
formula_occurrences = fold-Formula (List Occurrence) formula_step

abbrev pub target_occurrences : Target → List Occurrence
target_occurrences (For formula) = formula_occurrences formula
target_occurrences (Name name) = []

abbrev pub ranked_occurrences : Ranked → List Occurrence
ranked_occurrences ranked = occurrences_of ranked.weights ++ target_occurrences ranked.target

abbrev pub given_occurrences : Option Ranked → List Occurrence
given_occurrences None = []
given_occurrences (Some ranked) = ranked_occurrences ranked

abbrev pub element_piece : Element → Piece
element_piece element = Part (flat_map ranked_occurrences element.ranks ++ given_occurrences element.given) (map mention_of element.domain)

-- ---- texts

-- a rule, or an element of a preference statement, with its place
pub record Source : Type 0 where
  pub file : ℕ
  pub at : ℕ
  pub pieces : List Piece

abbrev pub rule_source : Rule → Source
rule_source rule = record { file = rule.file; at = rule.at; pieces = rule_pieces rule }

abbrev pub element_source : ℕ → Element → Source
element_source file element = record { file = file; at = element.at; pieces = element_piece element ∷ [] }

abbrev pub statement_sources : Preference → List Source
statement_sources statement = map (element_source statement.file) statement.elements

abbrev pub sources : List Rule → List Preference → List Source
sources rules statements = map rule_source rules ++ flat_map statement_sources statements
