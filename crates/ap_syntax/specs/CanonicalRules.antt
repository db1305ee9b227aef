-- The canonical text of rules.
use Rattle.std.specs.Prelude.{ℕ, Bool, true, false, List, [], ◌∷◌, ◌++◌, map, codes, Option, Some, None}
use Rattle.ap_syntax.specs.declared.terms.Literal.{Literal}
use Rattle.ap_syntax.specs.declared.rules.AggElement.{AggElement}
use Rattle.ap_syntax.specs.declared.rules.BodyItem.{BodyItem}
use Rattle.ap_syntax.specs.declared.rules.BodyItem.TheVariants.{Plain, All, Agg}
use Rattle.ap_syntax.specs.declared.rules.ChoiceElement.{ChoiceElement}
use Rattle.ap_syntax.specs.declared.rules.Function.{Function}
use Rattle.ap_syntax.specs.declared.rules.Function.TheVariants.{Count, Sum}
use Rattle.ap_syntax.specs.declared.rules.Guard.{Guard}
use Rattle.ap_syntax.specs.declared.rules.HeadForm.{HeadForm}
use Rattle.ap_syntax.specs.declared.rules.HeadForm.TheVariants.{One, Choice, Nothing}
use Rattle.ap_syntax.specs.declared.rules.Rule.{Rule}
use Rattle.ap_syntax.specs.Pieces.{Piece, in_braces, semicolons, spaced, spaced_behind, spelled}
use Rattle.ap_syntax.specs.CanonicalTerms.{atom_pieces, literal_pieces, literals_pieces, rel_sign, term_pieces, terms_pieces}

-- what stands behind `:`, and nothing where there is no condition
abbrev pub condition_pieces : List Literal → List Piece
condition_pieces [] = []
condition_pieces (l ∷ ls) = spaced (codes ":") ++ literals_pieces (l ∷ ls)

-- a guard before the braces, and one behind them
abbrev pub left_pieces : Option Guard → List Piece
left_pieces None = []
left_pieces (Some guard) = term_pieces guard.term ++ spaced (rel_sign guard.rel)

abbrev pub right_pieces : Option Guard → List Piece
right_pieces None = []
right_pieces (Some guard) = spaced (rel_sign guard.rel) ++ term_pieces guard.term

abbrev pub choice_element_pieces : ChoiceElement → List Piece
choice_element_pieces element = atom_pieces element.atom ++ condition_pieces element.condition

abbrev pub agg_element_pieces : AggElement → List Piece
agg_element_pieces element = terms_pieces element.terms ++ condition_pieces element.condition

abbrev pub function_word : Function → List ℕ
function_word Count = codes "#count"
function_word Sum = codes "#sum"

abbrev pub negation_pieces : Bool → List Piece
negation_pieces true = spaced_behind (codes "not")
negation_pieces false = []

-- the condition of a conditional literal may be empty: its colon stands there then too
abbrev pub item_pieces : BodyItem → List Piece
item_pieces (Plain literal) = literal_pieces literal
item_pieces (All at literal condition) = literal_pieces literal ++ spaced (codes ":") ++ literals_pieces condition
item_pieces (Agg negated left function elements right) =
    negation_pieces negated ++ left_pieces left ++ spelled (function_word function)
    ++ in_braces (semicolons (map agg_element_pieces elements)) ++ right_pieces right

-- behind a conditional literal a comma would go on with its condition
abbrev pub separator : BodyItem → List Piece
separator (All at literal condition) = spaced_behind (codes ";")
separator item = spaced_behind (codes ",")

abbrev pub body_pieces : List BodyItem → List Piece
body_pieces [] = []
body_pieces (item ∷ []) = item_pieces item
body_pieces (item ∷ next ∷ rest) = item_pieces item ++ separator item ++ body_pieces (next ∷ rest)

abbrev pub head_pieces : HeadForm → List Piece
head_pieces (One atom) = atom_pieces atom
head_pieces (Choice left elements right) =
    left_pieces left ++ in_braces (semicolons (map choice_element_pieces elements)) ++ right_pieces right
head_pieces Nothing = []

-- the head and the body; a rule without a head begins with `:-`
abbrev pub clause_pieces : HeadForm → List BodyItem → List Piece
clause_pieces Nothing body = spaced_behind (codes ":-") ++ body_pieces body
clause_pieces head [] = head_pieces head
clause_pieces head (item ∷ body) = head_pieces head ++ spaced (codes ":-") ++ body_pieces (item ∷ body)

abbrev pub rule_pieces : Rule → List Piece
rule_pieces rule = clause_pieces rule.head rule.body ++ spelled (codes ".")
