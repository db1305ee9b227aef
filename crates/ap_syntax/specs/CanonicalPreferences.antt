-- The canonical text of preference statements.
use Rattle.std.specs.Prelude.{ℕ, ◌==◌, not, List, [], ◌∷◌, ◌++◌, map, codes, Option, Some, None, take, drop, length, ◌-◌}
use Rattle.std.specs.List.{prefix_len}
use Rattle.ap_syntax.specs.declared.terms.Term.{Term}
use Rattle.ap_syntax.specs.declared.preferences.Element.{Element}
use Rattle.ap_syntax.specs.declared.preferences.Formula.{Formula, fold-Formula}
use Rattle.ap_syntax.specs.declared.preferences.Formula.TheOpen.{Formula-F}
use Rattle.ap_syntax.specs.declared.preferences.Preference.{Preference}
use Rattle.ap_syntax.specs.declared.preferences.Ranked.{Ranked}
use Rattle.ap_syntax.specs.declared.preferences.Target.{Target}
use Rattle.ap_syntax.specs.declared.preferences.Target.TheVariants.{For, Name}
use Rattle.ap_syntax.specs.Pieces.{Piece, in_braces, in_parentheses, parted, semicolons, spaced, spaced_behind, spelled}
use Rattle.ap_syntax.specs.CanonicalTerms.{Written, at_least, atom_pieces, terms_pieces}
use Rattle.ap_syntax.specs.CanonicalRules.{condition_pieces}

abbrev pub formula_step : Formula-F Written → Written
formula_step (Formula-F.Atom atom) = record { level = 3; pieces = atom_pieces atom }
formula_step (Formula-F.Not part) = record { level = 2; pieces = spaced_behind (codes "not") ++ at_least 3 part }
formula_step (Formula-F.And parts) = record { level = 1; pieces = parted (spaced (codes "&")) (map (at_least 2) parts) }
formula_step (Formula-F.Or parts) = record { level = 0; pieces = parted (spaced (codes "|")) (map (at_least 1) parts) }

abbrev pub formula_pieces : Formula → List Piece
formula_pieces formula = at_least 0 (fold-Formula Written formula_step formula)

abbrev pub target_pieces : Target → List Piece
target_pieces (For formula) = formula_pieces formula
target_pieces (Name name) = spelled (codes "**") ++ spelled name

-- the weights of a rank, and nothing where there are none
abbrev pub weight_pieces : List Term → List Piece
weight_pieces [] = []
weight_pieces (term ∷ terms) = terms_pieces (term ∷ terms) ++ spaced (codes "::")

abbrev pub ranked_pieces : Ranked → List Piece
ranked_pieces ranked = weight_pieces ranked.weights ++ target_pieces ranked.target

abbrev pub given_pieces : Option Ranked → List Piece
given_pieces None = []
given_pieces (Some ranked) = spaced (codes "||") ++ ranked_pieces ranked

abbrev pub element_pieces : Element → List Piece
element_pieces element =
    parted (spaced (codes ">>")) (map ranked_pieces element.ranks)
    ++ given_pieces element.given ++ condition_pieces element.domain

-- A type is written without blanks: its name, and in parentheses another one if there is one. Its characters are those of
-- the tree; this tells its tokens apart.
abbrev pub inner_pieces : List ℕ → List Piece
inner_pieces [] = []
inner_pieces (paren ∷ rest) =
    spelled (paren ∷ []) ++ spelled (take (length rest - 1) rest) ++ spelled (drop (length rest - 1) rest)

abbrev pub kind_pieces : List ℕ → List Piece
kind_pieces kind =
    let end = prefix_len (λ b. not (b == 40)) kind in
    spelled (take end kind) ++ inner_pieces (drop end kind)

abbrev pub preference_pieces : Preference → List Piece
preference_pieces p =
    spelled (codes "#preference") ++ in_parentheses (spelled p.name ++ spaced_behind (codes ",") ++ kind_pieces p.kind)
    ++ in_braces (semicolons (map element_pieces p.elements)) ++ spelled (codes ".")
