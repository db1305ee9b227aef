-- What is written of each term.
use Rattle.std.proofs.Common.{◌≡◌, ℕ, pos, List, ◌∷◌, ◌++◌, map, sym, ap, ◌∙◌}
use Rattle.std.specs.Prelude.{codes}
use Rattle.std.specs.Fmt.{decimal}
use Rattle.ap_syntax.specs.declared.terms.ProductOp.{ProductOp}
use Rattle.ap_syntax.specs.declared.terms.SumOp.{SumOp}
use Rattle.ap_syntax.specs.declared.terms.Term.{Term, fold-roll-Term}
use Rattle.ap_syntax.specs.declared.terms.Term.TheVariants as terms
use Rattle.ap_syntax.specs.declared.terms.Term.TheOpen.{Term-F}
use Rattle.ap_syntax.specs.Pieces.{in_parentheses, spaced, spelled}
use Rattle.ap_syntax.specs.CanonicalTerms.{Written, applied, at_least, members, product_sign, quoted, sum_sign, term_pieces, term_step, written}
use Rattle.canonical_law.proofs.Terms.{term_pieces_of}

pub int_written : (n : ℕ) → written (terms.Int (pos n)) ≡ record { level = 4; pieces = spelled (decimal n) }
int_written n = ap written (sym (terms.rolls-Int (pos n))) ∙ fold-roll-Term Written term_step (Term-F.Int (pos n))

pub str_written : (cs : List ℕ) → written (terms.Str cs) ≡ record { level = 4; pieces = spelled (quoted cs) }
str_written cs = ap written (sym (terms.rolls-Str cs)) ∙ fold-roll-Term Written term_step (Term-F.Str cs)

pub var_written : (w : List ℕ) → written (terms.Var w) ≡ record { level = 4; pieces = spelled w }
var_written w = ap written (sym (terms.rolls-Var w)) ∙ fold-roll-Term Written term_step (Term-F.Var w)

pub const_written : (w : List ℕ) → written (terms.Const w) ≡ record { level = 4; pieces = spelled w }
const_written w = ap written (sym (terms.rolls-Const w)) ∙ fold-roll-Term Written term_step (Term-F.Const w)

pub any_written : written terms.Any ≡ record { level = 4; pieces = spelled (codes "_") }
any_written = ap written (sym terms.rolls-Any) ∙ fold-roll-Term Written term_step Term-F.Any

pub fun_written : (w : List ℕ) (x : Term) (xs : List Term) → written (terms.Fun w (x ∷ xs)) ≡ record { level = 4; pieces = applied w (map term_pieces (x ∷ xs)) }
fun_written w x xs = ap written (sym (terms.rolls-Fun w (x ∷ xs))) ∙ fold-roll-Term Written term_step (Term-F.Fun w (x ∷ xs)) ∙ ap (λ ps. record { level = 4; pieces = applied w ps }) (term_pieces_of (x ∷ xs))

pub tuple_written : (xs : List Term) → written (terms.Tuple xs) ≡ record { level = 4; pieces = in_parentheses (members (map term_pieces xs)) }
tuple_written xs = ap written (sym (terms.rolls-Tuple xs)) ∙ fold-roll-Term Written term_step (Term-F.Tuple xs) ∙ ap (λ ps. record { level = 4; pieces = in_parentheses (members ps) }) (term_pieces_of xs)

pub minus_written : (x : Term) → written (terms.Minus x) ≡ record { level = 3; pieces = spelled (codes "-") ++ at_least 4 (written x) }
minus_written x = ap written (sym (terms.rolls-Minus x)) ∙ fold-roll-Term Written term_step (Term-F.Minus x)

pub sum_written : (l : Term) (op : SumOp) (r : Term) → written (terms.Sum l op r) ≡ record { level = 1; pieces = at_least 1 (written l) ++ spaced (sum_sign op) ++ at_least 2 (written r) }
sum_written l op r = ap written (sym (terms.rolls-Sum l op r)) ∙ fold-roll-Term Written term_step (Term-F.Sum l op r)

pub product_written : (l : Term) (op : ProductOp) (r : Term) → written (terms.Product l op r) ≡ record { level = 2; pieces = at_least 2 (written l) ++ spaced (product_sign op) ++ at_least 3 (written r) }
product_written l op r = ap written (sym (terms.rolls-Product l op r)) ∙ fold-roll-Term Written term_step (Term-F.Product l op r)

pub range_written : (l r : Term) → written (terms.Range l r) ≡ record { level = 0; pieces = at_least 1 (written l) ++ spelled (codes "..") ++ at_least 1 (written r) }
range_written l r = ap written (sym (terms.rolls-Range l r)) ∙ fold-roll-Term Written term_step (Term-F.Range l r)

-- a number with a sign
pub negative_written : (n : ℕ) → written (terms.Minus (terms.Int (pos n))) ≡ record { level = 3; pieces = spelled (codes "-") ++ spelled (decimal n) }
negative_written n = minus_written (terms.Int (pos n)) ∙ ap (λ w. record { level = 3; pieces = spelled (codes "-") ++ at_least 4 w }) (int_written n)
