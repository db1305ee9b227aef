-- What is written for each form of a term.
use Rattle.std.proofs.Common.{◌≡◌, ℕ, List, [], ◌∷◌, ◌++◌, map, refl, sym, ap, ◌∙◌}
use Rattle.std.specs.Prelude.{codes}
use Rattle.ap_syntax.specs.declared.terms.ProductOp.{ProductOp}
use Rattle.ap_syntax.specs.declared.terms.SumOp.{SumOp}
use Rattle.ap_syntax.specs.declared.terms.Term.{Term, fold-roll-Term}
use Rattle.ap_syntax.specs.declared.terms.Term.TheVariants as terms
use Rattle.ap_syntax.specs.declared.terms.Term.TheOpen.{Term-F}
use Rattle.ap_syntax.specs.Pieces.{in_parentheses, spaced, spelled, text_of}
use Rattle.ap_syntax.specs.CanonicalTerms.{Written, applied, at_least, members, product_sign, sum_sign, term_pieces, term_step, written}
use Rattle.ap_syntax.proofs.Joined.{text_append3}

written_fun : (name : List ℕ) (ts : List Term) → written (terms.Fun name ts) ≡ term_step (Term-F.Fun name (map written ts))
written_fun name ts = ap written (sym (terms.rolls-Fun name ts)) ∙ fold-roll-Term Written term_step (Term-F.Fun name ts)

written_tuple : (ts : List Term) → written (terms.Tuple ts) ≡ term_step (Term-F.Tuple (map written ts))
written_tuple ts = ap written (sym (terms.rolls-Tuple ts)) ∙ fold-roll-Term Written term_step (Term-F.Tuple ts)

written_minus : (t : Term) → written (terms.Minus t) ≡ term_step (Term-F.Minus (written t))
written_minus t = ap written (sym (terms.rolls-Minus t)) ∙ fold-roll-Term Written term_step (Term-F.Minus t)

written_sum : (l : Term) (op : SumOp) (r : Term) → written (terms.Sum l op r) ≡ term_step (Term-F.Sum (written l) op (written r))
written_sum l op r = ap written (sym (terms.rolls-Sum l op r)) ∙ fold-roll-Term Written term_step (Term-F.Sum l op r)

written_product : (l : Term) (op : ProductOp) (r : Term) → written (terms.Product l op r) ≡ term_step (Term-F.Product (written l) op (written r))
written_product l op r = ap written (sym (terms.rolls-Product l op r)) ∙ fold-roll-Term Written term_step (Term-F.Product l op r)

written_range : (l r : Term) → written (terms.Range l r) ≡ term_step (Term-F.Range (written l) (written r))
written_range l r = ap written (sym (terms.rolls-Range l r)) ∙ fold-roll-Term Written term_step (Term-F.Range l r)

written_terms : (ts : List Term) → map (at_least 0) (map written ts) ≡ map term_pieces ts
written_terms [] = refl
written_terms (t ∷ ts) = ap (λ ps. term_pieces t ∷ ps) (written_terms ts)

-- ---- the texts of terms

pub term_fun : (name : List ℕ) (ts : List Term) → term_pieces (terms.Fun name ts) ≡ applied name (map term_pieces ts)
term_fun name ts = ap (at_least 0) (written_fun name ts) ∙ ap (applied name) (written_terms ts)

pub term_tuple : (ts : List Term) → term_pieces (terms.Tuple ts) ≡ in_parentheses (members (map term_pieces ts))
term_tuple ts = ap (at_least 0) (written_tuple ts) ∙ ap (λ ps. in_parentheses (members ps)) (written_terms ts)

pub text_minus : (t : Term) → text_of (term_pieces (terms.Minus t)) ≡ 45 ∷ text_of (at_least 4 (written t))
text_minus t = ap (λ w. text_of (at_least 0 w)) (written_minus t)

pub text_sum : (l : Term) (op : SumOp) (r : Term) → text_of (term_pieces (terms.Sum l op r)) ≡ text_of (at_least 1 (written l)) ++ (text_of (spaced (sum_sign op)) ++ text_of (at_least 2 (written r)))
text_sum l op r = ap (λ w. text_of (at_least 0 w)) (written_sum l op r) ∙ text_append3 (at_least 1 (written l)) (spaced (sum_sign op)) (at_least 2 (written r))

pub text_product : (l : Term) (op : ProductOp) (r : Term) → text_of (term_pieces (terms.Product l op r)) ≡ text_of (at_least 2 (written l)) ++ (text_of (spaced (product_sign op)) ++ text_of (at_least 3 (written r)))
text_product l op r = ap (λ w. text_of (at_least 0 w)) (written_product l op r) ∙ text_append3 (at_least 2 (written l)) (spaced (product_sign op)) (at_least 3 (written r))

pub text_range : (l r : Term) → text_of (term_pieces (terms.Range l r)) ≡ text_of (at_least 1 (written l)) ++ (codes ".." ++ text_of (at_least 1 (written r)))
text_range l r = ap (λ w. text_of (at_least 0 w)) (written_range l r) ∙ text_append3 (at_least 1 (written l)) (spelled (codes "..")) (at_least 1 (written r))
