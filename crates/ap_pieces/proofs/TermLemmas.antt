-- The occurrences in the parts of a term, in their place.
use Rattle.std.proofs.Common.{◌≡◌, refl, sym, ◌∙◌, ap, Bool, true, false, ◌&&◌, List, [], ◌∷◌, ◌++◌, append_assoc, map, ℕ}
use Rattle.ap_syntax.specs.declared.terms.Term.{Term, fold-roll-Term}
use Rattle.ap_syntax.specs.declared.terms.Term.TheVariants as terms
use Rattle.ap_syntax.specs.declared.terms.Term.TheOpen.{Term-F}
use Rattle.ap_syntax.specs.declared.terms.SumOp.{SumOp}
use Rattle.ap_syntax.specs.declared.terms.ProductOp.{ProductOp}
use Rattle.ap_pieces.specs.declared.variables.Occurrence.{Occurrence}
use Rattle.ap_pieces.specs.Variables.{under_operator, joined, step, occurrences, occurrences_of}
use Rattle.ap_pieces.specs.Placed.{placed}

pub placed_free : (os : List Occurrence) → placed true os ≡ os
placed_free [] = refl
placed_free (o ∷ os) = ap (λ ps. o ∷ ps) (placed_free os)

pub placed_append : (free : Bool) (xs ys : List Occurrence) → placed free (xs ++ ys) ≡ placed free xs ++ placed free ys
placed_append free [] ys = refl
placed_append free (x ∷ xs) ys = ap (λ os. record { name = x.name; is_argument = free && x.is_argument } ∷ os) (placed_append free xs ys)

-- under an operator stands no argument
placed_under : (free : Bool) (os : List Occurrence) → placed free (under_operator os) ≡ under_operator os
placed_under true os = placed_free (under_operator os)
placed_under false [] = refl
placed_under false (o ∷ os) = ap (λ ps. record { name = o.name; is_argument = false } ∷ ps) (placed_under false os)

joined_occurrences : (ts : List Term) → joined (map occurrences ts) ≡ occurrences_of ts
joined_occurrences [] = refl
joined_occurrences (t ∷ ts) = ap (λ os. occurrences t ++ os) (joined_occurrences ts)

-- ---- by the form of the term

pub of_fun : (name : List ℕ) (ts : List Term) → occurrences (terms.Fun name ts) ≡ occurrences_of ts
of_fun name ts = ap occurrences (sym (terms.rolls-Fun name ts)) ∙ (fold-roll-Term (List Occurrence) step (Term-F.Fun name ts) ∙ joined_occurrences ts)

pub of_tuple : (ts : List Term) → occurrences (terms.Tuple ts) ≡ occurrences_of ts
of_tuple ts = ap occurrences (sym (terms.rolls-Tuple ts)) ∙ (fold-roll-Term (List Occurrence) step (Term-F.Tuple ts) ∙ joined_occurrences ts)

pub of_minus : (free : Bool) (t : Term) → placed free (occurrences (terms.Minus t)) ≡ placed false (occurrences t)
of_minus free t = ap (λ u. placed free (occurrences u)) (sym (terms.rolls-Minus t)) ∙ (ap (placed free) (fold-roll-Term (List Occurrence) step (Term-F.Minus t)) ∙ placed_under free (occurrences t))

-- two operands, behind what was found before
both_under : (free : Bool) (found : List Occurrence) (t l r : Term) → placed free (occurrences t) ≡ placed free (under_operator (occurrences l ++ occurrences r))
    → found ++ placed free (occurrences t) ≡ (found ++ placed false (occurrences l)) ++ placed false (occurrences r)
both_under free found t l r e =
    ap (λ os. found ++ os) (e ∙ (placed_under free (occurrences l ++ occurrences r) ∙ placed_append false (occurrences l) (occurrences r)))
    ∙ sym (append_assoc found (placed false (occurrences l)) (placed false (occurrences r)))

pub of_sum : (free : Bool) (found : List Occurrence) (l : Term) (op : SumOp) (r : Term) → found ++ placed free (occurrences (terms.Sum l op r)) ≡ (found ++ placed false (occurrences l)) ++ placed false (occurrences r)
of_sum free found l op r = both_under free found (terms.Sum l op r) l r (ap (λ u. placed free (occurrences u)) (sym (terms.rolls-Sum l op r)) ∙ ap (placed free) (fold-roll-Term (List Occurrence) step (Term-F.Sum l op r)))

pub of_product : (free : Bool) (found : List Occurrence) (l : Term) (op : ProductOp) (r : Term) → found ++ placed free (occurrences (terms.Product l op r)) ≡ (found ++ placed false (occurrences l)) ++ placed false (occurrences r)
of_product free found l op r = both_under free found (terms.Product l op r) l r (ap (λ u. placed free (occurrences u)) (sym (terms.rolls-Product l op r)) ∙ ap (placed free) (fold-roll-Term (List Occurrence) step (Term-F.Product l op r)))

pub of_range : (free : Bool) (found : List Occurrence) (l r : Term) → found ++ placed free (occurrences (terms.Range l r)) ≡ (found ++ placed false (occurrences l)) ++ placed false (occurrences r)
of_range free found l r = both_under free found (terms.Range l r) l r (ap (λ u. placed free (occurrences u)) (sym (terms.rolls-Range l r)) ∙ ap (placed free) (fold-roll-Term (List Occurrence) step (Term-F.Range l r)))

-- ---- along the first operands

pub first_of_sum : (l : Term) (op : SumOp) (r : Term) → placed false (occurrences (terms.Sum l op r)) ≡ placed false (occurrences l) ++ placed false (occurrences r)
first_of_sum l op r = of_sum false [] l op r

pub first_of_product : (l : Term) (op : ProductOp) (r : Term) → placed false (occurrences (terms.Product l op r)) ≡ placed false (occurrences l) ++ placed false (occurrences r)
first_of_product l op r = of_product false [] l op r

pub first_of_range : (l r : Term) → placed false (occurrences (terms.Range l r)) ≡ placed false (occurrences l) ++ placed false (occurrences r)
first_of_range l r = of_range false [] l r
