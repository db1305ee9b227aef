-- The operands of a chain of operators, as they are found from its end.
use Rattle.std.proofs.Common.{◌≡◌, ◌≤◌, ◌<◌, ℕ, sym, ap, subst, ◌∙◌, All, false, List, [], ◌∷◌, ◌++◌, append_assoc, map, reverse, arith}
use Rattle.std.proofs.lemmas.List.{map-append, reverse-append}
use Rattle.std.proofs.lemmas.List.Elements.{All-append}
use Rattle.std.specs.Borrow.{Bor}
use Rattle.ap_syntax.specs.declared.terms.Term.{Term, size-Term}
use Rattle.ap_syntax.specs.declared.terms.Term.{the_lemmas}
use Rattle.ap_syntax.specs.declared.terms.Term.TheVariants as terms
use Rattle.ap_syntax.specs.declared.terms.SumOp.{SumOp}
use Rattle.ap_syntax.specs.declared.terms.ProductOp.{ProductOp}
use Rattle.ap_pieces.specs.Variables.{occurrences, occurrences_of}
use Rattle.ap_pieces.specs.Placed.{placed}
use Rattle.ap_pieces.proofs.TermLemmas.{first_of_product, first_of_range, first_of_sum, of_minus, placed_append}

-- the operands, in the order of the text, of which the last one was found first
abbrev pub from_last : List (Bor Term) → List Term
from_last found = reverse (map (λ (t : Bor Term). t.now) found)

abbrev pub Within : Term → List (Bor Term) → Type 0
Within term found = All (λ (t : Bor Term). size-Term t.now ≤ size-Term term) found

-- what is left of the chain, and the operands that were found behind it
abbrev pub IsChain : Term → Term → List (Bor Term) → Type 0
IsChain term first found =
    (placed false (occurrences term) ≡ placed false (occurrences first) ++ placed false (occurrences_of (from_last found)))
    × (size-Term first ≤ size-Term term)
    × Within term found

from_last_more : (found : List (Bor Term)) (right : Bor Term) → from_last (found ++ right ∷ []) ≡ right.now ∷ from_last found
from_last_more found right = ap reverse (map-append (λ (t : Bor Term). t.now) found (right ∷ [])) ∙ reverse-append (map (λ (t : Bor Term). t.now) found) (right.now ∷ [])

occurrences_more : (found : List (Bor Term)) (right : Bor Term) → placed false (occurrences_of (from_last (found ++ right ∷ []))) ≡ placed false (occurrences right.now) ++ placed false (occurrences_of (from_last found))
occurrences_more found right = ap (λ ts. placed false (occurrences_of ts)) (from_last_more found right) ∙ placed_append false (occurrences right.now) (occurrences_of (from_last found))

one_within : (term : Term) (right : Bor Term) → size-Term right.now ≤ size-Term term → Within term (right ∷ [])
one_within term right h = grind (arith, h)

weaken : {m n : ℕ} → m < n → m ≤ n
weaken h = omega (arith, h)

-- an operator is taken apart
pub operand_found : (term first left : Term) (found pushed : List (Bor Term)) (right : Bor Term) → pushed ≡ found ++ right ∷ []
    → placed false (occurrences first) ≡ placed false (occurrences left) ++ placed false (occurrences right.now)
    → size-Term left ≤ size-Term first → size-Term right.now ≤ size-Term first → IsChain term first found → IsChain term left pushed
operand_found term first left found pushed right e o h i c = subst (IsChain term left) (sym e) (
  c.0 ∙ (ap (λ os. os ++ placed false (occurrences_of (from_last found))) o
      ∙ (append_assoc (placed false (occurrences left)) (placed false (occurrences right.now)) (placed false (occurrences_of (from_last found)))
      ∙ ap (λ os. placed false (occurrences left) ++ os) (sym (occurrences_more found right)))),
  (omega (arith, h, c.1)),
  All-append (λ (t : Bor Term). size-Term t.now ≤ size-Term term) found (right ∷ []) c.2 (one_within term right (omega (arith, i, c.1))),
)

-- a negation is taken apart
pub negated_found : (term first part : Term) (found : List (Bor Term)) → placed false (occurrences first) ≡ placed false (occurrences part) → size-Term part ≤ size-Term first → IsChain term first found → IsChain term part found
negated_found term first part found o h c = (c.0 ∙ ap (λ os. os ++ placed false (occurrences_of (from_last found))) o, omega (arith, h, c.1), c.2)

-- ---- how deep the parts of a term are

pub left_of_sum : (l : Term) (op : SumOp) (r : Term) → size-Term l < size-Term (terms.Sum l op r)
left_of_sum l op r = grind (arith, the_lemmas)

pub right_of_sum : (l : Term) (op : SumOp) (r : Term) → size-Term r < size-Term (terms.Sum l op r)
right_of_sum l op r = grind (arith, the_lemmas)

pub left_of_product : (l : Term) (op : ProductOp) (r : Term) → size-Term l < size-Term (terms.Product l op r)
left_of_product l op r = grind (arith, the_lemmas)

pub right_of_product : (l : Term) (op : ProductOp) (r : Term) → size-Term r < size-Term (terms.Product l op r)
right_of_product l op r = grind (arith, the_lemmas)

pub low_of_range : (l r : Term) → size-Term l < size-Term (terms.Range l r)
low_of_range l r = grind (arith, the_lemmas)

pub high_of_range : (l r : Term) → size-Term r < size-Term (terms.Range l r)
high_of_range l r = grind (arith, the_lemmas)

pub part_of_minus : (t : Term) → size-Term t < size-Term (terms.Minus t)
part_of_minus t = grind (arith, the_lemmas)

-- ---- the parts of a chain

pub sum_found : (term first left right : Term) (op : SumOp) (found pushed : List (Bor Term)) (pointed : Bor Term) → first ≡ terms.Sum left op right → pointed.now ≡ right → pushed ≡ found ++ pointed ∷ [] → IsChain term first found → IsChain term left pushed
sum_found term first left right op found pushed pointed e f g c = operand_found term first left found pushed pointed g
    (rw (e, f) (first_of_sum left op right)) (rw e (weaken (left_of_sum left op right))) (rw (e, f) (weaken (right_of_sum left op right))) c

pub product_found : (term first left right : Term) (op : ProductOp) (found pushed : List (Bor Term)) (pointed : Bor Term) → first ≡ terms.Product left op right → pointed.now ≡ right → pushed ≡ found ++ pointed ∷ [] → IsChain term first found → IsChain term left pushed
product_found term first left right op found pushed pointed e f g c = operand_found term first left found pushed pointed g
    (rw (e, f) (first_of_product left op right)) (rw e (weaken (left_of_product left op right))) (rw (e, f) (weaken (right_of_product left op right))) c

pub range_found : (term first low high : Term) (found pushed : List (Bor Term)) (pointed : Bor Term) → first ≡ terms.Range low high → pointed.now ≡ high → pushed ≡ found ++ pointed ∷ [] → IsChain term first found → IsChain term low pushed
range_found term first low high found pushed pointed e f g c = operand_found term first low found pushed pointed g
    (rw (e, f) (first_of_range low high)) (rw e (weaken (low_of_range low high))) (rw (e, f) (weaken (high_of_range low high))) c

pub minus_found : (term first part : Term) (found : List (Bor Term)) → first ≡ terms.Minus part → IsChain term first found → IsChain term part found
minus_found term first part found e c = negated_found term first part found (rw e (of_minus false part)) (rw e (weaken (part_of_minus part))) c
