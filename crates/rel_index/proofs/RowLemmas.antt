-- Rows that stand one behind the other.
use Rattle.std.proofs.Common.{◌≡◌, ℕ, zero, suc, ◌+◌, ◌*◌, ◌<◌, ◌≤◌, List, [], ◌∷◌, ◌++◌, length, take, drop, Some, slice_get, refl, ap, ap₂, sym, ◌∙◌, arith, length-drop}
use Rattle.std.proofs.Math.Nat.{mul-le-mul_right}
use Rattle.std.proofs.lemmas.List.{take-append-le, drop-append-le, drop-drop, take_all}
use Rattle.ap_term.specs.declared.shape.TermId.{TermId}
use Rattle.rel_index.specs.Rows.{Table, rows_of}

pub length-rows_of : (arity count : ℕ) (ids : List TermId) → length (rows_of arity count ids) ≡ count
length-rows_of arity zero ids = refl
length-rows_of arity (suc count) ids = let e = length-rows_of arity count (drop arity ids) in omega arith

-- the same of the relation that they are the rows of
pub counted : (arity count : ℕ) (ids : List TermId) (t : Table) → record { arity = arity; rows = rows_of arity count ids } ≡ t → count ≡ length t.rows
counted arity count ids t is = sym (length-rows_of arity count ids) ∙ ap (λ (r : Table). length r.rows) is

-- one more row behind the others
pub rows_of-push : (arity count : ℕ) (ids row : List TermId) → length ids ≡ count * arity → length row ≡ arity → rows_of arity (suc count) (ids ++ row) ≡ rows_of arity count ids ++ row ∷ []
rows_of-push arity zero [] row all size = ap (λ r. r ∷ []) (take_all arity row (omega arith))
rows_of-push arity zero (id ∷ ids) row all size = absurd (omega arith)
rows_of-push arity (suc count) ids row all size =
    let more : arity + count * arity ≡ length ids = omega arith in
    let rest = rows_of-push arity count (drop arity ids) row (omega (arith, length-drop arity ids)) size in
    ap₂ (λ r i. r ∷ rows_of arity (suc count) i) (take-append-le arity ids row (omega arith)) (drop-append-le arity ids row (omega arith)) ∙ ap (λ rs. take arity ids ∷ rs) rest

-- the row at a place
pub row_at : (arity count : ℕ) (ids : List TermId) (k : ℕ) → k < count → slice_get (rows_of arity count ids) k ≡ Some (take arity (drop (k * arity) ids))
row_at arity zero ids k low = absurd (omega arith)
row_at arity (suc count) ids zero low = ap (λ n. Some (take arity (drop n ids))) (let e : 0 ≡ 0 * arity = omega arith in e)
row_at arity (suc count) ids (suc k) low =
    row_at arity count (drop arity ids) k (omega arith) ∙ ap (λ r. Some (take arity r)) (drop-drop (k * arity) arity ids ∙ ap (λ n. drop n ids) (let e : arity + k * arity ≡ suc k * arity = omega arith in e))

-- it ends where the members do, or before
pub ends_within : (arity count : ℕ) (ids : List TermId) (k : ℕ) → k < count → length ids ≡ count * arity → k * arity + arity ≤ length ids
ends_within arity count ids k low all =
    let more : (k + 1) * arity ≤ count * arity = mul-le-mul_right arity (omega arith) in
    omega arith
