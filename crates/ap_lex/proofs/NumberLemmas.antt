-- Numerals.
use Rattle.std.proofs.Common.{◌≡◌, ℕ, ◌+◌, ◌*◌, ◌-◌, ◌<◌, ◌≤◌, false, List, [], ◌∷◌, length, take, drop, get_or, ap, arith}
use Rattle.std.proofs.lemmas.List.{take-append-drop}
use Rattle.std.proofs.lemmas.List.Sums.{fold_more, fold-append}
use Rattle.std.proofs.lemmas.Bool.{lt-leb}
use Rattle.std.specs.List.{fold}
use Rattle.std.specs.Prelude.{nat_le}
use Rattle.ap_lex.specs.Forms.{number_of}

-- further digits make no number less
grows : (n : ℕ) (ys : List ℕ) → n ≤ fold (λ m b. 10 * m + (b - 48)) n ys
grows n [] = omega arith
grows n (y ∷ ys) = omega (arith, grows (10 * n + (y - 48)) ys)

number_of_front : (digits : List ℕ) (i : ℕ) → number_of (take i digits) ≤ number_of digits
number_of_front digits i =
    let all = ap number_of (take-append-drop i digits) in
    omega (arith, all, fold-append (λ m b. 10 * m + (b - 48)) 0 (take i digits) (drop i digits), grows (number_of (take i digits)) (drop i digits))

pub number_of_more : (digits : List ℕ) (i : ℕ) → i < length digits → number_of (take (i + 1) digits) ≡ 10 * number_of (take i digits) + (get_or digits i 0 - 48)
number_of_more digits i h = fold_more (λ m b. 10 * m + (b - 48)) 0 digits i 0 h

-- a number is out of range where its first digits already are
pub out_of_range : (digits : List ℕ) (i : ℕ) → 2147483647 < number_of (take i digits) → nat_le (number_of digits) 2147483647 ≡ false
out_of_range digits i h = lt-leb _ _ (omega (arith, number_of_front digits i))
