-- Numbers read back.
use Rattle.std.proofs.Common.{◌≡◌, ℕ, ◌+◌, ◌*◌, ◌-◌, ◌/◌, ◌%◌, ◌^◌, ◌<◌, ◌≤◌, suc, zero, Bool, true, List, [], ◌∷◌, ◌++◌, refl, ap, ◌∙◌, arith}
use Rattle.std.specs.Prelude.{nat_le}
use Rattle.std.proofs.lemmas.Bool.{and_from, or_right}
use Rattle.std.proofs.lemmas.Bool.Decides.{nat_tests}
use Rattle.std.proofs.lemmas.List.Sums.{fold-append}
use Rattle.std.proofs.lemmas.List.Folds.{list_all-append}
use Rattle.std.specs.Fmt.{decimal}
use Rattle.std.specs.Str.{IsAscii}
use Rattle.std.specs.List.{list_all}
use Rattle.std.proofs.lemmas.Fmt.{IsAscii-decimal, decimal_by_steps, decimal_digit}
use Rattle.ap_lex.specs.Bytes.{begins_with, is_between, is_digit}
use Rattle.ap_lex.specs.Forms.{is_number, is_numeral, number_of}
use Rattle.ap_lex.specs.declared.token.Kind.TheVariants.{Num}
use Rattle.ap_grammar.specs.Lexemes as g
use Rattle.canonical_law.proofs.Lexing.{Apart, Ends, IsOneToken, alone, digits_apart}

-- digits that write a number
record Writes (n : ℕ) (ds : List ℕ) : Type 0 where
  digits : list_all is_digit ds ≡ true
  first : 0 < n → begins_with (is_between 49 57) ds ≡ true
  value : number_of ds ≡ n
  same : g.decimal ds ≡ n

one_digit : (n : ℕ) → n < 10 → Writes n ((48 + n) ∷ [])
one_digit n h = record { digits = grind (arith, nat_tests); first = λ a. grind (arith, nat_tests); value = omega arith; same = omega arith }

begins_more : (p : ℕ → Bool) (ds es : List ℕ) → begins_with p ds ≡ true → begins_with p (ds ++ es) ≡ true
begins_more p [] es h = absurd cc
begins_more p (d ∷ ds) es h = h

last_digit : (m : ℕ) → m < 10 → is_digit (48 + m) ≡ true
last_digit m h = grind (arith, nat_tests)

below_ten : (n : ℕ) → n % 10 < 10
below_ten n = omega arith

tenth_positive : (n : ℕ) → 10 ≤ n → 0 < n / 10
tenth_positive n h = omega arith

tens_behind : (n : ℕ) → 10 * (n / 10) + (48 + n % 10 - 48) ≡ n
tens_behind n = omega arith

tens_before : (n : ℕ) → (n / 10) * 10 + (48 + n % 10 - 48) ≡ n
tens_before n = omega arith

more_digits : (n : ℕ) (ds : List ℕ) → 10 ≤ n → Writes (n / 10) ds → Writes n (ds ++ (48 + n % 10) ∷ [])
more_digits n ds h w = record {
  digits = list_all-append is_digit ds ((48 + n % 10) ∷ []) ∙ and_from _ _ w.digits (and_from _ _ (last_digit (n % 10) (below_ten n)) refl);
  first = λ a. begins_more _ ds _ (w.first (tenth_positive n h));
  value = fold-append _ 0 ds ((48 + n % 10) ∷ []) ∙ (ap (λ m. 10 * m + (48 + n % 10 - 48)) w.value ∙ tens_behind n);
  same = fold-append _ 0 ds ((48 + n % 10) ∷ []) ∙ (ap (λ m. m * 10 + (48 + n % 10 - 48)) w.same ∙ tens_before n);
}

writes : (n : ℕ) → n < 2 ^ 64 → Writes n (decimal n)
writes n h = decimal_by_steps Writes one_digit more_digits n h

-- a number as it is written
pub record GoodNumber (n : ℕ) : Type 0 where
  pub one : IsOneToken (decimal n) Num
  pub apart : (rest : List ℕ) → Ends rest → Apart (decimal n) rest
  pub value : g.decimal (decimal n) ≡ n
  pub ascii : IsAscii (decimal n)

numeral : (n : ℕ) → Writes n (decimal n) → is_numeral (decimal n) ≡ true
numeral zero w = rw (decimal_digit 0 (omega arith)) refl
numeral (suc n) w = or_right _ _ (and_from _ _ (w.first (omega arith)) w.digits)

apart_by : (ds rest : List ℕ) → is_number ds ≡ true → list_all is_digit ds ≡ true → Ends rest → Apart ds rest
apart_by [] rest h d e = absurd cc
apart_by (b ∷ bs) rest h d e = digits_apart b bs rest d e

in_range : (n m : ℕ) → m ≡ n → n ≤ 2147483647 → nat_le m 2147483647 ≡ true
in_range n m e h = grind (arith, nat_tests)

pub good_number : (n : ℕ) → n ≤ 2147483647 → GoodNumber n
good_number n h =
    let w = writes n (omega arith) in
    let is : is_number (decimal n) ≡ true = and_from _ _ (numeral n w) (in_range n _ w.value h) in
    record {
      one = alone Num (decimal n) (and_from _ _ is refl);
      apart = λ rest e. apart_by (decimal n) rest is w.digits e;
      value = w.same;
      ascii = IsAscii-decimal n (omega (arith, h));
    }
