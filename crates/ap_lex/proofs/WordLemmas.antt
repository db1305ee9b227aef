-- Words.
use Rattle.std.proofs.Common.{◌≡◌, ℕ, Bool, true, false, true≢false, not, cond, ◌&&◌, eqb, List, [], ◌∷◌, ◌++◌, refl, sym, Some, arith}
use Rattle.std.proofs.lemmas.Bool.{and_parts, and_from, or_left, or_right, eqb-true}
use Rattle.std.proofs.lemmas.Bool.Decides.{nat_tests}
use Rattle.std.specs.List.{list_all}
use Rattle.ap_lex.specs.Bytes.{is_capital_letter, is_digit, is_small_letter, is_word_byte}
use Rattle.ap_lex.specs.Forms.{is_word}
use Rattle.ap_lex.specs.Pieces.{first_letter}

pub small_is_word_byte : (b : ℕ) → is_small_letter b ≡ true → is_word_byte b ≡ true
small_is_word_byte b h = grind (arith, nat_tests)

pub capital_is_word_byte : (b : ℕ) → is_capital_letter b ≡ true → is_word_byte b ≡ true
capital_is_word_byte b h = grind (arith, nat_tests)

module _ (is_letter : ℕ → Bool) (word_byte : (b : ℕ) → is_letter b ≡ true → is_word_byte b ≡ true) where
  -- a word has word bytes alone
  pub word_passes : (bs : List ℕ) → is_word is_letter bs ≡ true → list_all is_word_byte bs ≡ true
  word_passes [] h = refl
  word_passes (b ∷ bs) h =
      elim (eqb b 95) as (λ v. eqb b 95 ≡ v → cond v (is_word is_letter bs) (is_letter b && list_all is_word_byte bs) ≡ true → list_all is_word_byte (b ∷ bs) ≡ true) [
        | true ↦ λ e i. and_from _ _ (or_left _ _ (or_right _ _ e)) (word_passes bs i)
        | false ↦ λ e i. let parts = and_parts (is_letter b) (list_all is_word_byte bs) i in and_from _ _ (word_byte b parts.0) parts.1
      ] refl h

  -- and its first byte other than an underscore is a letter, whatever follows it
  pub word_letter : (bs more : List ℕ) → is_word is_letter bs ≡ true → (b : ℕ) × (first_letter (bs ++ more) ≡ Some b) × (is_letter b ≡ true)
  word_letter [] more h = absurd (true≢false (sym h))
  word_letter (b ∷ bs) more h =
      elim (eqb b 95) as (λ v. cond v (is_word is_letter bs) (is_letter b && list_all is_word_byte bs) ≡ true
      → (l : ℕ) × (cond (not v) (Some b) (first_letter (bs ++ more)) ≡ Some l) × (is_letter l ≡ true)) [
        | true ↦ λ i. word_letter bs more i
        | false ↦ λ i. (b, refl, (and_parts (is_letter b) (list_all is_word_byte bs) i).0)
      ] h

  -- word bytes whose first one other than an underscore is a letter are a word
  pub word_from_letter : (bs : List ℕ) (b : ℕ) → list_all is_word_byte bs ≡ true → first_letter bs ≡ Some b → is_letter b ≡ true → is_word is_letter bs ≡ true
  word_from_letter [] b passes first letter = absurd cc
  word_from_letter (a ∷ bs) b passes first letter =
      let parts = and_parts (is_word_byte a) (list_all is_word_byte bs) passes in
      elim (eqb a 95) as (λ v. cond (not v) (Some a) (first_letter bs) ≡ Some b → cond v (is_word is_letter bs) (is_letter a && list_all is_word_byte bs) ≡ true) [
        | true ↦ λ i. word_from_letter bs b parts.1 i letter
        | false ↦ λ i. let same : a ≡ b = cc in and_from _ _ (rw same letter) parts.1
      ] first

  -- a word begins with a word byte other than a digit
  pub word_start : (b : ℕ) (bs : List ℕ) → ((c : ℕ) → is_letter c ≡ true → is_digit c ≡ false) → is_word is_letter (b ∷ bs) ≡ true → (is_word_byte b ≡ true) × (is_digit b ≡ false)
  word_start b bs no_digit h =
      elim (eqb b 95) as (λ v. eqb b 95 ≡ v → cond v (is_word is_letter bs) (is_letter b && list_all is_word_byte bs) ≡ true → (is_word_byte b ≡ true) × (is_digit b ≡ false)) [
        | true ↦ λ e i. rw (eqb-true b 95 e) (refl, refl)
        | false ↦ λ e i. let parts = and_parts (is_letter b) (list_all is_word_byte bs) i in (word_byte b parts.0, no_digit b parts.0)
      ] refl h

pub small_is_no_digit : (b : ℕ) → is_small_letter b ≡ true → is_digit b ≡ false
small_is_no_digit b h = grind (arith, nat_tests)

pub capital_is_no_digit : (b : ℕ) → is_capital_letter b ≡ true → is_digit b ≡ false
capital_is_no_digit b h = grind (arith, nat_tests)

pub capital_is_not_small : (b : ℕ) → is_capital_letter b ≡ true → is_small_letter b ≡ false
capital_is_not_small b h = grind (arith, nat_tests)
