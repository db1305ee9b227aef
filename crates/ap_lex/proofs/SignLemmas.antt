-- Signs, and what begins a text in front of which no other token stands.
use Rattle.std.proofs.Common.{◌≡◌, ℕ, Bool, true, false, true≢false, not, ◌&&◌, eqb, ltb, List, [], ◌∷◌, refl, sym, subst, ⊎_elim}
use Rattle.std.proofs.lemmas.Bool.{and_parts, or_cases, not-true, eqb-true}
use Rattle.std.proofs.lemmas.Slice.Eq.{bytes_eq-Decides}
use Rattle.std.specs.List.{list_all, list_any}
use Rattle.std.specs.Str.{bytes_eq}
use Rattle.ap_lex.specs.Bytes.{begins_with, is_digit, is_word_byte}
use Rattle.ap_lex.specs.Forms.{is_sign, signs_of_one, signs_of_two}
use Rattle.ap_lex.specs.Pieces.{is_sign_of_one, is_sign_of_two}

-- what one member of a list passes where some member is equal to it
any_passes : {A : Type 0} (equal : A → A → Bool) (test : A → Bool) → ((x y : A) → equal x y ≡ true → x ≡ y)
    → (xs : List A) (y : A) → list_all test xs ≡ true → list_any (λ x. equal x y) xs ≡ true → test y ≡ true
any_passes equal test same [] y all any = absurd (true≢false (sym any))
any_passes equal test same (x ∷ xs) y all any =
    let parts = and_parts (test x) (list_all test xs) all in
    ⊎_elim (λ e. subst (λ z. test z ≡ true) (same x y e) parts.0)
    (λ e. any_passes equal test same xs y parts.1 e)
    (or_cases (equal x y) (list_any (λ x. equal x y) xs) any)

-- a byte that begins no number, no word, no string and no directive
abbrev pub begins_sign : ℕ → Bool
begins_sign b = not (is_digit b) && not (is_word_byte b) && not (eqb b 34) && not (eqb b 35)

pub record BeginsSign (b : ℕ) : Type 0 where
  pub digit : is_digit b ≡ false
  pub word : is_word_byte b ≡ false
  pub quote : eqb b 34 ≡ false
  pub number_sign : eqb b 35 ≡ false

sign_parts : (b : ℕ) → begins_sign b ≡ true → BeginsSign b
sign_parts b h =
    let p = and_parts (not (is_digit b) && not (is_word_byte b) && not (eqb b 34)) (not (eqb b 35)) h in
    let q = and_parts (not (is_digit b) && not (is_word_byte b)) (not (eqb b 34)) p.0 in
    let r = and_parts (not (is_digit b)) (not (is_word_byte b)) q.0 in
    record { digit = not-true _ r.0; word = not-true _ r.1; quote = not-true _ q.1; number_sign = not-true _ p.1 }

pub one_begins : (b : ℕ) → is_sign_of_one b ≡ true → BeginsSign b
one_begins b h = sign_parts b (any_passes eqb begins_sign eqb-true signs_of_one b refl h)

pub two_begins : (b c : ℕ) → is_sign_of_two b c ≡ true → BeginsSign b
two_begins b c h = sign_parts b (any_passes bytes_eq (begins_with begins_sign) (λ x y e. (bytes_eq-Decides x y).0 e) signs_of_two (b ∷ c ∷ []) refl h)

-- signs are ASCII
abbrev pub is_ascii : ℕ → Bool
is_ascii b = ltb b 128

pub one_is_ascii : (b : ℕ) → is_sign_of_one b ≡ true → is_ascii b ≡ true
one_is_ascii b h = any_passes eqb is_ascii eqb-true signs_of_one b refl h

pub two_are_ascii : (b c : ℕ) → is_sign_of_two b c ≡ true → list_all is_ascii (b ∷ c ∷ []) ≡ true
two_are_ascii b c h = any_passes bytes_eq (list_all is_ascii) (λ x y e. (bytes_eq-Decides x y).0 e) signs_of_two (b ∷ c ∷ []) refl h

abbrev is_pair : List ℕ → Bool
is_pair (b ∷ c ∷ []) = true
is_pair _ = false

-- a sign has one byte or two
pub no_longer_sign : (b c d : ℕ) (bs : List ℕ) → is_sign (b ∷ c ∷ d ∷ bs) ≡ true → ⊥
no_longer_sign b c d bs h =
    true≢false (sym (any_passes bytes_eq is_pair (λ x y e. (bytes_eq-Decides x y).0 e) signs_of_two (b ∷ c ∷ d ∷ bs) refl h))
