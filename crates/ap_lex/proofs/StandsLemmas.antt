-- What stands at the front of a text.
use Rattle.std.proofs.Common.{◌≡◌, ℕ, ◌+◌, ◌-◌, ◌<◌, ◌≤◌, Bool, true, false, true≢false, List, [], ◌∷◌, ◌++◌, length, take, drop, refl, sym, ap, ◌∙◌, arith}
use Rattle.std.proofs.lemmas.List.{take_at, drop_at, length-append, length-drop, length-take, drop-drop}
use Rattle.std.proofs.lemmas.List.Folds.{drop_split}
use Rattle.std.specs.Prelude.{slice_range}
use Rattle.ap_lex.specs.Forms.{is_gap, is_token}
use Rattle.ap_lex.specs.declared.token.Kind.{Kind}
use Rattle.ap_lex.specs.declared.token.Kind.TheVariants.{Num, Ident, Not, Var, Any, Str, Directive, Sign}

-- so many bytes at the front have this form, where the rest follows them
pub record Stands (form : List ℕ → List ℕ → Bool) (text : List ℕ) (len : ℕ) : Type 0 where
  pub bytes : List ℕ
  pub rest : List ℕ
  pub split : text ≡ bytes ++ rest
  pub len_is : length bytes ≡ len
  pub has_form : form bytes rest ≡ true

-- no form is that of no bytes
pub IsProper : (List ℕ → List ℕ → Bool) → Type 0
IsProper form = (rest : List ℕ) → form [] rest ≡ false

pub gap_is_proper : (rest : List ℕ) → is_gap [] rest ≡ false
gap_is_proper rest = refl

pub token_is_proper : (kind : Kind) (rest : List ℕ) → is_token kind [] rest ≡ false
token_is_proper Num rest = refl
token_is_proper Ident rest = refl
token_is_proper Not rest = refl
token_is_proper Var rest = refl
token_is_proper Any rest = refl
token_is_proper Str rest = refl
token_is_proper Directive rest = refl
token_is_proper Sign rest = refl

module _ (form : List ℕ → List ℕ → Bool) (proper : (rest : List ℕ) → form [] rest ≡ false) where
  nonempty : (bytes rest : List ℕ) → form bytes rest ≡ true → 0 < length bytes
  nonempty [] rest h = absurd (true≢false (sym h ∙ proper rest))
  nonempty (b ∷ bs) rest h = omega arith

  pub stands_positive : (text : List ℕ) (len : ℕ) → Stands form text len → 0 < len
  stands_positive text len s = omega (arith, nonempty s.bytes s.rest s.has_form, s.len_is)

  pub stands_within : (text : List ℕ) (len : ℕ) → Stands form text len → len ≤ length text
  stands_within text len s = omega (arith, ap length s.split, length-append s.bytes s.rest, s.len_is)

  -- at a place of a text
  pub stands_at : (text : List ℕ) (from to : ℕ) → to ≤ length text → form (slice_range text from to) (drop to text) ≡ true
      → (from < to) × Stands form (drop from text) (to - from)
  stands_at text from to within h =
      let some = nonempty (slice_range text from to) (drop to text) h in
      let below : from < to = omega (arith, length-take (to - from) (drop from text)) in (
        below,
        record {
          bytes = slice_range text from to;
          rest = drop to text;
          split = drop_split text from to (omega arith);
          len_is = omega (arith, length-take (to - from) (drop from text), length-drop from text);
          has_form = h;
        },
      )

  pub at_stands : (text : List ℕ) (from len : ℕ) → from ≤ length text → Stands form (drop from text) len
      → (from + len ≤ length text) × (form (slice_range text from (from + len)) (drop (from + len) text) ≡ true)
  at_stands text from len inside s =
      let fits = stands_within (drop from text) len s in
      let n : (from + len) - from ≡ len = omega arith in
      let bytes : slice_range text from (from + len) ≡ s.bytes =
      ap (λ m. take m (drop from text)) n ∙ ap (λ bs. take len bs) s.split ∙ take_at s.bytes s.rest len s.len_is in
      let rest : drop (from + len) text ≡ s.rest =
      sym (drop-drop len from text) ∙ ap (λ bs. drop len bs) s.split ∙ drop_at s.bytes s.rest len s.len_is in
      (omega (arith, length-drop from text), rw (bytes, rest) s.has_form)
