-- The tokens of a file, and what comes of reading those up to the first limit.
use Rattle.std.proofs.Common.{◌≡◌, ℕ, ◌-◌, Bool, true, false, List, [], ◌++◌, None, Some, Ok, Err, take, length, length-append, refl, sym, ap, subst, ◌∙◌, arith}
use Rattle.std.specs.Prelude.{Option, not, ◌==◌}
use Rattle.std.specs.Str.Lossy.{utf8_valid_len}
use Rattle.std.proofs.Math.Seq.{take-append_seam, drop-append_seam}
use Rattle.std.proofs.lemmas.Bool.{and_parts}
use Rattle.std.proofs.lemmas.List.{append-nil}
use Rattle.ap_lex.proofs.ReadingLemmas.{one_reading}
use Rattle.grammar.specs.Fault.{IsText, IsFault}
use Rattle.ap_grammar.specs.Grammar.{Name, grammar}
use Rattle.ap_grammar.specs.Lexemes.{Lexeme}
use Rattle.ap_grammar.specs.Values.{Value}
use Rattle.ap_lexemes.specs.declared.limit.LimitAt.{LimitAt}
use Rattle.ap_lexemes.specs.Lexemes.{lexemes_of}
use Rattle.ap_lexemes.specs.Limits.{first_limit}
use Rattle.ap_lexemes.specs.Stops.{finished, last_fault, stopped}
use Rattle.ap_lexemes.specs.Texts.{AreLexemes, IsOutcome, in_type}
use Rattle.ap_lexemes.specs.Tokenizing.{fault_where, is_read, readable}
use Rattle.ap_lexemes.proofs.StopLemmas.{outcome_of_end, outcome_of_stop}

-- a file has one list of tokens
pub one_list : {bytes : List ℕ} {file end place : ℕ} {xs ys : List Lexeme} → AreLexemes bytes file xs end → AreLexemes bytes file ys place → (xs ≡ ys) × (end ≡ place)
one_list {bytes = bytes} {file = file} a b =
    let text = take (utf8_valid_len bytes) bytes in
    let same = one_reading text a.reads.reads b.reads.reads a.reads.stops b.reads.stops in
    (a.are ∙ ap (lexemes_of text file) same.0 ∙ sym b.are, same.1)

-- the number of the tokens that are left tells which they are
pub where_left : (of_type : Bool) (xs : List Lexeme) (end : ℕ) (read rest : List Lexeme) → readable xs ≡ read ++ rest → fault_where of_type xs end (length rest) ≡ stopped of_type (first_limit xs) xs end read rest
where_left of_type xs end read rest e =
    let count : length (readable xs) - length rest ≡ length read = omega (arith, ap length e, length-append read rest) in
    rw (count, e, take-append_seam read rest, drop-append_seam read rest) refl

-- ---- what comes of reading the tokens up to the first limit

module _ (n : Name) (xs : List Lexeme) (end : ℕ) (cut : Bool) where
  -- a fault of the grammar
  pub fault_within : (of_type : Bool) (left : ℕ) (read rest : List Lexeme) → in_type n ≡ of_type → left ≡ length rest → readable xs ≡ read ++ rest → IsFault grammar n read rest → IsOutcome n xs end cut (Err (fault_where of_type xs end left))
  fault_within of_type left read rest t l e f =
      subst (λ fault. IsOutcome n xs end cut (Err fault)) (sym (where_left (in_type n) xs end read rest e) ∙ ap (λ k. fault_where (in_type n) xs end k) (sym l) ∙ ap (λ b. fault_where b xs end left) t) (outcome_of_stop n xs end cut read rest e f)

  all_in : (limit : Option LimitAt) (v : Value) (left : ℕ) → is_read limit cut left ≡ true → finished limit xs end cut v ≡ Ok v
  all_in (Some l) v left e = cc
  all_in None v left e = by_cut cut (and_parts (left == 0) (not cut) e).1
    where
      by_cut : (cut : Bool) → not cut ≡ true → finished None xs end cut v ≡ Ok v
      by_cut true e = cc
      by_cut false e = refl

  -- a text that is whole
  pub all_within : (v : Value) (left : ℕ) → is_read (first_limit xs) cut left ≡ true → IsText grammar n (readable xs) v → IsOutcome n xs end cut (Ok v)
  all_within v left e d = subst (IsOutcome n xs end cut) (all_in (first_limit xs) v left e) (outcome_of_end n xs end cut v d)

  last_in : (limit : Option LimitAt) (v : Value) → is_read limit cut 0 ≡ false → finished limit xs end cut v ≡ Err (last_fault limit xs end)
  last_in limit v e = by_cut limit cut e
    where
      by_cut : (limit : Option LimitAt) (cut : Bool) → is_read limit cut 0 ≡ false → finished limit xs end cut v ≡ Err (last_fault limit xs end)
      by_cut (Some l) true e = refl
      by_cut (Some l) false e = refl
      by_cut None true e = refl
      by_cut None false e = cc

  -- a text behind which a limit stands, or bytes that are no token
  pub last_within : (of_type : Bool) (v : Value) (left : ℕ) → in_type n ≡ of_type → left ≡ 0 → is_read (first_limit xs) cut left ≡ false → IsText grammar n (readable xs) v → IsOutcome n xs end cut (Err (fault_where of_type xs end left))
  last_within of_type v left t l e d =
      let none : is_read (first_limit xs) cut 0 ≡ false = subst (λ k. is_read (first_limit xs) cut k ≡ false) l e in
      let where_all : fault_where of_type xs end 0 ≡ last_fault (first_limit xs) xs end = where_left of_type xs end (readable xs) [] (sym (append-nil (readable xs))) in
      subst (λ k. IsOutcome n xs end cut (Err (fault_where of_type xs end k))) (sym l)
      (subst (λ fault. IsOutcome n xs end cut (Err fault)) (sym where_all)
      (subst (IsOutcome n xs end cut) (last_in (first_limit xs) v none) (outcome_of_end n xs end cut v d)))
