-- What tokens come to, by what reading them came to.
use Rattle.std.proofs.Common.{◌≡◌, ℕ, Bool, true, false, List, [], ◌∷◌, None, Some, Ok, Err, length, refl, sym, subst, ◌∙◌, arith}
use Rattle.std.specs.Prelude.{Option, Result, not, ◌==◌}
use Rattle.std.specs.Result.{IsErrAnd}
use Rattle.std.proofs.lemmas.Bool.{and_parts, eqb-true}
use Rattle.grammar.specs.Takes.{Takes}
use Rattle.ap_syntax.specs.declared.programs.PartKind.{PartKind}
use Rattle.ap_syntax.specs.declared.programs.Program.{Program}
use Rattle.ap_syntax.specs.declared.programs.Statement.{Statement}
use Rattle.ap_grammar.specs.Factored.{call, factored}
use Rattle.ap_grammar.specs.Grammar.{Name}
use Rattle.ap_grammar.specs.Lexemes.{Lexeme}
use Rattle.ap_grammar.specs.Tables.{tables}
use Rattle.ap_grammar.specs.Values.{Value}
use Rattle.ap_grammar.proofs.Places as places
use Rattle.ap_lexemes.specs.declared.limit.LimitAt.{LimitAt}
use Rattle.ap_lexemes.specs.declared.fault.ParseFault.{ParseFault}
use Rattle.ap_lexemes.specs.declared.fault.ParseFault.TheVariants.{Memory}
use Rattle.ap_lexemes.specs.declared.tokenized.Tokenized.{Tokenized}
use Rattle.ap_lexemes.specs.Limits.{first_limit}
use Rattle.ap_lexemes.specs.Texts.{IsOutcome, in_type}
use Rattle.ap_lexemes.specs.Tokenizing.{IsTokenized, fault_where, is_read, readable, tokens_of}
use Rattle.ap_lexemes.proofs.TokenizingLemmas.{all_within, fault_within, last_within}
use Rattle.literal_parse.specs.declared.error.Stop.{Stop}
use Rattle.literal_parse.specs.declared.error.Stop.TheVariants.{Syntax}
use Rattle.ap_parse.specs.Changes.{changing}
use Rattle.ap_parse.specs.Openings.{is_of_type}
use Rattle.literal_parse.specs.Reads.{Reads}
use Rattle.ap_parse.specs.Texts.{IsAnswer, IsReading}
use Rattle.literal_parse.proofs.Steps.{giving, taken}

pub fault_by : {X : Type 0} {Q : ParseFault → Type 0} (r : Result X ParseFault) → IsErrAnd r Q → (d : ParseFault) × (r ≡ Err d) × Q d
fault_by (Ok x) h = absurd h
fault_by (Err d) h = (d, refl, h)

none_left : (limit : Option LimitAt) (cut : Bool) (left : ℕ) → is_read limit cut left ≡ true → left ≡ 0
none_left None cut left e = eqb-true left 0 (and_parts (left == 0) (not cut) e).0
none_left (Some l) cut left e = cc

nothing_left : (rest : List Lexeme) → length rest ≡ 0 → rest ≡ []
nothing_left [] e = refl
nothing_left (t ∷ ts) e = absurd (omega (arith, e))

module _ {X : Type 0} (value : X → Value) (n : Name) (xs : List Lexeme) (end : ℕ) (cut : Bool) where
  -- all was read
  pub answer_tree : {x : X} {rest : List Lexeme} (left : ℕ) → Reads (call n) (λ x vs. vs ≡ value x ∷ []) (readable xs) rest (Ok x) → left ≡ length rest → is_read (first_limit xs) cut left ≡ true → IsAnswer value n xs end cut (Ok x)
  answer_tree {x = x} {rest = rest} left r l e =
      let got = taken r in
      let none : rest ≡ [] = nothing_left rest (sym l ∙ none_left (first_limit xs) cut left e) in
      let all : Takes factored tables (call n) (readable xs) [] (value x ∷ []) = subst (λ ys. Takes factored tables (call n) (readable xs) ys (value x ∷ [])) none (giving got.makes got.takes) in
      IsAnswer.tree (all_within n xs end cut (value x) left e (places.whole all))

  -- the rule fails
  pub answer_fault : {rest : List Lexeme} {e : Stop} (of_type : Bool) (left : ℕ) → in_type n ≡ of_type → e ≡ Syntax → Reads (call n) (λ x vs. vs ≡ value x ∷ []) (readable xs) rest (Err e) → left ≡ length rest → IsAnswer value n xs end cut (Err (fault_where of_type xs end left))
  answer_fault {rest = rest} of_type left t m (Reads.syntax f) l =
      let q = places.fault f in IsAnswer.fault (fault_within n xs end cut of_type left q.0 rest t l q.1 q.2)
  answer_fault of_type left t m Reads.memory l = cc

  -- a token is left, or a limit or bytes stand behind
  left_in : {x : X} (rest : List Lexeme) (of_type : Bool) (left : ℕ) → in_type n ≡ of_type → Takes factored tables (call n) (readable xs) rest (value x ∷ []) → left ≡ length rest → is_read (first_limit xs) cut left ≡ false → IsOutcome n xs end cut (Err (fault_where of_type xs end left))
  left_in {x = x} [] of_type left t d l e = last_within n xs end cut of_type (value x) left t l e (places.whole d)
  left_in (y ∷ ys) of_type left t d l e = let q = places.left_over y ys d in fault_within n xs end cut of_type left q.0 (y ∷ ys) t l q.1 q.2

  pub answer_left : {x : X} {rest : List Lexeme} (of_type : Bool) (left : ℕ) → in_type n ≡ of_type → Reads (call n) (λ x vs. vs ≡ value x ∷ []) (readable xs) rest (Ok x) → left ≡ length rest → is_read (first_limit xs) cut left ≡ false → IsAnswer value n xs end cut (Err (fault_where of_type xs end left))
  answer_left {rest = rest} of_type left t r l e = let got = taken r in IsAnswer.fault (left_in rest of_type left t (giving got.makes got.takes) l e)

-- ---- programs

module _ {whole : Bool} {part : PartKind} {bytes : List ℕ} {file : ℕ} {tokenized : Tokenized} where
  reading_of : (e : ParseFault) → IsTokenized bytes file tokenized → IsAnswer Value.program (Name.Text whole (is_of_type part)) (tokens_of tokenized) tokenized.end tokenized.is_cut (Err e) → IsReading whole part bytes file (Err e)
  reading_of e i (IsAnswer.fault o) = IsReading.fault i.tokens (rw i.cut at o)
  reading_of e i IsAnswer.memory = IsReading.memory

  pub reading_fault : {e : ParseFault} {r : Result Program ParseFault} → IsTokenized bytes file tokenized → IsAnswer Value.program (Name.Text whole (is_of_type part)) (tokens_of tokenized) tokenized.end tokenized.is_cut (Err e) → IsErrAnd r (λ d. d ≡ e) → IsReading whole part bytes file r
  reading_fault {e = e} {r = r} i a h = let p = fault_by r h in rw (p.1, p.2) (reading_of e i a)

  pub reading_program : {all : List Statement} {p : Program} → IsTokenized bytes file tokenized → IsAnswer Value.program (Name.Text whole (is_of_type part)) (tokens_of tokenized) tokenized.end tokenized.is_cut (Ok all) → p.statements ≡ changing part all → IsReading whole part bytes file (Ok p)
  reading_program i (IsAnswer.tree o) e = IsReading.program i.tokens (rw i.cut at o) e

pub reading_memory : {whole : Bool} {part : PartKind} {bytes : List ℕ} {file : ℕ} {r : Result Program ParseFault} → IsErrAnd r (λ d. d ≡ Memory) → IsReading whole part bytes file r
reading_memory {r = r} h = let p = fault_by r h in rw (p.1, p.2) IsReading.memory
