-- A text has one answer; the tokens of a single statement.
use Rattle.std.proofs.Common.{◌≡◌, ◌≢◌, ℕ, ◌+◌, ◌<◌, ◌≤◌, Bool, true, false, List, [], Ok, Err, drop, get_or, length, take, refl, sym, ap, subst, ◌∙◌}
use Rattle.std.specs.Prelude.{Result}
use Rattle.std.specs.Result.{IsErrAnd}
use Rattle.std.specs.List.{All}
use Rattle.std.proofs.lemmas.List.{at_drop_more, at_drop_all}
use Rattle.std.proofs.lemmas.List.Elements.{All-drop, All-take}
use Rattle.ap_lex.specs.Tokens.{IsToken, IsTokens}
use Rattle.ap_lex.specs.declared.token.Token.{Token}
use Rattle.ap_lex.proofs.ReadingLemmas.{each_token}
use Rattle.ap_syntax.specs.declared.programs.PartKind.{PartKind}
use Rattle.ap_syntax.specs.declared.programs.Program.{Program}
use Rattle.ap_syntax.specs.declared.programs.Statement.{Statement}
use Rattle.ap_grammar.specs.Grammar.{Name}
use Rattle.ap_grammar.specs.Lexemes.{Lexeme}
use Rattle.ap_grammar.specs.Values.{Value}
use Rattle.ap_lexemes.specs.declared.fault.ParseFault.{ParseFault}
use Rattle.ap_lexemes.specs.declared.fault.ParseFault.TheVariants.{Memory}
use Rattle.ap_lexemes.specs.Lexemes.{lexeme_at, lexemes_of}
use Rattle.ap_lexemes.specs.Texts.{AreLexemes, IsOutcome, is_cut}
use Rattle.ap_lexemes.proofs.OutcomeLemmas.{one_outcome}
use Rattle.ap_lexemes.proofs.TokenizingLemmas.{one_list}
use Rattle.ap_parse.specs.Changes.{changing}
use Rattle.ap_parse.specs.Openings.{is_of_type}
use Rattle.ap_parse.specs.Texts.{IsAnswer, IsReading, IsStatementAt, is_dot, statement_len, statement_of}
use Rattle.ap_parse.proofs.AnswerLemmas.{fault_by}

-- one outcome of a file
same_outcome : {n : Name} {bytes : List ℕ} {file end place : ℕ} {xs ys : List Lexeme} (r s : Result Value ParseFault) → AreLexemes bytes file xs end → AreLexemes bytes file ys place → IsOutcome n xs end (is_cut bytes end) r → IsOutcome n ys place (is_cut bytes place) s → r ≡ s
same_outcome {n = n} {bytes = bytes} {end = end} {ys = ys} r s a b o p =
    let same = one_list a b in
    one_outcome r s (subst (λ k. IsOutcome n ys k (is_cut bytes k) r) same.1 (subst (λ ts. IsOutcome n ts end (is_cut bytes end) r) same.0 o)) p

statements_in : Result Value ParseFault → List Statement
statements_in (Ok (Value.program all)) = all
statements_in r = []

fault_in : Result Value ParseFault → ParseFault
fault_in (Ok v) = Memory
fault_in (Err f) = f

no_fault : (v : Value) (f : ParseFault) → Ok v ≡ Err f → ⊥
no_fault v f e = cc

pub one_answer : {whole : Bool} {part : PartKind} {bytes : List ℕ} {file : ℕ} (r s : Result Program ParseFault) → IsReading whole part bytes file r → IsReading whole part bytes file s → r ≢ Err Memory → s ≢ Err Memory → r ≡ s
unfolding statements_in fault_in
one_answer {part = part} r s (IsReading.program {all = all} a o e) (IsReading.program {all = other} b p f) h k =
    ap (λ ss. Ok (record { statements = ss })) (e ∙ ap (changing part) (ap statements_in (same_outcome (Ok (Value.program all)) (Ok (Value.program other)) a b o p)) ∙ sym f)
one_answer r s (IsReading.program a o e) (IsReading.fault b p) h k = absurd (no_fault _ _ (same_outcome _ _ a b o p))
one_answer r s (IsReading.fault a o) (IsReading.program b p f) h k = absurd (no_fault _ _ (sym (same_outcome _ _ a b o p)))
one_answer r s (IsReading.fault {f = f} a o) (IsReading.fault {f = g} b p) h k = ap Err (ap fault_in (same_outcome (Err f) (Err g) a b o p))
one_answer r s IsReading.memory other h k = absurd (h refl)
one_answer r s other IsReading.memory h k = absurd (k refl)

-- ---- single statements

module _ (text : List ℕ) (tokens : List Token) (i : ℕ) where
  pub len_here : (d : Token) → i < length tokens → is_dot (lexeme_at text 0 (get_or tokens i d)).terminal ≡ true → statement_len (lexemes_of text 0 (drop i tokens)) ≡ 1
  len_here d lt e = at_drop_more (λ ts. statement_len (lexemes_of text 0 ts)) tokens i d lt ∙ rw e refl

  pub len_later : (d : Token) → i < length tokens → is_dot (lexeme_at text 0 (get_or tokens i d)).terminal ≡ false → statement_len (lexemes_of text 0 (drop i tokens)) ≡ statement_len (lexemes_of text 0 (drop (i + 1) tokens)) + 1
  len_later d lt e = at_drop_more (λ ts. statement_len (lexemes_of text 0 ts)) tokens i d lt ∙ rw e refl

  pub len_nowhere : length tokens ≤ i → statement_len (lexemes_of text 0 (drop i tokens)) ≡ 0
  len_nowhere le = at_drop_all (λ ts. statement_len (lexemes_of text 0 ts)) tokens i le

-- the tokens of a text are tokens each
pub each_from : (text : List ℕ) (tokens : List Token) (from : ℕ) → IsTokens text tokens → All (λ token. IsToken text token.kind token.from token.to) (drop from tokens)
each_from text tokens from is = All-drop (λ token. IsToken text token.kind token.from token.to) from tokens (each_token text is)

pub each_within : (text : List ℕ) (tokens : List Token) (from count : ℕ) → IsTokens text tokens → All (λ token. IsToken text token.kind token.from token.to) (take count (drop from tokens))
each_within text tokens from count is = All-take (λ token. IsToken text token.kind token.from token.to) count (drop from tokens) (each_from text tokens from is)

-- what the tokens of a statement come to
module _ {text : List ℕ} {tokens : List Token} {from : ℕ} {part : PartKind} where
  pub statement_memory : {r : Result (Statement × ℕ) ParseFault} → IsErrAnd r (λ d. d ≡ Memory) → IsStatementAt text tokens from part r
  statement_memory {r = r} h = let p = fault_by r h in rw (p.1, p.2) IsStatementAt.memory

  fault_at : (e : ParseFault) → IsAnswer Value.statement (Name.One (is_of_type part)) (statement_of (lexemes_of text 0 (drop from tokens))) (length text) false (Err e) → IsStatementAt text tokens from part (Err e)
  fault_at e (IsAnswer.fault o) = IsStatementAt.fault o
  fault_at e IsAnswer.memory = IsStatementAt.memory

  pub statement_fault : {of_type cut : Bool} {xs : List Lexeme} {end : ℕ} {e : ParseFault} {r : Result (Statement × ℕ) ParseFault} → of_type ≡ is_of_type part → xs ≡ statement_of (lexemes_of text 0 (drop from tokens)) → end ≡ length text → cut ≡ false
      → IsAnswer Value.statement (Name.One of_type) xs end cut (Err e) → IsErrAnd r (λ d. d ≡ e) → IsStatementAt text tokens from part r
  statement_fault {e = e} {r = r} t x n k a h = let p = fault_by r h in rw (p.1, p.2) (fault_at e (rw (t, x, n, k) at a))

  read_at : {s : Statement} (len : ℕ) → len ≡ statement_len (lexemes_of text 0 (drop from tokens)) → IsAnswer Value.statement (Name.One (is_of_type part)) (statement_of (lexemes_of text 0 (drop from tokens))) (length text) false (Ok s) → IsStatementAt text tokens from part (Ok (s, from + len))
  read_at {s = s} len l (IsAnswer.tree o) = subst (λ n. IsStatementAt text tokens from part (Ok (s, from + n))) (sym l) (IsStatementAt.statement o)

  pub statement_read : {of_type cut : Bool} {xs : List Lexeme} {end len : ℕ} {s : Statement} → of_type ≡ is_of_type part → xs ≡ statement_of (lexemes_of text 0 (drop from tokens)) → end ≡ length text → cut ≡ false
      → len ≡ statement_len (lexemes_of text 0 (drop from tokens)) → IsAnswer Value.statement (Name.One of_type) xs end cut (Ok s) → IsStatementAt text tokens from part (Ok (s, from + len))
  statement_read {len = len} t x n k l a = read_at len l (rw (t, x, n, k) at a)
