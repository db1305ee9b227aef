-- Clear pieces are the tokens of their text.
use Rattle.std.proofs.Common.{◌≡◌, ℕ, ◌+◌, ◌-◌, ◌≤◌, List, [], ◌∷◌, ◌++◌, length, take, drop, Some, None, refl, sym, ap, ◌∙◌, append_assoc, arith}
use Rattle.std.specs.Prelude.{slice_range}
use Rattle.std.proofs.lemmas.List.{append-nil, length-append, take_at, drop_at}
use Rattle.ap_syntax.specs.Pieces.{Piece, text_of}
use Rattle.ap_syntax.specs.Pieces.Piece.{Spelled, Blank, LineFeed}
use Rattle.ap_lex.specs.declared.token.Kind.{Kind}
use Rattle.ap_lex.specs.declared.token.Token.{Token}
use Rattle.ap_lex.specs.declared.pieces.Piece.TheVariants as pieces
use Rattle.ap_lex.specs.Pieces.{gap_at, piece_at, token_at}
use Rattle.ap_lex.specs.Tokens.{IsGap, IsLongest, IsTokens, Reads}
use Rattle.ap_lex.proofs.ReadingLemmas.{piece_begins}
use Rattle.ap_lex.proofs.SoundLemmas.{gap_no_token}
use Rattle.ap_lexemes.specs.Lexemes.{lexemes_of}
use Rattle.ap_lexemes.specs.Terminals.{terminal_of}
use Rattle.canonical_law.proofs.Lexing.{Apart, IsOneToken}
use Rattle.canonical_law.proofs.Spells.{Spells, Clear}

-- the tokens from a place on, and that they are spelled by the pieces
record Read (text : List ℕ) (file from : ℕ) (ps : List Piece) : Type 0 where
  tokens : List Token
  reads : Reads text from tokens (length text)
  spelled : Spells ps (lexemes_of text file tokens) []

gap_none : (text : List ℕ) (kind : Kind) (len : ℕ) → token_at text ≡ Some (pieces.Token kind len) → gap_at text ≡ None
gap_none text kind len e = by (gap_at text) refl
  where
    by : (o : _) → gap_at text ≡ o → o ≡ None
    by None h = refl
    by (Some n) h = let k = gap_no_token text n h in absurd cc

piece_is : (text : List ℕ) (kind : Kind) (len : ℕ) → token_at text ≡ Some (pieces.Token kind len) → piece_at text ≡ Some (pieces.Token kind len)
unfolding piece_at
piece_is text kind len e = rw (gap_none text kind len e, e) refl

inside : (before rest : List ℕ) → length before ≤ length (before ++ rest)
inside before rest = omega (arith, length-append before rest)

behind : (before rest : List ℕ) → drop (length before) (before ++ rest) ≡ rest
behind before rest = drop_at before rest (length before) refl

word_here : (before rest : List ℕ) (w : List ℕ) (kind : Kind) → IsOneToken w kind → Apart w rest → IsLongest (before ++ (w ++ rest)) kind (length before) (length before + length w)
word_here before rest w kind o a =
    let e = piece_is (w ++ rest) kind (length w) (a ∙ o) in
    piece_begins (before ++ (w ++ rest)) (length before) (Some (pieces.Token kind (length w))) (inside before (w ++ rest)) (sym (ap piece_at (behind before (w ++ rest)) ∙ e))

blank_gap : (rest : List ℕ) → piece_at (32 ∷ rest) ≡ Some (pieces.Gap 1)
unfolding piece_at gap_at
blank_gap rest = refl

line_gap : (rest : List ℕ) → piece_at (10 ∷ rest) ≡ Some (pieces.Gap 1)
unfolding piece_at gap_at
line_gap rest = refl

gap_here : (before rest : List ℕ) (b : ℕ) → piece_at (b ∷ rest) ≡ Some (pieces.Gap 1) → IsGap (before ++ (b ∷ rest)) (length before) (length before + 1)
gap_here before rest b e = piece_begins (before ++ (b ∷ rest)) (length before) (Some (pieces.Gap 1)) (inside before (b ∷ rest)) (sym (ap piece_at (behind before (b ∷ rest)) ∙ e))

-- the characters of a token
word_range : (before w rest : List ℕ) → slice_range (before ++ (w ++ rest)) (length before) (length before + length w) ≡ w
word_range before w rest =
    let n : length w ≡ length before + length w - length before = omega arith in
    ap (take (length before + length w - length before)) (behind before (w ++ rest)) ∙ take_at w rest (length before + length w - length before) n

moved : {text other : List ℕ} {file from to : ℕ} {ps : List Piece} → text ≡ other → from ≡ to → Read text file from ps → Read other file to ps
moved e f r = rw (e, f) at r

word_read : (file : ℕ) (before w : List ℕ) (kind : Kind) (ps : List Piece) → IsOneToken w kind → Apart w (text_of ps) → Read (before ++ (w ++ text_of ps)) file (length before + length w) ps → Read (before ++ (w ++ text_of ps)) file (length before) (Spelled w ∷ ps)
word_read file before w kind ps o a r =
    let e = word_range before w (text_of ps) in
    record {
      tokens = record { kind = kind; from = length before; to = length before + length w } ∷ r.tokens;
      reads = Reads.token (word_here before (text_of ps) w kind o a) r.reads;
      spelled = Spells.word (record { kind = kind; one = o; bytes = e; terminal = ap (terminal_of kind) e }) r.spelled;
    }

read_from : (file : ℕ) (before : List ℕ) (ps : List Piece) → Clear ps [] → Read (before ++ text_of ps) file (length before) ps
read_from file before [] Clear.nothing = record { tokens = []; reads = at_end (sym (ap length (append-nil before))); spelled = Spells.nothing }
  where
    at_end : {text : List ℕ} {from to : ℕ} → from ≡ to → Reads text from [] to
    at_end e = rw e Reads.nothing
read_from file before (Spelled w ∷ ps) (Clear.word {kind = kind} o a c) =
    word_read file before w kind ps o (let b = a in rw (append-nil (text_of ps)) at b)
    (moved (append_assoc before w (text_of ps)) (length-append before w) (read_from file (before ++ w) ps c))
read_from file before (Blank ∷ ps) (Clear.blank c) =
    let r = moved (append_assoc before (32 ∷ []) (text_of ps)) (length-append before (32 ∷ [])) (read_from file (before ++ 32 ∷ []) ps c) in
    record { tokens = r.tokens; reads = Reads.gap (gap_here before (text_of ps) 32 (blank_gap (text_of ps))) r.reads; spelled = Spells.blank r.spelled }
read_from file before (LineFeed ∷ ps) (Clear.line c) =
    let r = moved (append_assoc before (10 ∷ []) (text_of ps)) (length-append before (10 ∷ [])) (read_from file (before ++ 10 ∷ []) ps c) in
    record { tokens = r.tokens; reads = Reads.gap (gap_here before (text_of ps) 10 (line_gap (text_of ps))) r.reads; spelled = Spells.line r.spelled }

-- the tokens of a text of clear pieces
pub record AreTokens (ps : List Piece) (file : ℕ) : Type 0 where
  pub tokens : List Token
  pub are : IsTokens (text_of ps) tokens
  pub spelled : Spells ps (lexemes_of (text_of ps) file tokens) []

pub tokens_of : (file : ℕ) (ps : List Piece) → Clear ps [] → AreTokens ps file
tokens_of file ps c = let r = read_from file [] ps c in record { tokens = r.tokens; are = r.reads; spelled = r.spelled }
