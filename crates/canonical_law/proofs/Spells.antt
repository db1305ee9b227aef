-- Tokens that are spelled by pieces, and pieces that read back as tokens.
use Rattle.std.proofs.Common.{◌≡◌, ℕ, List, [], ◌∷◌, ◌++◌, refl, sym, ap, ◌∙◌, append_assoc}
use Rattle.ap_syntax.specs.Pieces.{Piece, bytes_of, text_of, spelled, spaced, spaced_behind}
use Rattle.ap_syntax.specs.Pieces.Piece.{Spelled, Blank, LineFeed}
use Rattle.ap_lex.specs.declared.token.Kind.{Kind}
use Rattle.ap_grammar.specs.Lexemes.{Lexeme}
use Rattle.ap_lexemes.specs.Terminals.{terminal_of}
use Rattle.canonical_law.proofs.Lexing.{Apart, Ends, IsOneToken}

-- the token has these characters
pub record Is (x : Lexeme) (word : List ℕ) : Type 0 where
  pub kind : Kind
  pub one : IsOneToken word kind
  pub bytes : x.bytes ≡ word
  pub terminal : x.terminal ≡ terminal_of kind word

-- the tokens from the first list up to the second are these pieces
pub data Spells : List Piece → List Lexeme → List Lexeme → Type 0 where
  nothing : {xs : List Lexeme} → Spells [] xs xs
  word : {w : List ℕ} {ps : List Piece} {x : Lexeme} {xs ys : List Lexeme} → Is x w → Spells ps xs ys → Spells (Spelled w ∷ ps) (x ∷ xs) ys
  blank : {ps : List Piece} {xs ys : List Lexeme} → Spells ps xs ys → Spells (Blank ∷ ps) xs ys
  line : {ps : List Piece} {xs ys : List Lexeme} → Spells ps xs ys → Spells (LineFeed ∷ ps) xs ys

pub split : (ps : List Piece) {qs : List Piece} {xs zs : List Lexeme} → Spells (ps ++ qs) xs zs → (ys : List Lexeme) × Spells ps xs ys × Spells qs ys zs
split [] s = (_, Spells.nothing, s)
split (Spelled w ∷ ps) (Spells.word i s) = let q = split ps s in (q.0, Spells.word i q.1, q.2)
split (Blank ∷ ps) (Spells.blank s) = let q = split ps s in (q.0, Spells.blank q.1, q.2)
split (LineFeed ∷ ps) (Spells.line s) = let q = split ps s in (q.0, Spells.line q.1, q.2)

-- each token of the pieces is one where it stands before the rest
pub data Clear : List Piece → List ℕ → Type 0 where
  nothing : {rest : List ℕ} → Clear [] rest
  word : {w : List ℕ} {ps : List Piece} {rest : List ℕ} {kind : Kind} → IsOneToken w kind → Apart w (text_of ps ++ rest) → Clear ps rest → Clear (Spelled w ∷ ps) rest
  blank : {ps : List Piece} {rest : List ℕ} → Clear ps rest → Clear (Blank ∷ ps) rest
  line : {ps : List Piece} {rest : List ℕ} → Clear ps rest → Clear (LineFeed ∷ ps) rest

pub text_of_append : (ps qs : List Piece) → text_of (ps ++ qs) ≡ text_of ps ++ text_of qs
text_of_append [] qs = refl
text_of_append (p ∷ ps) qs = ap (λ bs. bytes_of p ++ bs) (text_of_append ps qs) ∙ sym (append_assoc (bytes_of p) (text_of ps) (text_of qs))

text_behind : (ps qs : List Piece) (rest : List ℕ) → text_of ps ++ (text_of qs ++ rest) ≡ text_of (ps ++ qs) ++ rest
text_behind ps qs rest = sym (append_assoc (text_of ps) (text_of qs) rest) ∙ ap (λ bs. bs ++ rest) (sym (text_of_append ps qs))

apart_at : (w : List ℕ) {r s : List ℕ} → r ≡ s → Apart w r → Apart w s
apart_at w e a = rw e at a

pub clear_append : (ps qs : List Piece) (rest : List ℕ) → Clear ps (text_of qs ++ rest) → Clear qs rest → Clear (ps ++ qs) rest
clear_append [] qs rest c d = d
clear_append (Spelled w ∷ ps) qs rest (Clear.word o a c) d = Clear.word o (apart_at w (text_behind ps qs rest) a) (clear_append ps qs rest c d)
clear_append (Blank ∷ ps) qs rest (Clear.blank c) d = Clear.blank (clear_append ps qs rest c d)
clear_append (LineFeed ∷ ps) qs rest (Clear.line c) d = Clear.line (clear_append ps qs rest c d)

-- ---- several parts one after the other

pub split3 : (ps qs : List Piece) {rs : List Piece} {xs zs : List Lexeme} → Spells (ps ++ qs ++ rs) xs zs → (ms : List Lexeme) × (ns : List Lexeme) × Spells ps xs ms × Spells qs ms ns × Spells rs ns zs
split3 ps qs s = let q = split (ps ++ qs) s in let p = split ps q.1 in (p.0, q.0, p.1, p.2, q.2)

pub clear3 : (ps qs rs : List Piece) (rest : List ℕ) → Clear ps (text_of qs ++ (text_of rs ++ rest)) → Clear qs (text_of rs ++ rest) → Clear rs rest → Clear (ps ++ qs ++ rs) rest
clear3 ps qs rs rest c d e = clear_append (ps ++ qs) rs rest (clear_append ps qs (text_of rs ++ rest) c d) e

-- a sign with a blank on both sides, or behind it
pub spaced_is : {w : List ℕ} {xs ys : List Lexeme} → Spells (spaced w) xs ys → (x : Lexeme) × (xs ≡ x ∷ ys) × Is x w
spaced_is (Spells.blank (Spells.word i (Spells.blank Spells.nothing))) = (_, refl, i)

pub spaced_behind_is : {w : List ℕ} {xs ys : List Lexeme} → Spells (spaced_behind w) xs ys → (x : Lexeme) × (xs ≡ x ∷ ys) × Is x w
spaced_behind_is (Spells.word i (Spells.blank Spells.nothing)) = (_, refl, i)

pub spelled_is : {w : List ℕ} {xs ys : List Lexeme} → Spells (spelled w) xs ys → (x : Lexeme) × (xs ≡ x ∷ ys) × Is x w
spelled_is (Spells.word i Spells.nothing) = (_, refl, i)

pub spaced_clear : {w : List ℕ} {kind : Kind} (rest : List ℕ) → IsOneToken w kind → Apart w (32 ∷ rest) → Clear (spaced w) rest
spaced_clear rest o a = Clear.blank (Clear.word o a (Clear.blank Clear.nothing))

pub spaced_behind_clear : {w : List ℕ} {kind : Kind} (rest : List ℕ) → IsOneToken w kind → Apart w (32 ∷ rest) → Clear (spaced_behind w) rest
spaced_behind_clear rest o a = Clear.word o a (Clear.blank Clear.nothing)

pub join : {ps qs : List Piece} {xs ys zs : List Lexeme} → Spells ps xs ys → Spells qs ys zs → Spells (ps ++ qs) xs zs
join Spells.nothing t = t
join (Spells.word i s) t = Spells.word i (join s t)
join (Spells.blank s) t = Spells.blank (join s t)
join (Spells.line s) t = Spells.line (join s t)

pub ends_behind : (ps qs : List Piece) (rest : List ℕ) → Ends (text_of ps ++ (text_of qs ++ rest)) → Ends (text_of (ps ++ qs) ++ rest)
ends_behind ps qs rest h = rw (text_behind ps qs rest) at h
