-- Whole texts read back.
use Rattle.std.specs.List.{flat_map}
use Rattle.std.proofs.Common.{◌≡◌, ℕ, Bool, List, [], ◌∷◌, ◌++◌, map, refl, sym, ap, subst, ◌∙◌}
use Rattle.grammar.specs.Fault.{IsText}
use Rattle.grammar.specs.Form.{Derives, ◌∣◌}
use Rattle.grammar.specs.Form.Form.{Call, Star}
use Rattle.ap_syntax.specs.declared.programs.PartKind.{PartKind}
use Rattle.ap_syntax.specs.declared.programs.PartKind.TheVariants as parts
use Rattle.ap_syntax.specs.declared.programs.Statement.{Statement}
use Rattle.ap_syntax.specs.declared.programs.Statement.TheVariants as statements
use Rattle.ap_syntax.specs.Pieces.Piece.{LineFeed}
use Rattle.ap_syntax.specs.Canonical.{line_pieces, part_pieces, statement_pieces}
use Rattle.ap_grammar.specs.Lexemes.{Lexeme}
use Rattle.ap_grammar.specs.Values.{Value}
use Rattle.ap_grammar.specs.Values.Value.{program, statement}
use Rattle.ap_grammar.specs.Grammar.{Name, Rhs, grammar, statements_of}
use Rattle.canonical_law.specs.Unplaced.{unplaced}
use Rattle.ap_parse.specs.Openings.{is_of_type}
use Rattle.canonical_law.proofs.Spells.{Spells, Clear, split, clear_append}
use Rattle.canonical_law.proofs.Statements.{GoodPart, GoodStatement, IsOpening, IsRead, opening_of, part_clear, part_read, statement_clear, statement_read}

-- statements of a text, from a part on, with preference statements among them or without
pub data GoodProgram (whole : Bool) : PartKind → List Statement → Type 0 where
  none : {part : PartKind} → GoodProgram whole part []
  alone : {part : PartKind} {s : Statement} {ss : List Statement} → GoodStatement whole (is_of_type part) s → GoodProgram whole part ss → GoodProgram whole part (s ∷ ss)
  opening : {part next : PartKind} {file at : ℕ} {ss : List Statement} → GoodPart next → GoodProgram whole next ss → GoodProgram whole part (statements.Part file at next ∷ ss)

-- ---- statements up to the next part, and the parts behind them

abbrev pub Sections : Bool → Rhs
Sections whole = Star (Call (Name.BaseSection whole) ∣ Call (Name.TypeSection whole))

pub record AreLines (whole of_type : Bool) (ss : List Statement) (xs ys : List Lexeme) : Type 0 where
  pub first : List Statement
  pub middle : List Lexeme
  pub begins : Derives grammar (Star (Call (Name.Statement whole of_type))) xs middle (map statement first)
  pub sections : List Value
  pub goes_on : Derives grammar (Sections whole) middle ys sections
  pub same : map unplaced (first ++ statements_of sections) ≡ map unplaced ss

pub statements_before : (ss : List Statement) (vs : List Value) → statements_of (map statement ss ++ vs) ≡ ss ++ statements_of vs
statements_before [] vs = refl
statements_before (s ∷ ss) vs = ap (λ ts. s ∷ ts) (statements_before ss vs)

same_more : (s t : Statement) (ss ts : List Statement) → unplaced s ≡ unplaced t → map unplaced ss ≡ map unplaced ts → map unplaced (s ∷ ss) ≡ map unplaced (t ∷ ts)
same_more s t ss ts e f = rw (e, f) refl

statement_line : {whole of_type : Bool} {s : Statement} {ss : List Statement} {xs ms ys : List Lexeme} → IsRead (Name.Statement whole of_type) s xs ms → AreLines whole of_type ss ms ys → AreLines whole of_type (s ∷ ss) xs ys
statement_line {s = s} {ss = ss} p a = record {
  first = p.read ∷ a.first;
  middle = a.middle;
  begins = Derives.more p.derives a.begins;
  sections = a.sections;
  goes_on = a.goes_on;
  same = same_more p.read s (a.first ++ statements_of a.sections) ss p.same a.same;
}

-- a section of what stands behind an opening
section : {whole : Bool} (next : PartKind) (ss : List Statement) {xs ms ns : List Lexeme} {file at : ℕ} → Derives grammar (Call (opening_of next)) xs ms (statement (statements.Part file at next) ∷ []) → Derives grammar (Star (Call (Name.Statement whole (is_of_type next)))) ms ns (map statement ss)
    → Derives grammar (Call (Name.BaseSection whole) ∣ Call (Name.TypeSection whole)) xs ns (program (statements.Part file at next ∷ statements_of (map statement ss)) ∷ [])
section parts.Base ss d e = Derives.left (Derives.call (Derives.seq d e))
section (parts.Kind k) ss d e = Derives.right (Derives.call (Derives.seq d e))

opening_line : {whole of_type : Bool} (next : PartKind) {file at : ℕ} {ss : List Statement} {xs ms ys : List Lexeme} → IsOpening (opening_of next) next xs ms → AreLines whole (is_of_type next) ss ms ys → AreLines whole of_type (statements.Part file at next ∷ ss) xs ys
opening_line next {file = file} {at = at} {ss = ss} {xs = xs} p a = record {
  first = [];
  middle = xs;
  begins = Derives.none;
  sections = program (statements.Part p.file p.at next ∷ statements_of (map statement a.first)) ∷ a.sections;
  goes_on = Derives.more (section next a.first p.derives a.begins) a.goes_on;
  same = same_more (statements.Part p.file p.at next) (statements.Part file at next) _ ss refl (ap (λ ts. map unplaced (ts ++ statements_of a.sections)) (themselves a.first) ∙ a.same);
}
  where
    themselves : (ss : List Statement) → statements_of (map statement ss) ≡ ss
    themselves [] = refl
    themselves (s ∷ ss) = ap (λ ts. s ∷ ts) (themselves ss)

line_ends : {ms ys : List Lexeme} → Spells (LineFeed ∷ []) ms ys → ms ≡ ys
line_ends (Spells.line Spells.nothing) = refl

lines_from : {whole of_type : Bool} {ss : List Statement} {xs ms ys : List Lexeme} → ms ≡ xs → AreLines whole of_type ss ms ys → AreLines whole of_type ss xs ys
lines_from e a = rw e at a

pub lines_read : {whole : Bool} (part : PartKind) (ss : List Statement) {xs ys : List Lexeme} → GoodProgram whole part ss → Spells (flat_map line_pieces ss) xs ys → AreLines whole (is_of_type part) ss xs ys
lines_read part [] GoodProgram.none Spells.nothing = record { first = []; middle = _; begins = Derives.none; sections = []; goes_on = Derives.none; same = refl }
lines_read part (s ∷ ss) (GoodProgram.alone g gs) t =
    let q = split (line_pieces s) t in
    let p = split (statement_pieces s) q.1 in
    statement_line (statement_read g p.1) (lines_from (sym (line_ends p.2)) (lines_read part ss gs q.2))
lines_read part (statements.Part file at next ∷ ss) (GoodProgram.opening g gs) t =
    let q = split (line_pieces (statements.Part file at next)) t in
    let p = split (part_pieces next) q.1 in
    opening_line next (part_read g p.1) (lines_from (sym (line_ends p.2)) (lines_read next ss gs q.2))

-- ---- the whole text

pub record IsTextOf (whole of_type : Bool) (ss : List Statement) (xs : List Lexeme) : Type 0 where
  pub read : List Statement
  pub text : IsText grammar (Name.Text whole of_type) xs (program read)
  pub same : map unplaced read ≡ map unplaced ss

in_all : {whole of_type : Bool} {ss : List Statement} {xs : List Lexeme} → AreLines whole of_type ss xs [] → IsTextOf whole of_type ss xs
in_all {whole = whole} {of_type = of_type} {xs = xs} a = record {
  read = a.first ++ statements_of a.sections;
  text = subst (λ ts. Derives grammar (Call (Name.Text whole of_type)) xs [] (program ts ∷ [])) (statements_before a.first a.sections) (Derives.call (Derives.seq a.begins a.goes_on));
  same = a.same;
}

pub text_read : {whole : Bool} (part : PartKind) (ss : List Statement) {xs : List Lexeme} → GoodProgram whole part ss → Spells (flat_map line_pieces ss) xs [] → IsTextOf whole (is_of_type part) ss xs
text_read part ss g s = in_all (lines_read part ss g s)

pub lines_clear : {whole : Bool} (part : PartKind) (ss : List Statement) (rest : List ℕ) → GoodProgram whole part ss → Clear (flat_map line_pieces ss) rest
lines_clear part [] rest GoodProgram.none = Clear.nothing
lines_clear part (s ∷ ss) rest (GoodProgram.alone g gs) =
    clear_append (line_pieces s) (flat_map line_pieces ss) rest (clear_append (statement_pieces s) (LineFeed ∷ []) _ (statement_clear _ g) (Clear.line Clear.nothing)) (lines_clear part ss rest gs)
lines_clear part (statements.Part file at next ∷ ss) rest (GoodProgram.opening g gs) =
    clear_append (line_pieces (statements.Part file at next)) (flat_map line_pieces ss) rest (clear_append (part_pieces next) (LineFeed ∷ []) _ (part_clear _ g) (Clear.line Clear.nothing)) (lines_clear next ss rest gs)
