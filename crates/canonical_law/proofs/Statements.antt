-- Statements read back.
use Rattle.std.proofs.Common.{◌≡◌, ℕ, pos, Bool, true, false, List, [], ◌∷◌, ◌++◌, map, Some, None, refl, sym, ap, subst, ◌∙◌, ◌⊎◌, inl, inr}
use Rattle.std.specs.Prelude.{codes}
use Rattle.std.specs.Fmt.{decimal}
use Rattle.std.proofs.lemmas.List.{append-nil}
use Rattle.grammar.specs.Form.{Derives}
use Rattle.grammar.specs.Form.Form.{Tok, Call}
use Rattle.ap_syntax.specs.declared.terms.Term.{Term}
use Rattle.ap_syntax.specs.declared.terms.Term.TheVariants as terms
use Rattle.ap_syntax.specs.declared.rules.Rule.{Rule}
use Rattle.ap_syntax.specs.declared.preferences.Element.{Element}
use Rattle.ap_syntax.specs.declared.programs.PartKind.{PartKind}
use Rattle.ap_syntax.specs.declared.programs.PartKind.TheVariants as parts
use Rattle.ap_syntax.specs.declared.programs.Statement.{Statement}
use Rattle.ap_syntax.specs.declared.programs.Statement.TheVariants as statements
use Rattle.ap_syntax.specs.Pieces.{in_braces, in_parentheses, semicolons, spaced, spaced_behind, spelled}
use Rattle.ap_syntax.specs.CanonicalTerms.{at_least, quoted, term_pieces, Written}
use Rattle.ap_syntax.specs.CanonicalPreferences.{element_pieces, kind_pieces, preference_pieces}
use Rattle.ap_syntax.specs.Canonical.{part_pieces, signature_pieces, statement_pieces}
use Rattle.ap_lex.specs.declared.token.Kind.TheVariants.{Num, Str}
use Rattle.ap_grammar.specs.declared.terminals.Terminal.{Terminal}
use Rattle.ap_grammar.specs.declared.terminals.Terminal.TheVariants as t
use Rattle.ap_grammar.specs.Lexemes.{Lexeme, string_of}
use Rattle.ap_grammar.specs.Lexemes as lexemes
use Rattle.ap_grammar.specs.Values.{Value, as_element, collected}
use Rattle.ap_grammar.specs.Values.Value.{statement, term, token}
use Rattle.ap_grammar.specs.Grammar.{Name, constant, grammar}
use Rattle.canonical_law.specs.Unplaced.{unplaced, unplaced_element}
use Rattle.canonical_law.proofs.Lexing.{Ends}
use Rattle.canonical_law.proofs.Spells.{Is, Spells, Clear, split, split3, clear_append, clear3, spaced_is, spaced_behind_is, spelled_is, spaced_clear, spaced_behind_clear}
use Rattle.canonical_law.proofs.Signs as sign
use Rattle.canonical_law.proofs.Names.{GoodName, name_kind, ident_derives, name_clear}
use Rattle.canonical_law.proofs.Numbers.{GoodNumber}
use Rattle.canonical_law.proofs.Strings.{good_string}
use Rattle.canonical_law.proofs.WrittenTerms.{const_written, int_written, negative_written, str_written}
use Rattle.canonical_law.proofs.Levels.{closing, parentheses_clear}
use Rattle.canonical_law.proofs.Lists.{Each, Alike, GoodItem, collected-append, from_here}
use Rattle.canonical_law.proofs.Braces.{braces_clear, braces_spelled}
use Rattle.canonical_law.proofs.Rules.{GoodRule, dot_is_last, rule_clear, rule_spelled}
use Rattle.canonical_law.proofs.Elements.{GoodElement, element_clear, element_spelled}
use Rattle.canonical_law.proofs.TypeNames.{GoodKind, kind_clear, kind_spelled}

pub record IsRead (n : Name) (s : Statement) (xs ys : List Lexeme) : Type 0 where
  pub read : Statement
  pub derives : Derives grammar (Call n) xs ys (statement read ∷ [])
  pub same : unplaced read ≡ unplaced s

dot_clear : (rest : List ℕ) → Clear (spelled (codes ".")) (10 ∷ rest)
dot_clear rest = Clear.word sign.dot_one (sign.dot_apart _) Clear.nothing

-- ---- constants

pub data GoodConstant : Term → Type 0 where
  number : {n : ℕ} → GoodNumber n → GoodConstant (terms.Int (pos n))
  minus : {n : ℕ} → GoodNumber n → GoodConstant (terms.Minus (terms.Int (pos n)))
  name : {w : List ℕ} → GoodName w → GoodConstant (terms.Const w)
  string : {cs : List ℕ} → GoodConstant (terms.Str cs)

record IsConstant (x : Term) (xs ys : List Lexeme) : Type 0 where
  first : Lexeme
  derives : Derives grammar (Call Name.Constant) xs ys (term first None x ∷ [])

number_spelled : {n : ℕ} {xs ys : List Lexeme} → GoodNumber n → Spells (spelled (decimal n)) xs ys → IsConstant (terms.Int (pos n)) xs ys
number_spelled h (Spells.word {x = x} {xs = ys} i Spells.nothing) =
    let e = sign.fixed Num t.Number h.one refl i in
    record { first = x; derives = subst (λ v. Derives grammar (Call Name.Constant) (x ∷ ys) ys (v ∷ [])) (ap (λ k. constant k x []) e ∙ ap (λ m. term x None (terms.Int (pos m))) (ap lexemes.decimal i.bytes ∙ h.value)) (Derives.call {n = Name.Constant} (Derives.left (Derives.seq (Derives.right Derives.empty) (Derives.tok e)))) }

minus_spelled : {n : ℕ} {xs ys : List Lexeme} → GoodNumber n → Spells (spelled (codes "-") ++ spelled (decimal n)) xs ys → IsConstant (terms.Minus (terms.Int (pos n))) xs ys
minus_spelled h (Spells.word {x = m} j (Spells.word {x = x} {xs = ys} i Spells.nothing)) =
    let e = sign.fixed Num t.Number h.one refl i in
    let f = sign.minus_is j in
    record { first = m; derives = subst (λ v. Derives grammar (Call Name.Constant) (m ∷ x ∷ ys) ys (v ∷ [])) (ap (λ k. constant k m (token x ∷ [])) f ∙ ap (λ n. term m None (terms.Minus (terms.Int (pos n)))) (ap lexemes.decimal i.bytes ∙ h.value)) (Derives.call {n = Name.Constant} (Derives.left (Derives.seq (Derives.left (Derives.tok f)) (Derives.tok e)))) }

named_constant : {x : Lexeme} → ((x.terminal ≡ t.Word) ⊎ ((x.terminal ≡ t.Base) ⊎ (x.terminal ≡ t.Preference))) → constant x.terminal x [] ≡ term x None (terms.Const x.bytes)
named_constant {x = x} (inl e) = ap (λ k. constant k x []) e
named_constant {x = x} (inr (inl e)) = ap (λ k. constant k x []) e
named_constant {x = x} (inr (inr e)) = ap (λ k. constant k x []) e

name_spelled : {w : List ℕ} {xs ys : List Lexeme} → GoodName w → Spells (spelled w) xs ys → IsConstant (terms.Const w) xs ys
name_spelled h (Spells.word {x = x} {xs = ys} i Spells.nothing) =
    let k = name_kind h i in
    record { first = x; derives = subst (λ v. Derives grammar (Call Name.Constant) (x ∷ ys) ys (v ∷ [])) (named_constant k ∙ ap (λ b. term x None (terms.Const b)) i.bytes) (Derives.call {n = Name.Constant} (Derives.right (Derives.left (ident_derives {xs = ys} k)))) }

string_spelled : {cs : List ℕ} {xs ys : List Lexeme} → Spells (spelled (quoted cs)) xs ys → IsConstant (terms.Str cs) xs ys
string_spelled {cs = cs} (Spells.word {x = x} {xs = ys} i Spells.nothing) =
    let h = good_string cs in
    let e = sign.fixed Str t.String h.one refl i in
    record { first = x; derives = subst (λ v. Derives grammar (Call Name.Constant) (x ∷ ys) ys (v ∷ [])) (ap (λ k. constant k x []) e ∙ ap (λ ds. term x None (terms.Str ds)) (ap string_of i.bytes ∙ h.value)) (Derives.call {n = Name.Constant} (Derives.right (Derives.right (Derives.tok e)))) }

spells_as : {w v : Written} {xs ys : List Lexeme} → w ≡ v → Spells (at_least 0 w) xs ys → Spells (at_least 0 v) xs ys
spells_as e s = rw e at s

constant_spelled : {x : Term} {xs ys : List Lexeme} → GoodConstant x → Spells (term_pieces x) xs ys → IsConstant x xs ys
constant_spelled (GoodConstant.number {n = n} h) s = number_spelled h (spells_as (int_written n) s)
constant_spelled (GoodConstant.minus {n = n} h) s = minus_spelled h (spells_as (negative_written n) s)
constant_spelled (GoodConstant.name {w = w} h) s = name_spelled h (spells_as (const_written w) s)
constant_spelled (GoodConstant.string {cs = cs}) s = string_spelled (spells_as (str_written cs) s)

clear_as : {w v : Written} {rest : List ℕ} → w ≡ v → Clear (at_least 0 v) rest → Clear (at_least 0 w) rest
clear_as e c = rw (sym e) at c

constant_clear : {x : Term} (rest : List ℕ) → GoodConstant x → Ends rest → Clear (term_pieces x) rest
constant_clear rest (GoodConstant.number {n = n} h) e = clear_as (int_written n) (Clear.word h.one (h.apart rest e) Clear.nothing)
constant_clear rest (GoodConstant.minus {n = n} h) e = clear_as (negative_written n) (Clear.word sign.minus_one (sign.minus_apart _) (Clear.word h.one (h.apart rest e) Clear.nothing))
constant_clear rest (GoodConstant.name {w = w} h) e = clear_as (const_written w) (name_clear rest h e)
constant_clear rest (GoodConstant.string {cs = cs}) e = let h = good_string cs in clear_as (str_written cs) (Clear.word h.one (h.apart rest) Clear.nothing)

-- ---- signatures

record IsSignature (w : List ℕ) (n : ℕ) (xs ys : List Lexeme) : Type 0 where
  word : Lexeme
  slash : Lexeme
  digits : Lexeme
  is : xs ≡ word ∷ slash ∷ digits ∷ ys
  word_is : Is word w
  slash_is : slash.terminal ≡ t.Slash
  digits_is : digits.terminal ≡ t.Number
  value : lexemes.decimal digits.bytes ≡ n

signature_spelled : {w : List ℕ} {n : ℕ} {xs ys : List Lexeme} → GoodNumber n → Spells (signature_pieces w n) xs ys → IsSignature w n xs ys
signature_spelled h (Spells.word i (Spells.word j (Spells.word k Spells.nothing))) = record { word = _; slash = _; digits = _; is = refl; word_is = i; slash_is = sign.slash_is j; digits_is = sign.fixed Num t.Number h.one refl k; value = ap lexemes.decimal k.bytes ∙ h.value }

signature_clear : {w : List ℕ} {n : ℕ} (rest : List ℕ) → GoodName w → GoodNumber n → Ends rest → Clear (signature_pieces w n) rest
signature_clear rest g h e = Clear.word g.one (g.apart _ refl) (Clear.word sign.slash_one (sign.slash_apart _) (Clear.word h.one (h.apart rest e) Clear.nothing))

-- ---- statements

pub data GoodPart : PartKind → Type 0 where
  in_base : GoodPart parts.Base
  in_type : {k : List ℕ} → GoodKind k → GoodPart (parts.Kind k)

-- statements other than `#program`, with preference statements among them or without, of a type's part or not
pub data GoodStatement : Bool → Bool → Statement → Type 0 where
  rule : {whole of_type : Bool} {r : Rule} → GoodRule of_type r → GoodStatement whole of_type (statements.Rule r)
  const : {whole of_type : Bool} {file at : ℕ} {w : List ℕ} {x : Term} → GoodName w → GoodConstant x → GoodStatement whole of_type (statements.Const file at w x)
  show_none : {whole of_type : Bool} → GoodStatement whole of_type (statements.Show None)
  show : {whole of_type : Bool} {w : List ℕ} {n : ℕ} → GoodName w → GoodNumber n → GoodStatement whole of_type (statements.Show (Some (w, n)))
  defined : {whole of_type : Bool} {w : List ℕ} {n : ℕ} → GoodName w → GoodNumber n → GoodStatement whole of_type (statements.Defined w n)
  preference : {of_type : Bool} {file at : ℕ} {w k : List ℕ} {es : List Element} → GoodName w → GoodKind k → Each GoodElement es
      → GoodStatement true of_type (statements.Preference (record { file = file; at = at; name = w; kind = k; elements = es }))
  optimize : {of_type : Bool} {file at : ℕ} {w : List ℕ} → GoodName w → GoodStatement true of_type (statements.Optimize file at w)

-- what stands without preference statements stands with them
pub good_whole : {of_type : Bool} {s : Statement} → GoodStatement false of_type s → GoodStatement true of_type s
good_whole (GoodStatement.rule h) = GoodStatement.rule h
good_whole (GoodStatement.const h c) = GoodStatement.const h c
good_whole GoodStatement.show_none = GoodStatement.show_none
good_whole (GoodStatement.show h n) = GoodStatement.show h n
good_whole (GoodStatement.defined h n) = GoodStatement.defined h n

-- an element is read up to its place
abbrev AlikeElement : Element → Element → Type 0
AlikeElement x y = unplaced_element x ≡ unplaced_element y

abbrev element_value : Unit {0} → Element → Value
element_value u e = Value.element e

element_items : (es : List Element) → Each GoodElement es → Each (GoodItem AlikeElement element_pieces as_element element_value (Call Name.Element)) es
element_items [] Each.none = Each.none
element_items (e ∷ es) (Each.more g gs) = Each.more (record { derives = λ s. let p = element_spelled g s in record { info = tt; read = p.read; derives = p.derives; same = p.same }; clear = λ rest h. element_clear rest g h }) (element_items es gs)

same_elements : {es fs : List Element} → Alike AlikeElement es fs → map unplaced_element es ≡ map unplaced_element fs
same_elements Alike.none = refl
same_elements (Alike.more {xs = xs} {ys = ys} e a) = rw (e, same_elements a) refl

-- from a statement of the smaller grammar
smaller : (whole : Bool) {of_type : Bool} {s : Statement} {xs ys : List Lexeme} → IsRead (Name.Statement false of_type) s xs ys → IsRead (Name.Statement whole of_type) s xs ys
smaller false p = p
smaller true p = record { read = p.read; derives = Derives.call (Derives.left p.derives); same = p.same }

as_const : {of_type : Bool} {s : Statement} {xs ys : List Lexeme} → Derives grammar (Call Name.Const) xs ys (statement s ∷ []) → Derives grammar (Call (Name.Statement false of_type)) xs ys (statement s ∷ [])
as_const d = Derives.call (Derives.right (Derives.left d))

as_show : {of_type : Bool} {s : Statement} {xs ys : List Lexeme} → Derives grammar (Call Name.Show) xs ys (statement s ∷ []) → Derives grammar (Call (Name.Statement false of_type)) xs ys (statement s ∷ [])
as_show d = Derives.call (Derives.right (Derives.right (Derives.left d)))

as_defined : {of_type : Bool} {s : Statement} {xs ys : List Lexeme} → Derives grammar (Call Name.Defined) xs ys (statement s ∷ []) → Derives grammar (Call (Name.Statement false of_type)) xs ys (statement s ∷ [])
as_defined d = Derives.call (Derives.right (Derives.right (Derives.right d)))

as_preference : {of_type : Bool} {s : Statement} {xs ys : List Lexeme} → Derives grammar (Call Name.Preference) xs ys (statement s ∷ []) → Derives grammar (Call (Name.Statement true of_type)) xs ys (statement s ∷ [])
as_preference d = Derives.call (Derives.right (Derives.left d))

as_optimize : {of_type : Bool} {s : Statement} {xs ys : List Lexeme} → Derives grammar (Call Name.Optimize) xs ys (statement s ∷ []) → Derives grammar (Call (Name.Statement true of_type)) xs ys (statement s ∷ [])
as_optimize d = Derives.call (Derives.right (Derives.right d))

-- one token, which the list begins with
one : {x : Lexeme} {xs ys : List Lexeme} (k : Terminal) → xs ≡ x ∷ ys → x.terminal ≡ k → Derives grammar (Tok k) xs ys (token x ∷ [])
one {x = x} {ys = ys} k e f = from_here (sym e) (Derives.tok {t = x} {ts = ys} f)

-- a name, which the list begins with
one_name : {w : List ℕ} {x : Lexeme} {xs ys : List Lexeme} → GoodName w → xs ≡ x ∷ ys → Is x w → Derives grammar (Call Name.Ident) xs ys (token x ∷ [])
one_name {ys = ys} g e i = from_here (sym e) (ident_derives {xs = ys} (name_kind g i))

const_read : {of_type : Bool} {file at : ℕ} {w : List ℕ} {x : Term} {xs ys : List Lexeme} → GoodName w → GoodConstant x → Spells (statement_pieces (statements.Const file at w x)) xs ys → IsRead (Name.Statement false of_type) (statements.Const file at w x) xs ys
const_read {w = w} {x = x} {xs = xs} {ys = ys} g c s =
    let q = split (spaced_behind (codes "#const") ++ spelled w ++ spaced (codes "=") ++ term_pieces x) s in
    let d = dot_is_last q.2 in
    let p = split3 (spaced_behind (codes "#const") ++ spelled w) (spaced (codes "=")) q.1 in
    let o = split (spaced_behind (codes "#const")) p.2 in
    let a = spaced_behind_is o.1 in
    let n = spelled_is o.2 in
    let e = spaced_is p.3 in
    let v = constant_spelled c p.4 in
    let f = Derives.call {n = Name.Const} (Derives.seq (one t.Const a.1 (sign.const_is a.2)) (Derives.seq (one_name g n.1 n.2) (Derives.seq (one t.Equal e.1 (sign.equal_is e.2)) (Derives.seq v.derives (one t.Dot d.1 d.2))))) in
    record {
      read = statements.Const a.0.file a.0.at w x;
      derives = as_const (subst (λ b. Derives grammar (Call Name.Const) xs ys (statement (statements.Const a.0.file a.0.at b x) ∷ [])) n.2.bytes f);
      same = refl;
    }

show_none_read : {of_type : Bool} {xs ys : List Lexeme} → Spells (statement_pieces (statements.Show None)) xs ys → IsRead (Name.Statement false of_type) (statements.Show None) xs ys
show_none_read (Spells.word i (Spells.word j Spells.nothing)) =
    record { read = statements.Show None; derives = as_show (Derives.call (Derives.seq (Derives.tok (sign.show_is i)) (Derives.seq (Derives.right Derives.empty) (Derives.tok (sign.dot_is j))))); same = refl }

show_read : {of_type : Bool} {w : List ℕ} {n : ℕ} {xs ys : List Lexeme} → GoodName w → GoodNumber n → Spells (statement_pieces (statements.Show (Some (w, n)))) xs ys → IsRead (Name.Statement false of_type) (statements.Show (Some (w, n))) xs ys
show_read {w = w} {n = n} {xs = xs} {ys = ys} g h s =
    let q = split3 (spaced_behind (codes "#show")) (signature_pieces w n) s in
    let a = spaced_behind_is q.2 in
    let p = signature_spelled h q.3 in
    let d = dot_is_last q.4 in
    let f = Derives.call {n = Name.Show} (Derives.seq (one t.Show a.1 (sign.show_is a.2)) (Derives.seq (Derives.left (Derives.seq (one_name g p.is p.word_is) (Derives.seq (Derives.tok {t = p.slash} p.slash_is) (Derives.tok {t = p.digits} {ts = q.1} p.digits_is)))) (one t.Dot d.1 d.2))) in
    record {
      read = statements.Show (Some (w, n));
      derives = as_show (subst (λ m. Derives grammar (Call Name.Show) xs ys (statement (statements.Show (Some (w, m))) ∷ [])) p.value (subst (λ b. Derives grammar (Call Name.Show) xs ys (statement (statements.Show (Some (b, lexemes.decimal p.digits.bytes))) ∷ [])) p.word_is.bytes f));
      same = refl;
    }

defined_read : {of_type : Bool} {w : List ℕ} {n : ℕ} {xs ys : List Lexeme} → GoodName w → GoodNumber n → Spells (statement_pieces (statements.Defined w n)) xs ys → IsRead (Name.Statement false of_type) (statements.Defined w n) xs ys
defined_read {w = w} {n = n} {xs = xs} {ys = ys} g h s =
    let q = split3 (spaced_behind (codes "#defined")) (signature_pieces w n) s in
    let a = spaced_behind_is q.2 in
    let p = signature_spelled h q.3 in
    let d = dot_is_last q.4 in
    let f = Derives.call {n = Name.Defined} (Derives.seq (one t.Defined a.1 (sign.defined_is a.2)) (Derives.seq (one_name g p.is p.word_is) (Derives.seq (Derives.tok {t = p.slash} p.slash_is) (Derives.seq (Derives.tok {t = p.digits} {ts = q.1} p.digits_is) (one t.Dot d.1 d.2))))) in
    record {
      read = statements.Defined w n;
      derives = as_defined (subst (λ m. Derives grammar (Call Name.Defined) xs ys (statement (statements.Defined w m) ∷ [])) p.value (subst (λ b. Derives grammar (Call Name.Defined) xs ys (statement (statements.Defined b (lexemes.decimal p.digits.bytes)) ∷ [])) p.word_is.bytes f));
      same = refl;
    }

optimize_read : {of_type : Bool} {file at : ℕ} {w : List ℕ} {xs ys : List Lexeme} → GoodName w → Spells (statement_pieces (statements.Optimize file at w)) xs ys → IsRead (Name.Statement true of_type) (statements.Optimize file at w) xs ys
optimize_read {w = w} {ys = ys} h (Spells.word {x = o} i (Spells.word {x = p} j (Spells.word {x = x} k (Spells.word {x = c} l (Spells.word {x = d} m Spells.nothing))))) =
    let f = Derives.call {n = Name.Optimize} (Derives.seq (Derives.tok (sign.optimize_is i)) (Derives.seq (Derives.tok (sign.open_is j)) (Derives.seq (ident_derives {xs = c ∷ d ∷ ys} (name_kind h k)) (Derives.seq (Derives.tok (sign.close_is l)) (Derives.tok (sign.dot_is m)))))) in
    record { read = statements.Optimize o.file o.at w; derives = as_optimize (subst (λ b. Derives grammar (Call Name.Optimize) (o ∷ p ∷ x ∷ c ∷ d ∷ ys) ys (statement (statements.Optimize o.file o.at b) ∷ [])) k.bytes f); same = refl }

preference_valued : {file at : ℕ} {w k : List ℕ} (vs : List Value) {es : List Element} {xs ys : List Lexeme} → Derives grammar (Call Name.Preference) xs ys (statement (statements.Preference (record { file = file; at = at; name = w; kind = k; elements = collected as_element vs })) ∷ []) → collected as_element vs ≡ es → Derives grammar (Call Name.Preference) xs ys (statement (statements.Preference (record { file = file; at = at; name = w; kind = k; elements = es })) ∷ [])
preference_valued vs d e = rw e at d

-- the dot is no element
elements_before : (vs : List Value) (dot : Lexeme) → collected as_element (vs ++ token dot ∷ []) ≡ collected as_element vs
elements_before vs dot = collected-append as_element vs (token dot ∷ []) ∙ append-nil (collected as_element vs)

preference_read : {of_type : Bool} {file at : ℕ} {w k : List ℕ} {es : List Element} {xs ys : List Lexeme} → GoodName w → GoodKind k → Each GoodElement es → Spells (preference_pieces (record { file = file; at = at; name = w; kind = k; elements = es })) xs ys → IsRead (Name.Statement true of_type) (statements.Preference (record { file = file; at = at; name = w; kind = k; elements = es })) xs ys
preference_read {w = w} {k = k} {es = es} {xs = xs} {ys = ys} h c gs s =
    let q = split (spelled (codes "#preference") ++ in_parentheses (spelled w ++ spaced_behind (codes ",") ++ kind_pieces k) ++ in_braces (semicolons (map element_pieces es))) s in
    let d = dot_is_last q.2 in
    let p = split3 (spelled (codes "#preference")) (in_parentheses (spelled w ++ spaced_behind (codes ",") ++ kind_pieces k)) q.1 in
    let a = spelled_is p.2 in
    let o = split3 (spelled (codes "(")) (spelled w ++ spaced_behind (codes ",") ++ kind_pieces k) p.3 in
    let paren = spelled_is o.2 in
    let close = closing o.4 in
    let m = split3 (spelled w) (spaced_behind (codes ",")) o.3 in
    let n = spelled_is m.2 in
    let comma = spaced_behind_is m.3 in
    let kd = kind_spelled c m.4 in
    let b = braces_spelled AlikeElement element_pieces as_element element_value Name.Element (λ x. refl) (λ i x. refl) es (element_items es gs) p.4 in
    let f = Derives.call {n = Name.Preference} (Derives.seq (one t.Statement a.1 (sign.preference_statement_is a.2)) (Derives.seq (one t.Open paren.1 (sign.open_is paren.2)) (Derives.seq (one_name h n.1 n.2) (Derives.seq (one t.Comma comma.1 (sign.comma_is comma.2)) (Derives.seq kd (Derives.seq (one t.Close close.1 close.2) (Derives.seq b.derives (one t.Dot d.1 d.2)))))))) in
    let e = subst (λ bytes. Derives grammar (Call Name.Preference) xs ys (statement (statements.Preference (record { file = a.0.file; at = a.0.at; name = bytes; kind = k; elements = collected as_element (b.rest ++ token d.0 ∷ []) })) ∷ [])) n.2.bytes f in
    record {
      read = statements.Preference (record { file = a.0.file; at = a.0.at; name = w; kind = k; elements = b.read });
      derives = as_preference (preference_valued (b.rest ++ token d.0 ∷ []) e (elements_before b.rest d.0 ∙ b.picked));
      same = ap (λ fs. statements.Preference (record { file = 0; at = 0; name = w; kind = k; elements = fs })) (same_elements b.same);
    }

pub statement_read : {whole of_type : Bool} {s : Statement} {xs ys : List Lexeme} → GoodStatement whole of_type s → Spells (statement_pieces s) xs ys → IsRead (Name.Statement whole of_type) s xs ys
statement_read {whole = whole} (GoodStatement.rule h) s = let p = rule_spelled h s in smaller whole (record { read = statements.Rule p.read; derives = Derives.call (Derives.left p.derives); same = ap statements.Rule p.same })
statement_read {whole = whole} (GoodStatement.const h c) s = smaller whole (const_read h c s)
statement_read {whole = whole} GoodStatement.show_none s = smaller whole (show_none_read s)
statement_read {whole = whole} (GoodStatement.show h n) s = smaller whole (show_read h n s)
statement_read {whole = whole} (GoodStatement.defined h n) s = smaller whole (defined_read h n s)
statement_read (GoodStatement.preference h c gs) s = preference_read h c gs s
statement_read (GoodStatement.optimize h) s = optimize_read h s

-- a statement stands on a line
pub statement_clear : {whole of_type : Bool} {s : Statement} (rest : List ℕ) → GoodStatement whole of_type s → Clear (statement_pieces s) (10 ∷ rest)
statement_clear rest (GoodStatement.rule h) = rule_clear rest h
statement_clear rest (GoodStatement.const {w = w} {x = x} h c) =
    clear_append (spaced_behind (codes "#const") ++ spelled w ++ spaced (codes "=") ++ term_pieces x) (spelled (codes ".")) (10 ∷ rest)
    (clear3 (spaced_behind (codes "#const") ++ spelled w) (spaced (codes "=")) (term_pieces x) _ (clear_append (spaced_behind (codes "#const")) (spelled w) _ (spaced_behind_clear _ sign.const_one (sign.const_apart _)) (name_clear _ h refl)) (spaced_clear _ sign.equal_one (sign.equal_apart _)) (constant_clear _ c refl))
    (dot_clear rest)
statement_clear rest GoodStatement.show_none = Clear.word sign.show_one (sign.show_apart_dot _) (dot_clear rest)
statement_clear rest (GoodStatement.show {w = w} {n = n} h k) = clear3 (spaced_behind (codes "#show")) (signature_pieces w n) (spelled (codes ".")) (10 ∷ rest) (spaced_behind_clear _ sign.show_one (sign.show_apart _)) (signature_clear _ h k refl) (dot_clear rest)
statement_clear rest (GoodStatement.defined {w = w} {n = n} h k) = clear3 (spaced_behind (codes "#defined")) (signature_pieces w n) (spelled (codes ".")) (10 ∷ rest) (spaced_behind_clear _ sign.defined_one (sign.defined_apart _)) (signature_clear _ h k refl) (dot_clear rest)
statement_clear rest (GoodStatement.preference {w = w} {k = k} {es = es} h c gs) =
    clear_append (spelled (codes "#preference") ++ in_parentheses (spelled w ++ spaced_behind (codes ",") ++ kind_pieces k) ++ in_braces (semicolons (map element_pieces es))) (spelled (codes ".")) (10 ∷ rest)
    (clear3 (spelled (codes "#preference")) (in_parentheses (spelled w ++ spaced_behind (codes ",") ++ kind_pieces k)) (in_braces (semicolons (map element_pieces es))) _
    (Clear.word sign.preference_statement_one (sign.preference_statement_apart _) Clear.nothing)
    (parentheses_clear _ _ (λ more e. clear3 (spelled w) (spaced_behind (codes ",")) (kind_pieces k) more (name_clear _ h refl) (spaced_behind_clear _ sign.comma_one (sign.comma_apart _)) (kind_clear more c e)))
    (braces_clear AlikeElement element_pieces as_element element_value Name.Element (λ x. refl) (λ i x. refl) es _ (element_items es gs)))
    (dot_clear rest)
statement_clear rest (GoodStatement.optimize h) = Clear.word sign.optimize_one (sign.optimize_apart _) (Clear.word sign.open_one (sign.open_apart _) (Clear.word h.one (h.apart _ refl) (Clear.word sign.close_one (sign.close_apart _) (dot_clear rest))))

-- ---- parts

pub record IsOpening (n : Name) (part : PartKind) (xs ys : List Lexeme) : Type 0 where
  pub file : ℕ
  pub at : ℕ
  pub derives : Derives grammar (Call n) xs ys (statement (statements.Part file at part) ∷ [])

abbrev pub opening_of : PartKind → Name
opening_of parts.Base = Name.BaseOpening
opening_of (parts.Kind k) = Name.TypeOpening

pub part_read : {part : PartKind} {xs ys : List Lexeme} → GoodPart part → Spells (part_pieces part) xs ys → IsOpening (opening_of part) part xs ys
part_read GoodPart.in_base (Spells.word {x = x} i (Spells.blank (Spells.word j (Spells.word k Spells.nothing)))) =
    record { file = x.file; at = x.at; derives = Derives.call (Derives.seq (Derives.tok (sign.program_is i)) (Derives.seq (Derives.tok (sign.base_is j)) (Derives.tok (sign.dot_is k)))) }
part_read (GoodPart.in_type {k = k} c) s =
    let q = split (spaced_behind (codes "#program") ++ spelled (codes "preference") ++ in_parentheses (kind_pieces k)) s in
    let d = dot_is_last q.2 in
    let p = split3 (spaced_behind (codes "#program")) (spelled (codes "preference")) q.1 in
    let a = spaced_behind_is p.2 in
    let b = spelled_is p.3 in
    let o = split3 (spelled (codes "(")) (kind_pieces k) p.4 in
    let paren = spelled_is o.2 in
    let close = closing o.4 in
    record { file = a.0.file; at = a.0.at; derives = Derives.call {n = Name.TypeOpening} (Derives.seq (one t.Program a.1 (sign.program_is a.2)) (Derives.seq (one t.Preference b.1 (sign.preference_is b.2)) (Derives.seq (one t.Open paren.1 (sign.open_is paren.2)) (Derives.seq (kind_spelled c o.3) (Derives.seq (one t.Close close.1 close.2) (one t.Dot d.1 d.2)))))) }

pub part_clear : {part : PartKind} (rest : List ℕ) → GoodPart part → Clear (part_pieces part) (10 ∷ rest)
part_clear rest GoodPart.in_base = Clear.word sign.program_one (sign.program_apart _) (Clear.blank (Clear.word sign.base_one (sign.base_apart _) (dot_clear rest)))
part_clear rest (GoodPart.in_type {k = k} c) =
    clear_append (spaced_behind (codes "#program") ++ spelled (codes "preference") ++ in_parentheses (kind_pieces k)) (spelled (codes ".")) (10 ∷ rest)
    (clear3 (spaced_behind (codes "#program")) (spelled (codes "preference")) (in_parentheses (kind_pieces k)) _ (spaced_behind_clear _ sign.program_one (sign.program_apart _)) (Clear.word sign.preference_one (sign.preference_apart _) Clear.nothing) (parentheses_clear (kind_pieces k) _ (λ more e. kind_clear more c e)))
    (dot_clear rest)
