-- What statements come to.
use Rattle.std.proofs.Common.{◌≡◌, ℕ, pos, List, [], ◌∷◌, ◌++◌, Bool, false, Option, Some, None, Ok, Err, Result, refl, sym, ◌∙◌, ap, ap₂, append_assoc}
use Rattle.std.proofs.Common.{◌<◌, ◌^◌}
use Rattle.std.proofs.lemmas.Int.{to_z-of_z}
use Rattle.std.specs.Prelude.{ℤ}
use lib.Signed.{mag}
use mir.Syntax.{w64}
use mir.Val.{of_z, to_z}
use Rattle.grammar.specs.Form.{◌⨾◌, opt}
use Rattle.grammar.specs.Form.Form.{Tok}
use Rattle.grammar.specs.Takes.{Takes, Fails, Starts, NotStarts}
use Rattle.ap_syntax.specs.declared.programs.Statement.{Statement}
use Rattle.ap_syntax.specs.declared.programs.Statement.TheVariants as statements
use Rattle.ap_syntax.specs.declared.rules.Rule.{Rule}
use Rattle.ap_syntax.specs.declared.terms.Term.{Term}
use Rattle.ap_syntax.specs.declared.terms.Term.TheVariants as terms
use Rattle.ap_grammar.specs.declared.terminals.Terminal.{Terminal}
use Rattle.ap_grammar.specs.declared.terminals.Terminal.TheVariants as t
use Rattle.ap_grammar.specs.Lexemes.{Lexeme, decimal, string_of}
use Rattle.ap_grammar.specs.Values.{Value}
use Rattle.ap_grammar.specs.Values.Value.{token, term, statement}
use Rattle.ap_grammar.specs.Grammar.{Name, made}
use Rattle.ap_grammar.specs.Factored.{Rhs, call, factored}
use Rattle.ap_grammar.specs.Tables.{tables}
use Rattle.literal_parse.specs.declared.cursor.Place.{Place}
use Rattle.literal_parse.specs.declared.error.Stop.{Stop}
use Rattle.literal_parse.specs.declared.error.Stop.TheVariants.{Syntax}
use Rattle.literal_parse.specs.Reads.{Reads, IsAny, IsName, IsNameKind, IsNext, IsPlace, Lacks}
use Rattle.ap_parse.specs.Rules.{IsRule}
use Rattle.ap_parse.specs.Statements.{IsConstant, IsNumber, IsOptionalSignature, IsSignature, IsStatement, signature}
use Rattle.literal_parse.proofs.Steps.{taken, follow, giving, from, fails_from, fails_tok, next_starts, next_takes, not_seq, seq_starts}

alone : {v w : Value} → v ≡ w → v ∷ [] ≡ w ∷ []
alone e = ap (λ v. v ∷ []) e

-- the token that was read
pub expected : {U : Type 0} {u : U} {k : Terminal} {xs ys : List Lexeme} → Reads (Tok k) IsAny xs ys (Ok u) → IsNext k xs ys
expected (Reads.ok i (Takes.tok {t = t} e)) = record { token = t; is = refl; kind = e }

-- what fails behind a part that was read
pub past : {X : Type 0} {a b : Rhs} {is : X → List Value → Type 0} {x : X} {xs ys zs : List Lexeme} → Reads a is xs ys (Ok x) → Fails factored tables b ys zs → Fails factored tables (a ⨾ b) xs zs
past r f = Fails.second (taken r).takes f

-- one more part behind three
takes_longer : {a b c d : Rhs} {xs ys zs : List Lexeme} {us vs : List Value} → Takes factored tables (a ⨾ b ⨾ c) xs ys us → Takes factored tables d ys zs vs → Takes factored tables (a ⨾ b ⨾ c ⨾ d) xs zs (us ++ vs)
takes_longer {vs = vs} (Takes.seq {us = p} ta (Takes.seq {us = q} {vs = r} tb tc)) td =
    giving (sym (append_assoc p (q ++ r) vs ∙ ap (λ ws. p ++ ws) (append_assoc q r vs))) (Takes.seq ta (Takes.seq tb (Takes.seq tc td)))

fails_longer : {a b c d : Rhs} {xs ys : List Lexeme} → Fails factored tables (a ⨾ b ⨾ c) xs ys → Fails factored tables (a ⨾ b ⨾ c ⨾ d) xs ys
fails_longer (Fails.first f) = Fails.first f
fails_longer (Fails.second ta (Fails.first f)) = Fails.second ta (Fails.first f)
fails_longer (Fails.second ta (Fails.second tb f)) = Fails.second ta (Fails.second tb (Fails.first f))

last_fails : {a b c d : Rhs} {xs ys zs : List Lexeme} {us : List Value} → Takes factored tables (a ⨾ b ⨾ c) xs ys us → Fails factored tables d ys zs → Fails factored tables (a ⨾ b ⨾ c ⨾ d) xs zs
last_fails (Takes.seq ta (Takes.seq tb tc)) f = Fails.second ta (Fails.second tb (Fails.second tc f))

-- ---- numbers and predicates

pub number_read : {xs ys : List Lexeme} {n : ℕ} → (w : IsNext t.Number xs ys) × (n ≡ decimal w.token.bytes) → Reads (Tok t.Number) IsNumber xs ys (Ok n)
number_read h = Reads.ok (h.0.token, h.1, refl) (next_takes h.0)

pub signature_read : {U : Type 0} {u : U} {xs ls bs ys : List Lexeme} {name : List ℕ} {n : ℕ} → Reads (call Name.Ident) (IsName xs) xs ls (Ok name) → Reads (Tok t.Slash) IsAny ls bs (Ok u) → Reads (Tok t.Number) IsNumber bs ys (Ok n) → Reads signature IsSignature xs ys (Ok (name, n))
signature_read r e w =
    let q = taken r in
    let s = expected e in
    let p = taken w in
    Reads.ok (record { name = q.makes.token; slash = s.token; number = p.makes.0; is = refl; named = q.makes.bytes; arity = p.makes.1 })
    (Takes.seq (giving q.makes.is q.takes) (Takes.seq (next_takes s) (giving p.makes.2 p.takes)))

pub no_signature : {xs : List Lexeme} → NotStarts factored tables (call Name.Ident) xs → Reads (opt signature) IsOptionalSignature xs xs (Ok None)
no_signature {xs = xs} h = Reads.ok IsOptionalSignature.absent (Takes.right (not_seq (call Name.Ident) (Tok t.Slash ⨾ Tok t.Number) xs refl h) Takes.empty)

signature_starts : (xs : List Lexeme) → Starts factored tables (call Name.Ident) xs → Starts factored tables signature xs
signature_starts xs s = seq_starts (call Name.Ident) (Tok t.Slash ⨾ Tok t.Number) xs s

pub signature_fails : {xs ys : List Lexeme} → Starts factored tables (call Name.Ident) xs → Fails factored tables signature xs ys → Fails factored tables (opt signature) xs ys
signature_fails {xs = xs} s f = Fails.left (signature_starts xs s) f

pub some_signature : {xs ys : List Lexeme} {s : List ℕ × ℕ} → Starts factored tables (call Name.Ident) xs → Reads signature IsSignature xs ys (Ok s) → Reads (opt signature) IsOptionalSignature xs ys (Ok (Some s))
some_signature {xs = xs} s r = let q = taken r in Reads.ok (IsOptionalSignature.present q.makes) (Takes.left (signature_starts xs s) q.takes)

-- ---- `#show` and `#defined`

paired : {s : List ℕ × ℕ} {x : List ℕ} {n : ℕ} → s.0 ≡ x → s.1 ≡ n → (x, n) ≡ s
paired e f = ap₂ (λ (y : List ℕ) (m : ℕ). (y, m)) (sym e) (sym f)

show_made : (first dot : Lexeme) (o : Option (List ℕ × ℕ)) (vs : List Value) → IsOptionalSignature o vs → made Name.Show (token first ∷ (vs ++ token dot ∷ [])) ≡ statement (statements.Show o)
show_made first dot o vs IsOptionalSignature.absent = refl
show_made first dot o vs (IsOptionalSignature.present {s = s} i) = rw i.is (ap (λ p. statement (statements.Show (Some p))) (paired i.named i.arity))

pub show_read : {U V : Type 0} {u : U} {v : V} {xs ls bs ys : List Lexeme} {o : Option (List ℕ × ℕ)} → Reads (Tok t.Show) IsAny xs ls (Ok u) → Reads (opt signature) IsOptionalSignature ls bs (Ok o) → Reads (Tok t.Dot) IsAny bs ys (Ok v) → Reads (call Name.Show) IsStatement xs ys (Ok (statements.Show o))
show_read {o = o} e r d =
    let n = expected e in
    let q = taken r in
    let m = expected d in
    Reads.ok (alone (show_made n.token m.token o q.values q.makes)) (Takes.call (Takes.seq (next_takes n) (Takes.seq q.takes (next_takes m))))

pub defined_signature_fails : {U : Type 0} {u : U} {xs ls ys : List Lexeme} → Reads (Tok t.Defined) IsAny xs ls (Ok u) → Fails factored tables signature ls ys → Fails factored tables (call Name.Defined) xs ys
defined_signature_fails e f = Fails.call (past e (fails_longer f))

pub defined_dot_fails : {U : Type 0} {u : U} {xs ls bs ys : List Lexeme} {s : List ℕ × ℕ} → Reads (Tok t.Defined) IsAny xs ls (Ok u) → Reads signature IsSignature ls bs (Ok s) → Fails factored tables (Tok t.Dot) bs ys → Fails factored tables (call Name.Defined) xs ys
defined_dot_fails e r f = Fails.call (past e (last_fails (taken r).takes f))

defined_made : (first dot : Lexeme) (s : List ℕ × ℕ) (vs : List Value) → IsSignature s vs → made Name.Defined (token first ∷ (vs ++ token dot ∷ [])) ≡ statement (statements.Defined s.0 s.1)
defined_made first dot s vs i = rw (i.is, i.named, i.arity) refl

pub defined_read : {U V : Type 0} {u : U} {v : V} {xs ls bs ys : List Lexeme} {s : List ℕ × ℕ} → Reads (Tok t.Defined) IsAny xs ls (Ok u) → Reads signature IsSignature ls bs (Ok s) → Reads (Tok t.Dot) IsAny bs ys (Ok v) → Reads (call Name.Defined) IsStatement xs ys (Ok (statements.Defined s.0 s.1))
defined_read {s = s} e r d =
    let n = expected e in
    let q = taken r in
    let m = expected d in
    Reads.ok (alone (defined_made n.token m.token s q.values q.makes)) (Takes.call (Takes.seq (next_takes n) (takes_longer q.takes (next_takes m))))

-- ---- constants

no_number : (xs : List Lexeme) → Lacks t.Minus xs → Lacks t.Number xs → NotStarts factored tables (opt (Tok t.Minus) ⨾ Tok t.Number) xs
no_number [] h i = tt
no_number (x ∷ xs) h i = rw (h, i) refl

pub opposite_fails : {xs ms ys : List Lexeme} → IsNext t.Minus xs ms → Fails factored tables (Tok t.Number) ms ys → Fails factored tables (call Name.Constant) xs ys
opposite_fails w f = Fails.call (Fails.left (rw (w.is, w.kind) refl) (Fails.second (Takes.left (next_starts w) (next_takes w)) f))

-- a number that fits is kept where it is cast
number_kept : (z : ℤ) (n : ℕ) → z ≡ pos n → mag z < 2 ^ 63 → to_z w64 (of_z w64 z) ≡ pos n
number_kept z n e h = to_z-of_z w64 z (record { sfits = h }) ∙ e

opposite_made : (first number : Lexeme) (z : ℤ) (n : ℕ) → z ≡ pos n → mag z < 2 ^ 63 → first.terminal ≡ t.Minus → n ≡ decimal number.bytes → made Name.Constant (token first ∷ token number ∷ []) ≡ term first None (terms.Minus (terms.Int (to_z w64 (of_z w64 z))))
opposite_made first number z n e h k i = rw (number_kept z n e h, k, i) refl

pub opposite_read : {xs ms ys : List Lexeme} {n : ℕ} (z : ℤ) → z ≡ pos n → mag z < 2 ^ 63 → IsNext t.Minus xs ms → Reads (Tok t.Number) IsNumber ms ys (Ok n) → Reads (call Name.Constant) IsConstant xs ys (Ok (terms.Minus (terms.Int (to_z w64 (of_z w64 z)))))
opposite_read {n = n} z e h w r =
    let q = taken r in
    Reads.ok (w.token, alone (opposite_made w.token q.makes.0 z n e h w.kind q.makes.1)) (Takes.call (Takes.left (rw (w.is, w.kind) refl) (Takes.seq (Takes.left (next_starts w) (next_takes w)) (giving q.makes.2 q.takes))))

pub number_constant : {xs ms ys : List Lexeme} {n : ℕ} (z : ℤ) → z ≡ pos n → mag z < 2 ^ 63 → (ms ≡ xs) × Lacks t.Minus xs → (w : IsNext t.Number ms ys) × (n ≡ decimal w.token.bytes) → Reads (call Name.Constant) IsConstant xs ys (Ok (terms.Int (to_z w64 (of_z w64 z))))
number_constant {n = n} z e i h p =
    let w = p.0 in
    Reads.ok (w.token, rw (number_kept z n e i, w.kind, p.1) refl) (Takes.call (from h.0 (Takes.left (rw (w.is, w.kind) refl) (Takes.seq (Takes.right (rw h.0 h.1) Takes.empty) (next_takes w)))))

module _ {xs ms ns : List Lexeme} (h : (ms ≡ xs) × Lacks t.Minus xs) (i : (ns ≡ ms) × Lacks t.Number ms) where
  -- what comes next is no number
  not_signed : NotStarts factored tables (opt (Tok t.Minus) ⨾ Tok t.Number) ns
  not_signed = no_number ns (rw (i.0 ∙ h.0) h.1) (rw i.0 i.1)

  same_place : ns ≡ xs
  same_place = i.0 ∙ h.0

  pub name_constant_fails : {ys : List Lexeme} → Starts factored tables (call Name.Ident) ns → Fails factored tables (call Name.Ident) ns ys → Fails factored tables (call Name.Constant) xs ys
  name_constant_fails s f = Fails.call (fails_from same_place (Fails.right not_signed (Fails.left s f)))

  named : (first : Lexeme) → IsNameKind first.terminal → made Name.Constant (token first ∷ []) ≡ term first None (terms.Const first.bytes)
  named first k = by_kind first.terminal refl k
    where
      by_kind : (j : Terminal) → first.terminal ≡ j → IsNameKind j → made Name.Constant (token first ∷ []) ≡ term first None (terms.Const first.bytes)
      by_kind j e IsNameKind.word = rw e refl
      by_kind j e IsNameKind.base = rw e refl
      by_kind j e IsNameKind.preference = rw e refl

  pub name_constant : {ys : List Lexeme} {x : List ℕ} → Starts factored tables (call Name.Ident) ns → Reads (call Name.Ident) (IsName ns) ns ys (Ok x) → Reads (call Name.Constant) IsConstant xs ys (Ok (terms.Const x))
  name_constant {x = x} s r =
      let q = taken r in
      Reads.ok (q.makes.token, alone (named q.makes.token q.makes.kind ∙ ap (λ y. term q.makes.token None (terms.Const y)) (sym q.makes.bytes)))
      (Takes.call (from same_place (Takes.right not_signed (Takes.left s (giving q.makes.is q.takes)))))

  pub string_constant : {ys : List Lexeme} {s : List ℕ} → NotStarts factored tables (call Name.Ident) ns → (w : IsNext t.String ns ys) → s ≡ string_of w.token.bytes → Reads (call Name.Constant) IsConstant xs ys (Ok (terms.Str s))
  string_constant n w e = Reads.ok (w.token, rw (w.kind, e) refl) (Takes.call (from same_place (Takes.right not_signed (Takes.right n (next_takes w)))))

  pub no_constant : {ys : List Lexeme} → NotStarts factored tables (call Name.Ident) ns → (ys ≡ ns) × Lacks t.String ns → Reads (call Name.Constant) IsConstant xs ys (Err Syntax)
  no_constant n l = rw l.0 (Reads.syntax (Fails.call (fails_from same_place (Fails.right not_signed (Fails.right n (fails_tok t.String ns l.1))))))

-- ---- `#const`

const_made : (first equal other dot : Lexeme) (name : Lexeme) (x : Term) → made Name.Const (token first ∷ token name ∷ token equal ∷ term other None x ∷ token dot ∷ []) ≡ statement (statements.Const first.file first.at name.bytes x)
const_made first equal other dot name x = refl

pub const_read : {U V W : Type 0} {u : U} {v : V} {w : W} {xs ls ms ns ps ys : List Lexeme} {p : Place} {name : List ℕ} {x : Term} → IsPlace xs p → Reads (Tok t.Const) IsAny xs ls (Ok u) → Reads (call Name.Ident) (IsName ls) ls ms (Ok name) → Reads (Tok t.Equal) IsAny ms ns (Ok v) → Reads (call Name.Constant) IsConstant ns ps (Ok x) → Reads (Tok t.Dot) IsAny ps ys (Ok w) → Reads (call Name.Const) IsStatement xs ys (Ok (statements.Const p.file p.at name x))
const_read {p = p} i e r f c d =
    let a = expected e in
    let q = taken r in
    let b = expected f in
    let k = taken c in
    let m = expected d in
    Reads.ok (placed a i q.makes.bytes)
    (Takes.call (Takes.seq (next_takes a) (Takes.seq (giving q.makes.is q.takes) (Takes.seq (next_takes b) (Takes.seq (giving k.makes.1 k.takes) (next_takes m))))))
  where
    placed : {xs ys : List Lexeme} {name spelled : List ℕ} {x : Term} (a : IsNext t.Const xs ys) → IsPlace xs p → name ≡ spelled → statement (statements.Const a.token.file a.token.at spelled x) ∷ [] ≡ statement (statements.Const p.file p.at name x) ∷ []
    placed a i e = let j = rw a.is at i in rw (e, j.0, j.1) refl

-- ---- statements

module _ (of_type : Bool) where
  pub rule_fails : {xs ys : List Lexeme} → Starts factored tables (call (Name.Rule of_type)) xs → Fails factored tables (call (Name.Rule of_type)) xs ys → Fails factored tables (call (Name.Statement false of_type)) xs ys
  rule_fails s f = Fails.call (Fails.left s f)

  pub rule_statement : {xs ys : List Lexeme} {r : Rule} → Starts factored tables (call (Name.Rule of_type)) xs → Reads (call (Name.Rule of_type)) IsRule xs ys (Ok r) → Reads (call (Name.Statement false of_type)) IsStatement xs ys (Ok (statements.Rule r))
  rule_statement s r = let q = taken r in Reads.ok refl (Takes.call (Takes.left s (giving q.makes q.takes)))

  const_starts : (xs : List Lexeme) → Starts factored tables (Tok t.Const) xs → Starts factored tables (call Name.Const) xs
  const_starts [] h = absurd h
  const_starts (x ∷ ts) h = rw h refl

  show_starts : (xs : List Lexeme) → Starts factored tables (Tok t.Show) xs → Starts factored tables (call Name.Show) xs
  show_starts [] h = absurd h
  show_starts (x ∷ ts) h = rw h refl

  const_lacks : (xs : List Lexeme) → Lacks t.Const xs → NotStarts factored tables (call Name.Const) xs
  const_lacks [] h = tt
  const_lacks (x ∷ ts) h = rw h refl

  show_lacks : (xs : List Lexeme) → Lacks t.Show xs → NotStarts factored tables (call Name.Show) xs
  show_lacks [] h = tt
  show_lacks (x ∷ ts) h = rw h refl

  pub const_statement : {xs ys : List Lexeme} {r : Result Statement Stop} → NotStarts factored tables (call (Name.Rule of_type)) xs → Starts factored tables (Tok t.Const) xs → Reads (call Name.Const) IsStatement xs ys r → Reads (call (Name.Statement false of_type)) IsStatement xs ys r
  const_statement {xs = xs} n s r = follow r
      (λ x vs i d. (statement x ∷ [], refl, Takes.call (Takes.right n (Takes.left (const_starts xs s) (giving i d)))))
      (λ f. Fails.call (Fails.right n (Fails.left (const_starts xs s) f)))

  pub show_statement : {xs ys : List Lexeme} {r : Result Statement Stop} → NotStarts factored tables (call (Name.Rule of_type)) xs → Lacks t.Const xs → Starts factored tables (Tok t.Show) xs → Reads (call Name.Show) IsStatement xs ys r → Reads (call (Name.Statement false of_type)) IsStatement xs ys r
  show_statement {xs = xs} n l s r = follow r
      (λ x vs i d. (statement x ∷ [], refl, Takes.call (Takes.right n (Takes.right (const_lacks xs l) (Takes.left (show_starts xs s) (giving i d))))))
      (λ f. Fails.call (Fails.right n (Fails.right (const_lacks xs l) (Fails.left (show_starts xs s) f))))

  pub defined_statement : {xs ys : List Lexeme} {r : Result Statement Stop} → NotStarts factored tables (call (Name.Rule of_type)) xs → Lacks t.Const xs → Lacks t.Show xs → Reads (call Name.Defined) IsStatement xs ys r → Reads (call (Name.Statement false of_type)) IsStatement xs ys r
  defined_statement {xs = xs} n l k r = follow r
      (λ x vs i d. (statement x ∷ [], refl, Takes.call (Takes.right n (Takes.right (const_lacks xs l) (Takes.right (show_lacks xs k) (giving i d))))))
      (λ f. Fails.call (Fails.right n (Fails.right (const_lacks xs l) (Fails.right (show_lacks xs k) f))))
