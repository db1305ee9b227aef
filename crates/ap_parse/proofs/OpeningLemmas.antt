-- What `#program` and single statements come to.
use Rattle.std.proofs.Common.{◌≡◌, ℕ, List, [], ◌∷◌, ◌++◌, Bool, false, Ok, Err, Result, refl, sym, ap}
use Rattle.grammar.specs.Form.{◌⨾◌}
use Rattle.grammar.specs.Form.Form.{Tok, Empty}
use Rattle.grammar.specs.Takes.{Takes, Fails, Starts, NotStarts}
use Rattle.ap_syntax.specs.declared.programs.PartKind.{PartKind}
use Rattle.ap_syntax.specs.declared.programs.PartKind.TheVariants as parts
use Rattle.ap_syntax.specs.declared.programs.Statement.{Statement}
use Rattle.ap_syntax.specs.declared.programs.Statement.TheVariants as statements
use Rattle.ap_grammar.specs.declared.terminals.Terminal.TheVariants as t
use Rattle.ap_grammar.specs.Lexemes.{Lexeme}
use Rattle.ap_grammar.specs.Values.{Value}
use Rattle.ap_grammar.specs.Values.Value.{token, kind, statement}
use Rattle.ap_grammar.specs.Grammar.{Name}
use Rattle.ap_grammar.specs.Factored.{Part, call, factored, type_opening, opened, opening}
use Rattle.ap_grammar.specs.Tables.{tables}
use Rattle.literal_parse.specs.declared.cursor.Place.{Place}
use Rattle.literal_parse.specs.declared.error.Stop.{Stop}
use Rattle.literal_parse.specs.declared.error.Stop.TheVariants.{Syntax}
use Rattle.ap_parse.specs.declared.openings.Opening.{Opening}
use Rattle.literal_parse.specs.Reads.{Reads, IsAny, IsName, IsNext, IsPlace, Lacks}
use Rattle.ap_parse.specs.Openings.{IsKind, IsOpening, IsPart, opening_form, opening_statement, part_form}
use Rattle.ap_parse.specs.Statements.{IsStatement}
use Rattle.literal_parse.proofs.Steps.{taken, follow, giving, from, fails_from, fails_tok, next_starts, next_takes, not_seq, seq_starts}
use Rattle.ap_parse.proofs.StatementLemmas.{expected, past}

alone : {v w : Value} → v ≡ w → v ∷ [] ≡ w ∷ []
alone e = ap (λ v. v ∷ []) e

-- ---- types

module _ {xs ms : List Lexeme} {name : List ℕ} (r : Reads (call Name.Ident) (IsName xs) xs ms (Ok name)) where
  pub name_kind : {ys : List Lexeme} → (ys ≡ ms) × Lacks t.Open ms → Reads (call Name.Kind) IsKind xs ys (Ok name)
  name_kind h =
      let q = taken r in
      rw h.0 (Reads.ok (alone (ap kind (sym q.makes.bytes))) (Takes.call (Takes.seq (giving q.makes.is q.takes) (Takes.right (not_seq (Tok t.Open) (call Name.Ident ⨾ Tok t.Close) ms refl h.1) Takes.empty))))

  module _ {ns : List Lexeme} {left : List ℕ} (o : (w : IsNext t.Open ms ns) × (left ≡ w.token.bytes)) where
    inner : {ys : List Lexeme} → Fails factored tables (call Name.Ident ⨾ Tok t.Close) ns ys → Fails factored tables (call Name.Kind) xs ys
    inner f = Fails.call (past r (Fails.left (seq_starts (Tok t.Open) (call Name.Ident ⨾ Tok t.Close) ms (next_starts o.0)) (Fails.second (next_takes o.0) f)))

    pub inner_kind_fails : {ys : List Lexeme} → Fails factored tables (call Name.Ident) ns ys → Fails factored tables (call Name.Kind) xs ys
    inner_kind_fails f = inner (Fails.first f)

    module _ {ps : List Lexeme} {second : List ℕ} (s : Reads (call Name.Ident) (IsName ns) ns ps (Ok second)) where
      pub kind_not_closed : {ys : List Lexeme} → (ys ≡ ps) × Lacks t.Close ps → Reads (call Name.Kind) IsKind xs ys (Err Syntax)
      kind_not_closed h = rw h.0 (Reads.syntax (inner (past s (fails_tok t.Close ps h.1))))

      pub kind_with_inner : {ys : List Lexeme} {right named named_second all : List ℕ} → (w : IsNext t.Close ps ys) × (right ≡ w.token.bytes) → named ≡ name → named_second ≡ second → all ≡ named ++ (left ++ (named_second ++ right)) → Reads (call Name.Kind) IsKind xs ys (Ok all)
      kind_with_inner w m n e =
          let q = taken r in
          let p = taken s in
          Reads.ok (alone (ap kind (sym (rw (m, n, q.makes.bytes, o.1, p.makes.bytes, w.1) at e))))
          (Takes.call (Takes.seq (giving q.makes.is q.takes) (Takes.left (seq_starts (Tok t.Open) (call Name.Ident ⨾ Tok t.Close) ms (next_starts o.0)) (Takes.seq (next_takes o.0) (Takes.seq (giving p.makes.is p.takes) (next_takes w.0))))))

-- ---- parts

pub base_dot_fails : {xs ms ys : List Lexeme} → IsNext t.Base xs ms → Fails factored tables (Tok t.Dot) ms ys → Fails factored tables part_form xs ys
base_dot_fails {xs = xs} w f = Fails.left (seq_starts (Tok t.Base) (Tok t.Dot ⨾ Empty) xs (next_starts w)) (Fails.second (next_takes w) (Fails.first f))

pub base_part : {U : Type 0} {u : U} {xs ms ys : List Lexeme} → IsNext t.Base xs ms → Reads (Tok t.Dot) IsAny ms ys (Ok u) → Reads part_form IsPart xs ys (Ok parts.Base)
base_part {xs = xs} w d =
    let n = expected d in
    Reads.ok (w.token, n.token, refl) (Takes.left (seq_starts (Tok t.Base) (Tok t.Dot ⨾ Empty) xs (next_starts w)) (Takes.seq (next_takes w) (Takes.seq (next_takes n) Takes.empty)))

pub type_part_fails : {xs ms ys : List Lexeme} → (ms ≡ xs) × Lacks t.Base xs → Fails factored tables (type_opening Empty) ms ys → Fails factored tables part_form xs ys
type_part_fails {xs = xs} h f = Fails.right (not_seq (Tok t.Base) (Tok t.Dot ⨾ Empty) xs refl h.1) (fails_from h.0 f)

pub type_part : {U V W X : Type 0} {u : U} {v : V} {w : W} {x : X} {xs ms ns ps qs ls ys : List Lexeme} {name : List ℕ} → (ms ≡ xs) × Lacks t.Base xs → Reads (Tok t.Preference) IsAny ms ns (Ok u) → Reads (Tok t.Open) IsAny ns ps (Ok v) → Reads (call Name.Kind) IsKind ps qs (Ok name) → Reads (Tok t.Close) IsAny qs ls (Ok w) → Reads (Tok t.Dot) IsAny ls ys (Ok x) → Reads part_form IsPart xs ys (Ok (parts.Kind name))
type_part {xs = xs} h p o k c d =
    let a = expected p in
    let b = expected o in
    let q = taken k in
    let m = expected c in
    let n = expected d in
    Reads.ok (a.token, b.token, m.token, n.token, refl) (Takes.right (not_seq (Tok t.Base) (Tok t.Dot ⨾ Empty) xs refl h.1) (from h.0 (Takes.seq (next_takes a) (Takes.seq (next_takes b) (Takes.seq (giving q.makes q.takes) (Takes.seq (next_takes m) (Takes.seq (next_takes n) Takes.empty)))))))

-- ---- `#program`

pub opening_read : {U : Type 0} {u : U} {xs ms ys : List Lexeme} {p : Place} {part : PartKind} → IsPlace xs p → Reads (Tok t.Program) IsAny xs ms (Ok u) → Reads part_form IsPart ms ys (Ok part) → Reads opening_form IsOpening xs ys (Ok (record { place = p; part = part }))
opening_read i e r =
    let n = expected e in
    let q = taken r in
    let j = rw n.is at i in
    Reads.ok (record { first = n.token; rest = q.values; values = refl; part = q.makes; file = j.0; at = j.1 }) (Takes.seq (next_takes n) q.takes)

part_made : (first : Lexeme) (p : PartKind) (vs : List Value) → IsPart p vs → opening (opened (token first ∷ vs)) ≡ statement (statements.Part first.file first.at p)
part_made first parts.Base vs i = rw i.2 refl
part_made first (parts.Kind name) vs i = rw i.4 refl

opening_made : {o : Opening} {vs : List Value} → IsOpening o vs → opening (opened vs) ≡ statement (opening_statement o)
opening_made {o = o} i = rw (i.values, i.file, i.at) (part_made i.first o.part i.rest i.part)

-- ---- single statements

module _ (of_type : Bool) where
  pub one_statement : {xs ys : List Lexeme} {r : Result Statement Stop} → Starts factored tables (call (Name.Statement false of_type)) xs → Reads (call (Name.Statement false of_type)) IsStatement xs ys r → Reads (call (Name.One of_type)) IsStatement xs ys r
  one_statement s r = follow r (λ x vs i d. (statement x ∷ [], refl, Takes.call (Takes.left s (giving i d)))) (λ f. Fails.call (Fails.left s f))

  pub one_opening_fails : {xs ys : List Lexeme} → NotStarts factored tables (call (Name.Statement false of_type)) xs → Fails factored tables opening_form xs ys → Fails factored tables (call (Name.One of_type)) xs ys
  one_opening_fails n f = Fails.call (Fails.right n (Fails.call f))

  pub one_opening : {xs ys : List Lexeme} {o : Opening} → NotStarts factored tables (call (Name.Statement false of_type)) xs → Reads opening_form IsOpening xs ys (Ok o) → Reads (call (Name.One of_type)) IsStatement xs ys (Ok (opening_statement o))
  one_opening n r = let q = taken r in Reads.ok refl (Takes.call (Takes.right n (giving (alone (opening_made q.makes)) (Takes.call {n = Part.Opening} q.takes))))
