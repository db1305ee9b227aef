-- What preference statements, `#optimize` and statements of all kinds come to.
use Rattle.std.proofs.Common.{◌≡◌, ℕ, List, [], ◌∷◌, ◌++◌, Bool, true, false, Ok, Result, refl, ◌∙◌, append-nil}
use Rattle.grammar.specs.Form.Form.{Tok}
use Rattle.grammar.specs.Takes.{Takes, Fails, Starts, NotStarts}
use Rattle.ap_syntax.specs.declared.preferences.Element.{Element}
use Rattle.ap_syntax.specs.declared.preferences.Preference.{Preference}
use Rattle.ap_syntax.specs.declared.programs.Statement.{Statement}
use Rattle.ap_syntax.specs.declared.programs.Statement.TheVariants as statements
use Rattle.ap_grammar.specs.declared.terminals.Terminal.{Terminal}
use Rattle.ap_grammar.specs.declared.terminals.Terminal.TheVariants as t
use Rattle.ap_grammar.specs.Lexemes.{Lexeme}
use Rattle.ap_grammar.specs.Values.{Value, as_element, collected}
use Rattle.ap_grammar.specs.Values.Value.{token, statement}
use Rattle.ap_grammar.specs.Grammar.{Name}
use Rattle.ap_grammar.specs.Factored.{Part, call, factored}
use Rattle.ap_grammar.specs.Tables.{tables}
use Rattle.ap_grammar.proofs.Predictive.{same_is}
use Rattle.literal_parse.specs.declared.cursor.Place.{Place}
use Rattle.literal_parse.specs.declared.error.Stop.{Stop}
use Rattle.literal_parse.specs.Reads.{Reads, IsAny, IsName, IsNext, IsPlace, Lacks}
use Rattle.ap_parse.specs.Openings.{IsKind}
use Rattle.ap_parse.specs.Statements.{IsStatement}
use Rattle.literal_parse.proofs.Steps.{taken, follow, giving, fails_tok, next_takes, not_same}
use Rattle.ap_parse.proofs.StatementLemmas.{expected}
use Rattle.literal_parse.proofs.Collects.{collected-append}
use Rattle.pref_parse.specs.Elements.{IsElements, in_braces}
use Rattle.pref_parse.specs.Statements.{IsPreference}
use Rattle.pref_parse.proofs.Choices.{chosen, choice_fails}

-- but for two tokens, statements of all kinds begin as the others do
pub statement_start : (of_type : Bool) (k : Terminal) → (k ≡ t.Statement → ⊥) → (k ≡ t.Optimize → ⊥) → tables.first (Part.Of (Name.Statement true of_type)) k ≡ tables.first (Part.Of (Name.Statement false of_type)) k
statement_start true k h i = rw (not_same k t.Statement h, not_same k t.Optimize i) refl
statement_start false k h i = rw (not_same k t.Statement h, not_same k t.Optimize i) refl

pub preference_start : (of_type : Bool) → tables.first (Part.Of (Name.Statement true of_type)) t.Statement ≡ true
preference_start true = refl
preference_start false = refl

pub optimize_start : (of_type : Bool) → tables.first (Part.Of (Name.Statement true of_type)) t.Optimize ≡ true
optimize_start true = refl
optimize_start false = refl

-- ---- preference statements

placed : {k : Terminal} {xs ys : List Lexeme} {p : Place} (n : IsNext k xs ys) → IsPlace xs p → (p.file ≡ n.token.file) × (p.at ≡ n.token.at)
placed n i = rw n.is at i

preference_is : {p : Place} {file at : ℕ} {name spelled kind : List ℕ} {elements found : List Element} → p.file ≡ file → p.at ≡ at → name ≡ spelled → found ≡ elements → statement (statements.Preference (record { file = file; at = at; name = spelled; kind = kind; elements = found })) ∷ [] ≡ statement (statements.Preference (record { file = p.file; at = p.at; name = name; kind = kind; elements = elements })) ∷ []
preference_is e f g h = rw (e, f, g, h) refl

pub preference_read : {A B C D E : Type 0} {a : A} {b : B} {c : C} {d : D} {e : E} {xs ys zs us ws vs ms ns end : List Lexeme} {name kind : List ℕ} {elements : List Element} (p : Place) → IsPlace xs p → Reads (Tok t.Statement) IsAny xs ys (Ok a) → Reads (Tok t.Open) IsAny ys zs (Ok b) → Reads (call Name.Ident) (IsName zs) zs us (Ok name) → Reads (Tok t.Comma) IsAny us ws (Ok c) → Reads (call Name.Kind) IsKind ws vs (Ok kind) → Reads (Tok t.Close) IsAny vs ms (Ok d) → Reads in_braces IsElements ms ns (Ok elements) → Reads (Tok t.Dot) IsAny ns end (Ok e) → Reads (call Name.Preference) IsPreference xs end (Ok (record { file = p.file; at = p.at; name = name; kind = kind; elements = elements }))
preference_read p i first paren name comma kind close elements dot =
    let f = expected first in
    let o = expected paren in
    let n = taken name in
    let c = expected comma in
    let k = taken kind in
    let l = expected close in
    let m = taken elements in
    let d = expected dot in
    let q = placed f i in
    Reads.ok (preference_is {p = p} q.0 q.1 n.makes.bytes (collected_dot m.values d.token ∙ m.makes))
    (Takes.call (Takes.seq (next_takes f) (Takes.seq (next_takes o) (Takes.seq (giving n.makes.is n.takes) (Takes.seq (next_takes c) (Takes.seq (giving k.makes k.takes) (Takes.seq (next_takes l) (Takes.seq m.takes (next_takes d)))))))))
  where
    collected_dot : (vs : List Value) (dot : Lexeme) → collected as_element (vs ++ token dot ∷ []) ≡ collected as_element vs
    collected_dot vs dot = collected-append as_element vs (token dot ∷ []) ∙ append-nil (collected as_element vs)

-- ---- `#optimize`

optimize_is : {p : Place} {file at : ℕ} {name spelled : List ℕ} → p.file ≡ file → p.at ≡ at → name ≡ spelled → statement (statements.Optimize file at spelled) ∷ [] ≡ statement (statements.Optimize p.file p.at name) ∷ []
optimize_is e f g = rw (e, f, g) refl

pub optimize_read : {A B C D : Type 0} {a : A} {b : B} {c : C} {d : D} {xs ys zs us ws end : List Lexeme} {name : List ℕ} (p : Place) → IsPlace xs p → Reads (Tok t.Optimize) IsAny xs ys (Ok a) → Reads (Tok t.Open) IsAny ys zs (Ok b) → Reads (call Name.Ident) (IsName zs) zs us (Ok name) → Reads (Tok t.Close) IsAny us ws (Ok c) → Reads (Tok t.Dot) IsAny ws end (Ok d) → Reads (call Name.Optimize) IsStatement xs end (Ok (statements.Optimize p.file p.at name))
optimize_read p i first paren name close dot =
    let f = expected first in
    let o = expected paren in
    let n = taken name in
    let l = expected close in
    let d = expected dot in
    let q = placed f i in
    Reads.ok (optimize_is {p = p} q.0 q.1 n.makes.bytes)
    (Takes.call (Takes.seq (next_takes f) (Takes.seq (next_takes o) (Takes.seq (giving n.makes.is n.takes) (Takes.seq (next_takes l) (next_takes d))))))

-- ---- statements of all kinds

at_statement : (xs : List Lexeme) → Starts factored tables (Tok t.Statement) xs → Starts factored tables (call Name.Preference) xs
at_statement [] h = absurd h
at_statement (x ∷ ts) h = rw h refl

no_statement : (xs : List Lexeme) → Lacks t.Statement xs → NotStarts factored tables (call Name.Preference) xs
no_statement [] h = tt
no_statement (x ∷ ts) h = rw h refl

module _ (of_type : Bool) where
  other_lacks : (k : Terminal) → tables.first (Part.Of (Name.Statement false of_type)) k ≡ false → (xs : List Lexeme) → Starts factored tables (Tok k) xs → NotStarts factored tables (call (Name.Statement false of_type)) xs
  other_lacks k e [] h = absurd h
  other_lacks k e (x ∷ ts) h = rw (← same_is k x.terminal h) e

  at_preference : (of_type : Bool) → tables.first (Part.Of (Name.Statement false of_type)) t.Statement ≡ false
  at_preference true = refl
  at_preference false = refl

  at_optimize : (of_type : Bool) → tables.first (Part.Of (Name.Statement false of_type)) t.Optimize ≡ false
  at_optimize true = refl
  at_optimize false = refl

  pub any_preference_fails : {xs ys : List Lexeme} → Starts factored tables (Tok t.Statement) xs → Fails factored tables (call Name.Preference) xs ys → Fails factored tables (call (Name.Statement true of_type)) xs ys
  any_preference_fails {xs = xs} s f = Fails.call (Fails.right (other_lacks t.Statement (at_preference of_type) xs s) (Fails.left (at_statement xs s) f))

  pub any_preference : {xs ys : List Lexeme} {p : Preference} → Starts factored tables (Tok t.Statement) xs → Reads (call Name.Preference) IsPreference xs ys (Ok p) → Reads (call (Name.Statement true of_type)) IsStatement xs ys (Ok (statements.Preference p))
  any_preference {xs = xs} s r = let q = taken r in Reads.ok refl (Takes.call (Takes.right (other_lacks t.Statement (at_preference of_type) xs s) (Takes.left (at_statement xs s) (giving q.makes q.takes))))

  pub any_optimize : {xs ys : List Lexeme} {r : Result Statement Stop} → Lacks t.Statement xs → Starts factored tables (Tok t.Optimize) xs → Reads (call Name.Optimize) IsStatement xs ys r → Reads (call (Name.Statement true of_type)) IsStatement xs ys r
  any_optimize {xs = xs} h s r = follow r
      (λ x vs i d. (statement x ∷ [], refl, Takes.call (Takes.right (other_lacks t.Optimize (at_optimize of_type) xs s) (Takes.right (no_statement xs h) (giving i d)))))
      (λ f. Fails.call (Fails.right (other_lacks t.Optimize (at_optimize of_type) xs s) (Fails.right (no_statement xs h) f)))

  pub any_other : {xs ys : List Lexeme} {r : Result Statement Stop} → Lacks t.Statement xs → Lacks t.Optimize xs → Reads (call (Name.Statement false of_type)) IsStatement xs ys r → Reads (call (Name.Statement true of_type)) IsStatement xs ys r
  any_other {xs = xs} h i r = follow r
      (λ x vs j d. (statement x ∷ [], refl, Takes.call (chosen _ refl (giving j d))))
      (λ f. Fails.call (choice_fails (call (Name.Statement false of_type)) _ xs f (λ n. Fails.right (no_statement xs h) (Fails.call (Fails.first (fails_tok t.Optimize xs i))))))
