-- What rules come to.
use Rattle.std.proofs.Common.{◌≡◌, true, false, List, [], ◌∷◌, ◌++◌, Ok, Err, Result, refl, ap}
use Rattle.grammar.specs.Form.{◌⨾◌}
use Rattle.grammar.specs.Form.Form.{Tok}
use Rattle.grammar.specs.Takes.{Takes, Fails, Starts, NotStarts}
use Rattle.ap_syntax.specs.declared.programs.Statement.TheVariants as statements
use Rattle.ap_syntax.specs.declared.rules.BodyItem.{BodyItem}
use Rattle.ap_syntax.specs.declared.rules.HeadForm.{HeadForm}
use Rattle.ap_syntax.specs.declared.rules.HeadForm.TheVariants as heads
use Rattle.ap_syntax.specs.declared.rules.Rule.{Rule}
use Rattle.ap_syntax.specs.declared.terms.Atom.{Atom}
use Rattle.ap_grammar.specs.declared.terminals.Terminal.TheVariants as t
use Rattle.ap_grammar.specs.Lexemes.{Lexeme}
use Rattle.ap_grammar.specs.Values.{Value}
use Rattle.ap_grammar.specs.Values.Value.{token, body, statement}
use Rattle.ap_grammar.specs.Grammar.{Name, rule}
use Rattle.ap_grammar.specs.Factored.{call, factored}
use Rattle.ap_grammar.specs.Tables.{tables}
use Rattle.literal_parse.specs.declared.cursor.Place.{Place}
use Rattle.literal_parse.specs.declared.error.Stop.{Stop}
use Rattle.literal_parse.specs.declared.error.Stop.TheVariants.{Syntax}
use Rattle.literal_parse.specs.Reads.{Reads, IsAny, IsNext, IsPlace, Lacks, Leads}
use Rattle.literal_parse.specs.Literals.{IsAtom}
use Rattle.ap_parse.specs.Bodies.{IsBody}
use Rattle.ap_parse.specs.Heads.{IsHead}
use Rattle.ap_parse.specs.Rules.{IsConstraint, IsOptionalBody, IsRule, IsRuleOf, optional_body}
use Rattle.literal_parse.proofs.Steps.{taken, follow, fails_tok, giving, next_starts, next_takes, not_seq, seq_starts}

-- ---- bodies behind `:-`

pub body_present : {xs ms ys : List Lexeme} {r : Result (List BodyItem) Stop} → IsNext t.If xs ms → Reads (call Name.Body) IsBody ms ys r → Reads optional_body IsOptionalBody xs ys r
body_present {xs = xs} n r =
    let s = seq_starts (Tok t.If) (call Name.Body) xs (next_starts n) in
    follow r
    (λ items vs i d. (token n.token ∷ body items ∷ [], IsOptionalBody.present n.token, Takes.left s (Takes.seq (next_takes n) (giving i d))))
    (λ f. Fails.left s (Fails.second (next_takes n) f))

pub body_absent : {xs ms : List Lexeme} {new : List BodyItem} → (ms ≡ xs) × Lacks t.If xs → new ≡ [] → Reads optional_body IsOptionalBody xs ms (Ok new)
body_absent {xs = xs} h e = rw (e, h.0) (Reads.ok IsOptionalBody.absent (Takes.right (not_seq (Tok t.If) (call Name.Body) xs refl h.1) Takes.empty))

-- ---- behind a head

module _ {xs ys : List Lexeme} {items : List BodyItem} (r : Reads optional_body IsOptionalBody xs ys (Ok items)) where
  pub dot_fails : {end : List Lexeme} → Fails factored tables (Tok t.Dot) ys end → Fails factored tables (optional_body ⨾ Tok t.Dot) xs end
  dot_fails f = let q = taken r in Fails.second q.takes f

  its_rule : (place : Place) (h : HeadForm) (items : List BodyItem) (vs : List Value) (dot : Lexeme) → IsOptionalBody items vs → IsRuleOf place h (record { file = place.file; at = place.at; head = h; body = items }) (vs ++ token dot ∷ [])
  its_rule place h items vs dot IsOptionalBody.absent = refl
  its_rule place h items vs dot (IsOptionalBody.present sign) = refl

  pub rest_read : {U : Type 0} {u : U} {end : List Lexeme} (place : Place) (h : HeadForm) → Reads (Tok t.Dot) IsAny ys end (Ok u) → Reads (optional_body ⨾ Tok t.Dot) (IsRuleOf place h) xs end (Ok (record { file = place.file; at = place.at; head = h; body = items }))
  rest_read place h s =
      let q = taken r in
      let p = taken s in
      Reads.ok (its_rule place h items q.values p.makes.0 q.makes) (Takes.seq q.takes (giving p.makes.1 p.takes))

-- ---- rules

-- the place of the first token
place_of : {xs : List Lexeme} {first : Lexeme} {p : Place} → Leads xs first → IsPlace xs p → (p.file ≡ first.file) × (p.at ≡ first.at)
place_of l i = rw l.is at i

rule_made : (first : Lexeme) (p : Place) (h : HeadForm) (r : Rule) (vs : List Value) → (p.file ≡ first.file) × (p.at ≡ first.at) → IsRuleOf p h r vs → rule first h vs ≡ statement (statements.Rule r)
rule_made first p h r vs e i = rw (i, e.0, e.1) refl

pub if_lacking : {xs ms : List Lexeme} → (ms ≡ xs) × Lacks t.If xs → Reads (Tok t.If ⨾ call Name.Body ⨾ Tok t.Dot) IsConstraint xs ms (Err Syntax)
if_lacking {xs = xs} h = rw h.0 (Reads.syntax (Fails.first (fails_tok t.If xs h.1)))

pub constraint_dot_fails : {xs ms ys end : List Lexeme} {items : List BodyItem} → IsNext t.If xs ms → Reads (call Name.Body) IsBody ms ys (Ok items) → Fails factored tables (Tok t.Dot) ys end → Fails factored tables (Tok t.If ⨾ call Name.Body ⨾ Tok t.Dot) xs end
constraint_dot_fails n r f = let q = taken r in Fails.second (next_takes n) (Fails.second q.takes f)

pub constraint_read : {U : Type 0} {u : U} {xs ms ys end : List Lexeme} {items : List BodyItem} (p : Place) → IsPlace xs p → IsNext t.If xs ms → Reads (call Name.Body) IsBody ms ys (Ok items) → Reads (Tok t.Dot) IsAny ys end (Ok u) → Reads (Tok t.If ⨾ call Name.Body ⨾ Tok t.Dot) IsConstraint xs end (Ok (record { file = p.file; at = p.at; head = heads.Nothing; body = items }))
constraint_read {ms = ms} {items = items} p i n r s =
    let q = taken r in
    let d = taken s in
    let e = place_of (record { rest = ms; is = n.is }) i in
    Reads.ok (rule_made n.token p heads.Nothing _ (body items ∷ token d.makes.0 ∷ []) e refl) (Takes.seq (next_takes n) (Takes.seq (giving q.makes q.takes) (giving d.makes.1 d.takes)))

pub constraint_rule : {xs end : List Lexeme} {r : Result Rule Stop} → NotStarts factored tables (call Name.Head) xs → Reads (Tok t.If ⨾ call Name.Body ⨾ Tok t.Dot) IsConstraint xs end r → Reads (call (Name.Rule false)) IsRule xs end r
constraint_rule {xs = xs} n r =
    let m = not_seq (call Name.Head) (optional_body ⨾ Tok t.Dot) xs refl n in
    follow r
    (λ x vs i d. (statement (statements.Rule x) ∷ [], refl, giving (ap (λ v. v ∷ []) i) (Takes.call (Takes.right m d))))
    (λ f. Fails.call (Fails.right m f))

pub head_fails : {xs end : List Lexeme} → Starts factored tables (call Name.Head) xs → Fails factored tables (call Name.Head) xs end → Fails factored tables (call (Name.Rule false)) xs end
head_fails {xs = xs} s f = Fails.call (Fails.left (seq_starts (call Name.Head) (optional_body ⨾ Tok t.Dot) xs s) (Fails.first f))

pub headed_rule : {xs ys end : List Lexeme} {h : HeadForm} {r : Result Rule Stop} (p : Place) → IsPlace xs p → Starts factored tables (call Name.Head) xs → Reads (call Name.Head) (IsHead xs) xs ys (Ok h) → Reads (optional_body ⨾ Tok t.Dot) (IsRuleOf p h) ys end r → Reads (call (Name.Rule false)) IsRule xs end r
headed_rule {xs = xs} {h = h} p i s b r =
    let q = taken b in
    let t = seq_starts (call Name.Head) (optional_body ⨾ Tok t.Dot) xs s in
    follow r
    (λ x vs j d. (statement (statements.Rule x) ∷ [], refl, giving (ap (λ v. v ∷ []) (rule_made q.makes.first p h x vs (place_of q.makes.leads i) j)) (Takes.call (Takes.left t (Takes.seq (giving q.makes.makes q.takes) d)))))
    (λ f. Fails.call (Fails.left t (Fails.second q.takes f)))

pub atom_rule : {xs ys end : List Lexeme} {a : Atom} {r : Result Rule Stop} (p : Place) → IsPlace xs p → Reads (call Name.Atom) (IsAtom xs) xs ys (Ok a) → Reads (optional_body ⨾ Tok t.Dot) (IsRuleOf p (heads.One a)) ys end r → Reads (call (Name.Rule true)) IsRule xs end r
atom_rule {a = a} p i b r =
    let q = taken b in
    follow r
    (λ x vs j d. (statement (statements.Rule x) ∷ [], refl, giving (ap (λ v. v ∷ []) (rule_made q.makes.first p (heads.One a) x vs (place_of q.makes.leads i) j)) (Takes.call (Takes.seq (giving q.makes.makes q.takes) d))))
    (λ f. Fails.call (Fails.second q.takes f))
