-- What atoms, literals and conditions come to.
use Rattle.std.proofs.Common.{◌≡◌, ℕ, List, [], ◌∷◌, ◌++◌, Ok, Err, Result, refl, sym, ◌∙◌, ap}
use Rattle.std.specs.Result.{IsErrAnd}
use Rattle.grammar.specs.Form.{◌⨾◌, opt}
use Rattle.grammar.specs.Form.Form.{Tok}
use Rattle.grammar.specs.Takes.{Takes, Fails, Starts, NotStarts}
use Rattle.ap_syntax.specs.declared.terms.Atom.{Atom}
use Rattle.ap_syntax.specs.declared.terms.Literal.{Literal}
use Rattle.ap_syntax.specs.declared.terms.Literal.TheVariants as literals
use Rattle.ap_syntax.specs.declared.terms.Rel.{Rel}
use Rattle.ap_syntax.specs.declared.terms.Term.{Term}
use Rattle.ap_grammar.specs.declared.terminals.Terminal.TheVariants as t
use Rattle.ap_grammar.specs.Lexemes.{Lexeme}
use Rattle.ap_grammar.specs.Values.{Value, as_literal, class_of, collected}
use Rattle.ap_grammar.specs.Values.Value.{token, relation, atom, literal}
use Rattle.ap_grammar.specs.Grammar.{Name, made}
use Rattle.ap_grammar.specs.Factored.{Rhs, call, factored, comparison, literal_behind, literal_made}
use Rattle.ap_grammar.specs.Tables.{tables}
use Rattle.literal_parse.specs.declared.error.Stop.{Stop}
use Rattle.literal_parse.specs.declared.error.Stop.TheVariants.{Syntax}
use Rattle.literal_parse.specs.declared.operand.Operand.{Operand}
use Rattle.literal_parse.specs.declared.operand.Operand.TheVariants.{Bare, Other}
use Rattle.literal_parse.specs.Reads.{Reads, IsAny, IsName, IsNext, Lacks}
use Rattle.literal_parse.specs.Operands.{BareOr, IsOperand, tree_of, value_of}
use Rattle.literal_parse.specs.Terms.{IsArguments}
use Rattle.literal_parse.specs.Literals.{IsAtom, IsCondition, IsLiteral, IsLiterals, IsOptionalCondition, IsSign}
use Rattle.literal_parse.proofs.Steps.{taken, follow, giving, from, fails_from, next_starts, next_takes, not_seq, seq_starts, stopped_syntax}
use Rattle.literal_parse.proofs.Collects.{Collects, collects_more, collects_fail, collects_end}
use Rattle.literal_parse.proofs.Relations.{sign_takes, sign_starts, relation_fails}

alone : {v w : Value} → v ≡ w → v ∷ [] ≡ w ∷ []
alone e = ap (λ v. v ∷ []) e

-- ---- atoms

pub atom_terms_fail : {xs ys end : List Lexeme} {x : List ℕ} → Reads (call Name.Ident) (IsName xs) xs ys (Ok x) → Fails factored tables (opt (call Name.Arguments)) ys end → Fails factored tables (call Name.Atom) xs end
atom_terms_fail r f = let q = taken r in Fails.call (Fails.second q.takes f)

atom_made : (first : Lexeme) (x : List ℕ) (args : List Term) (vs : List Value) → x ≡ first.bytes → IsArguments args vs → made Name.Atom (token first ∷ vs) ≡ atom first (record { name = x; terms = args })
atom_made first x [] vs e i = rw (e, i) refl
atom_made first x (y ∷ ys) vs e i = rw (e, i) refl

pub atom_read : {xs ys end : List Lexeme} {x : List ℕ} {args : List Term} → Reads (call Name.Ident) (IsName xs) xs ys (Ok x) → Reads (opt (call Name.Arguments)) IsArguments ys end (Ok args) → Reads (call Name.Atom) (IsAtom xs) xs end (Ok (record { name = x; terms = args }))
atom_read {x = x} {args = args} r a =
    let q = taken r in
    let p = taken a in
    Reads.ok (record { first = q.makes.token; leads = q.makes.leads; makes = alone (atom_made q.makes.token x args p.values q.makes.bytes p.makes) })
    (Takes.call (Takes.seq (giving q.makes.is q.takes) p.takes))

-- ---- literals

abbrev Negated : Rhs
Negated = Tok t.Not ⨾ call Name.Atom

pub negated_fails : {xs ms ys : List Lexeme} → IsNext t.Not xs ms → Fails factored tables (call Name.Atom) ms ys → Fails factored tables (call Name.Literal) xs ys
negated_fails {xs = xs} n f = Fails.call (Fails.left (seq_starts (Tok t.Not) (call Name.Atom) xs (next_starts n)) (Fails.second (next_takes n) f))

pub negated_read : {xs ms ys : List Lexeme} {a : Atom} → IsNext t.Not xs ms → Reads (call Name.Atom) (IsAtom ms) ms ys (Ok a) → Reads (call Name.Literal) (IsLiteral xs) xs ys (Ok (literals.Not a))
negated_read {xs = xs} {ms = ms} n r =
    let q = taken r in
    Reads.ok (record { first = n.token; leads = record { rest = ms; is = n.is }; makes = refl })
    (Takes.call (Takes.left (seq_starts (Tok t.Not) (call Name.Atom) xs (next_starts n)) (Takes.seq (next_takes n) (giving q.makes.makes q.takes))))

not_negated : (xs : List Lexeme) → Lacks t.Not xs → NotStarts factored tables Negated xs
not_negated xs h = not_seq (Tok t.Not) (call Name.Atom) xs refl h

pub literal_first_fails : {xs ms ys : List Lexeme} → (ms ≡ xs) × Lacks t.Not xs → Fails factored tables (call Name.Term) ms ys → Fails factored tables (call Name.Literal) xs ys
literal_first_fails {xs = xs} h f = Fails.call (Fails.right (not_negated xs h.1) (Fails.start (fails_from h.0 f)))

pub bare_ok : (x : Operand) (a : Atom) → BareOr x (Ok a) → x ≡ Bare a
bare_ok (Bare b) a h = let e : a ≡ b = cc in ap Bare (sym e)
bare_ok (Other y) a h = absurd (cc)

pub bare_err : (x : Operand) (e : Stop) → BareOr x (Err e) → (y : Term) × (x ≡ Other y) × (e ≡ Syntax)
bare_err (Bare b) e h = absurd (cc)
bare_err (Other y) e h = (y, refl, cc)

module _ {xs ms ys : List Lexeme} {x : Operand} (h : (ms ≡ xs) × Lacks t.Not xs) (r : Reads (call Name.Term) (IsOperand ms) ms ys (Ok x)) where
  -- what was read is the first term
  goes : {zs : List Lexeme} {vs : List Value} → ((first : Lexeme) → Takes factored tables (literal_behind (class_of (value_of first x ∷ []))) ys zs vs) → (first : Lexeme) × (ms ≡ first ∷ (taken r).makes.leads.rest) × Takes factored tables (call Name.Literal) xs zs (literal_made (value_of first x ∷ vs) ∷ [])
  goes d = let q = taken r in (q.makes.first, q.makes.leads.is, Takes.call (Takes.right (not_negated xs h.1) (from h.0 (Takes.followed (giving q.makes.is q.takes) (d q.makes.first)))))

  fails : {zs : List Lexeme} → ((first : Lexeme) → Fails factored tables (literal_behind (class_of (value_of first x ∷ []))) ys zs) → Fails factored tables (call Name.Literal) xs zs
  fails d = let q = taken r in Fails.call (Fails.right (not_negated xs h.1) (fails_from h.0 (Fails.finish (giving q.makes.is q.takes) (d q.makes.first))))

  behind_takes : (x : Operand) {zs : List Lexeme} {vs : List Value} → Starts factored tables comparison ys → Takes factored tables comparison ys zs vs → (first : Lexeme) → Takes factored tables (literal_behind (class_of (value_of first x ∷ []))) ys zs vs
  behind_takes (Bare a) s d first = Takes.left s d
  behind_takes (Other y) s d first = d

  behind_fails : (x : Operand) {zs : List Lexeme} → Starts factored tables comparison ys → Fails factored tables comparison ys zs → (first : Lexeme) → Fails factored tables (literal_behind (class_of (value_of first x ∷ []))) ys zs
  behind_fails (Bare a) s d first = Fails.left s d
  behind_fails (Other y) s d first = d

  pub compared_fails : {zs end : List Lexeme} {rel : Rel} → IsSign ys zs rel → Fails factored tables (call Name.Term) zs end → Fails factored tables (call Name.Literal) xs end
  compared_fails n f = fails (behind_fails x (seq_starts (call Name.Relation) (call Name.Term) ys (sign_starts n)) (Fails.second (sign_takes n) f))

  compared_made : (first other : Lexeme) (x y : Operand) (rel : Rel) → literal_made (value_of first x ∷ relation rel ∷ value_of other y ∷ []) ≡ literal first (literals.Compare (tree_of x) rel (tree_of y))
  compared_made first other (Bare a) (Bare b) rel = refl
  compared_made first other (Bare a) (Other y) rel = refl
  compared_made first other (Other x) (Bare b) rel = refl
  compared_made first other (Other x) (Other y) rel = refl

  pub compared_read : {zs end : List Lexeme} {rel : Rel} {y : Operand} → IsSign ys zs rel → Reads (call Name.Term) (IsOperand zs) zs end (Ok y) → Reads (call Name.Literal) (IsLiteral xs) xs end (Ok (literals.Compare (tree_of x) rel (tree_of y)))
  compared_read {rel = rel} {y = y} n s =
      let p = taken s in
      let g = goes (behind_takes x (seq_starts (call Name.Relation) (call Name.Term) ys (sign_starts n)) (Takes.seq (sign_takes n) (giving p.makes.is p.takes))) in
      Reads.ok (record { first = g.0; leads = record { rest = _; is = sym h.0 ∙ g.1 }; makes = alone (compared_made g.0 p.makes.first x y rel) }) g.2

  pub bare_read : {zs : List Lexeme} {a : Atom} → (zs ≡ ys) × NotStarts factored tables (call Name.Relation) ys → BareOr x (Ok a) → Reads (call Name.Literal) (IsLiteral xs) xs zs (Ok (literals.Pos a))
  bare_read {zs = zs} {a = a} g b =
      let d = goes (λ first. at_bare first x (bare_ok x a b)) in
      Reads.ok (record { first = d.0; leads = record { rest = _; is = sym h.0 ∙ d.1 }; makes = alone (bare_made d.0 x (bare_ok x a b)) }) d.2
    where
      at_bare : (first : Lexeme) (x : Operand) → x ≡ Bare a → Takes factored tables (literal_behind (class_of (value_of first x ∷ []))) ys zs []
      at_bare first x e = rw (e, g.0) (Takes.right (not_seq (call Name.Relation) (call Name.Term) ys refl g.1) Takes.empty)

      bare_made : (first : Lexeme) (x : Operand) → x ≡ Bare a → literal_made (value_of first x ∷ []) ≡ literal first (literals.Pos a)
      bare_made first x e = rw e refl

  pub not_bare : {zs : List Lexeme} (e : Stop) {R : Result Literal Stop} → (zs ≡ ys) × NotStarts factored tables (call Name.Relation) ys → BareOr x (Err e) → IsErrAnd R (λ d. d ≡ e) → Reads (call Name.Literal) (IsLiteral xs) xs zs R
  not_bare {zs = zs} e g b i = let o = bare_err x e b in stopped_syntax o.2 i (fails (λ first. at_other first x o.0 o.1))
    where
      at_other : (first : Lexeme) (x : Operand) (y : Term) → x ≡ Other y → Fails factored tables (literal_behind (class_of (value_of first x ∷ []))) ys zs
      at_other first x y k = rw (k, g.0) (Fails.first (relation_fails ys g.1))

-- ---- lists of literals

abbrev pub LiteralItem : Rhs
LiteralItem = Tok t.Comma ⨾ call Name.Literal

pub literals_more : {start here mid end : List Lexeme} {before now : List Literal} {l : Literal} → Collects as_literal LiteralItem start here before now → IsNext t.Comma here mid → Reads (call Name.Literal) (IsLiteral mid) mid end (Ok l) → Collects as_literal LiteralItem start end before (now ++ l ∷ [])
literals_more {l = l} c n r = let q = taken r in collects_more l c (Takes.seq (next_takes n) (giving q.makes.makes q.takes)) refl

module _ {xs start here : List Lexeme} {pushed now : List Literal} {l : Literal} (first : Reads (call Name.Literal) (IsLiteral xs) xs start (Ok l)) (c : Collects as_literal LiteralItem start here pushed now) where
  pub literals_fail : {mid end : List Lexeme} → IsNext t.Comma here mid → Fails factored tables (call Name.Literal) mid end → Fails factored tables (call Name.Literals) xs end
  literals_fail n f = let q = taken first in Fails.call (Fails.second q.takes (collects_fail c (seq_starts (Tok t.Comma) (call Name.Literal) here (next_starts n)) (Fails.second (next_takes n) f)))

  pub literals_end : {new : List Literal} {end : List Lexeme} → new ≡ [] → pushed ≡ new ++ l ∷ [] → (end ≡ here) × Lacks t.Comma here → Reads (call Name.Literals) IsLiterals xs end (Ok now)
  literals_end e p h =
      let q = taken first in
      let w = collects_end c h.0 (not_seq (Tok t.Comma) (call Name.Literal) here refl h.1) in
      Reads.ok (alone (ap Value.literals (joined w.values e p w.grown))) (Takes.call (Takes.seq (giving q.makes.makes q.takes) w.takes))
    where
      joined : (vs : List Value) {new pushed now : List Literal} → new ≡ [] → pushed ≡ new ++ l ∷ [] → now ≡ pushed ++ collected as_literal vs → l ∷ collected as_literal vs ≡ now
      joined vs e p g = sym (rw (p, e) at g)

-- ---- conditions

pub condition_literals : {U : Type 0} {u : U} {xs ms ys : List Lexeme} {r : Result (List Literal) Stop} → Reads (Tok t.Colon) IsAny xs ms (Ok u) → Starts factored tables (call Name.Literals) ms → Reads (call Name.Literals) IsLiterals ms ys r → Reads (call Name.Condition) IsCondition xs ys r
condition_literals c s r =
    let q = taken c in
    follow r
    (λ ls vs i d. (Value.condition ls ∷ [], refl, Takes.call (Takes.seq (giving q.makes.1 q.takes) (Takes.left s (giving i d)))))
    (λ f. Fails.call (Fails.second q.takes (Fails.left s f)))

pub condition_empty : {U : Type 0} {u : U} {xs ms : List Lexeme} {new : List Literal} → Reads (Tok t.Colon) IsAny xs ms (Ok u) → NotStarts factored tables (call Name.Literals) ms → new ≡ [] → Reads (call Name.Condition) IsCondition xs ms (Ok new)
condition_empty c s e = let q = taken c in rw e (Reads.ok refl (Takes.call (Takes.seq (giving q.makes.1 q.takes) (Takes.right s Takes.empty))))

colon_starts : (xs : List Lexeme) → Starts factored tables (Tok t.Colon) xs → Starts factored tables (call Name.Condition) xs
colon_starts [] h = absurd h
colon_starts (x ∷ ts) h = rw h refl

colon_lacks : (xs : List Lexeme) → Lacks t.Colon xs → NotStarts factored tables (call Name.Condition) xs
colon_lacks [] h = tt
colon_lacks (x ∷ ts) h = rw h refl

pub condition_present : {xs ys : List Lexeme} {r : Result (List Literal) Stop} → Starts factored tables (Tok t.Colon) xs → Reads (call Name.Condition) IsCondition xs ys r → Reads (opt (call Name.Condition)) IsOptionalCondition xs ys r
condition_present {xs = xs} s r = follow r
    (λ ls vs i d. (Value.condition ls ∷ [], IsOptionalCondition.present, Takes.left (colon_starts xs s) (giving i d)))
    (λ f. Fails.left (colon_starts xs s) f)

pub condition_absent : {xs : List Lexeme} {new : List Literal} → Lacks t.Colon xs → new ≡ [] → Reads (opt (call Name.Condition)) IsOptionalCondition xs xs (Ok new)
condition_absent {xs = xs} h e = rw e (Reads.ok IsOptionalCondition.absent (Takes.right (colon_lacks xs h) Takes.empty))
