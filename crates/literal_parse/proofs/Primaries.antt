-- What primary terms, tuples and arguments come to.
use Rattle.std.proofs.Common.{◌≡◌, ℕ, List, [], ◌∷◌, ◌++◌, Some, None, Ok, Result, refl, sym, ◌∙◌, ap, append-nil, append_assoc}
use Rattle.std.proofs.Common.{◌<◌, ◌^◌}
use Rattle.std.proofs.lemmas.Int.{to_z-of_z}
use Rattle.std.specs.Prelude.{pos, ℤ, Option}
use lib.Signed.{mag}
use mir.Syntax.{w64}
use mir.Val.{of_z, to_z}
use Rattle.grammar.specs.Form.{◌⨾◌, ◌∣◌, opt}
use Rattle.grammar.specs.Form.Form.{Tok}
use Rattle.grammar.specs.Takes.{Takes, Fails, Starts, NotStarts}
use Rattle.ap_syntax.specs.declared.terms.Term.{Term}
use Rattle.ap_syntax.specs.declared.terms.Term.TheVariants as terms
use Rattle.ap_grammar.specs.declared.terminals.Terminal.{Terminal}
use Rattle.ap_grammar.specs.declared.terminals.Terminal.TheVariants as t
use Rattle.ap_grammar.specs.Lexemes.{Lexeme, decimal, string_of}
use Rattle.ap_grammar.specs.Values.{Value, as_term, collected}
use Rattle.ap_grammar.specs.Values.Value.{token, term}
use Rattle.ap_grammar.specs.Grammar.{Name, made, group, primary}
use Rattle.ap_grammar.specs.Factored.{Part, Rhs, call, many, factored, part_rule, behind_comma, behind_open, behind_term}
use Rattle.ap_grammar.specs.Tables.{tables}
use Rattle.literal_parse.specs.declared.error.Stop.{Stop}
use Rattle.literal_parse.specs.declared.operand.Operand.{Operand}
use Rattle.literal_parse.specs.declared.operand.Operand.TheVariants.{Bare, Other}
use Rattle.literal_parse.specs.Reads.{Reads, IsAny, IsName, IsNameKind, IsNext, Lacks}
use Rattle.literal_parse.specs.Operands.{IsOperand, tree_of, value_of}
use Rattle.literal_parse.specs.Terms.{IsArguments, IsGroup, IsNotSimple, IsTerms, IsTuple, Simple}
use Rattle.literal_parse.proofs.Steps.{Taken, taken, follow, giving, from, fails_from, next_starts, next_takes, not_seq, seq_starts}
use Rattle.literal_parse.proofs.Collects.{Collects, collected-append, collects_more, collects_fail, collects_end}

alone : {v w : Value} → v ≡ w → v ∷ [] ≡ w ∷ []
alone e = ap (λ v. v ∷ []) e

-- ---- numbers, strings, variables and `_`

-- a primary term that is one token
one_token : {xs ys : List Lexeme} {k : Terminal} {x : Term} (n : IsNext k xs ys) → primary n.token.terminal n.token [] ≡ term n.token None x → Takes factored tables (part_rule (Part.Of Name.Primary)) xs ys (token n.token ∷ []) → Reads (call Name.Primary) (IsOperand xs) xs ys (Ok (Other x))
one_token {ys = ys} n e d = Reads.ok (record { first = n.token; leads = record { rest = ys; is = n.is }; is = alone e }) (Takes.call d)

-- a number that fits is kept where it is cast
number_kept : (z : ℤ) (n : ℕ) → z ≡ pos n → mag z < 2 ^ 63 → to_z w64 (of_z w64 z) ≡ pos n
number_kept z n e h = to_z-of_z w64 z (record { sfits = h }) ∙ e

pub simple_number : {xs ys : List Lexeme} {n : ℕ} (z : ℤ) → z ≡ pos n → mag z < 2 ^ 63 → (w : IsNext t.Number xs ys) × (n ≡ decimal w.token.bytes) → Reads (call Name.Primary) (IsOperand xs) xs ys (Ok (Other (terms.Int (to_z w64 (of_z w64 z)))))
simple_number {n = n} z e h w = rw (number_kept z n e h, w.1) (one_token w.0 (rw w.0.kind refl) (Takes.left (next_starts w.0) (next_takes w.0)))

pub simple_string : {xs ms ys : List Lexeme} {s : List ℕ} → (ms ≡ xs) × Lacks t.Number xs → (w : IsNext t.String ms ys) → s ≡ string_of w.token.bytes → Reads (call Name.Primary) (IsOperand xs) xs ys (Ok (Other (terms.Str s)))
simple_string h w i = rw h.0 at (string_at (rw h.0 h.1) w i)
  where
    string_at : {ms ys : List Lexeme} {s : List ℕ} → Lacks t.Number ms → (w : IsNext t.String ms ys) → s ≡ string_of w.token.bytes → Reads (call Name.Primary) (IsOperand ms) ms ys (Ok (Other (terms.Str s)))
    string_at h w i = rw i (one_token w (rw w.kind refl) (Takes.right h (Takes.left (next_starts w) (next_takes w))))

pub simple_variable : {xs ms ns ys : List Lexeme} {s : List ℕ} → (ms ≡ xs) × Lacks t.Number xs → (ns ≡ ms) × Lacks t.String ms → (w : IsNext t.Variable ns ys) → s ≡ w.token.bytes → Reads (call Name.Primary) (IsOperand xs) xs ys (Ok (Other (terms.Var s)))
simple_variable h i w j = rw (i.0 ∙ h.0) at (variable_at (rw (i.0 ∙ h.0) h.1) (rw i.0 i.1) w j)
  where
    variable_at : {ms ys : List Lexeme} {s : List ℕ} → Lacks t.Number ms → Lacks t.String ms → (w : IsNext t.Variable ms ys) → s ≡ w.token.bytes → Reads (call Name.Primary) (IsOperand ms) ms ys (Ok (Other (terms.Var s)))
    variable_at h i w j = rw j (one_token w (rw w.kind refl) (Takes.right h (Takes.right i (Takes.left (next_starts w) (next_takes w)))))

pub simple_any : {xs ms ns ls ys : List Lexeme} → (ms ≡ xs) × Lacks t.Number xs → (ns ≡ ms) × Lacks t.String ms → (ls ≡ ns) × Lacks t.Variable ns → IsNext t.Any ls ys → Reads (call Name.Primary) (IsOperand xs) xs ys (Ok (Other terms.Any))
simple_any h i j w = rw (j.0 ∙ i.0 ∙ h.0) at (any_at (rw (j.0 ∙ i.0 ∙ h.0) h.1) (rw (j.0 ∙ i.0) i.1) (rw j.0 j.1) w)
  where
    any_at : {ms ys : List Lexeme} → Lacks t.Number ms → Lacks t.String ms → Lacks t.Variable ms → IsNext t.Any ms ys → Reads (call Name.Primary) (IsOperand ms) ms ys (Ok (Other terms.Any))
    any_at h i j w = one_token w (rw w.kind refl) (Takes.right h (Takes.right i (Takes.right j (Takes.left (next_starts w) (next_takes w)))))

-- ---- other primary terms

abbrev Bracketed : Rhs
Bracketed = Tok t.Open ⨾ behind_open

abbrev Plain : Rhs
Plain = call Name.Ident ⨾ opt (call Name.Arguments)

not_simple_takes : {xs ys : List Lexeme} {vs : List Value} → IsNotSimple xs → Takes factored tables (Bracketed ∣ Plain) xs ys vs → Takes factored tables (call Name.Primary) xs ys (made Name.Primary vs ∷ [])
not_simple_takes h d = Takes.call (Takes.right h.number (Takes.right h.string (Takes.right h.variable (Takes.right h.any d))))

not_simple_fails : {xs ys : List Lexeme} → IsNotSimple xs → Fails factored tables (Bracketed ∣ Plain) xs ys → Fails factored tables (call Name.Primary) xs ys
not_simple_fails h f = Fails.call (Fails.right h.number (Fails.right h.string (Fails.right h.variable (Fails.right h.any f))))

-- a number, a string, a variable or `_` was read
pub simple_read : {xs ys : List Lexeme} (o : Option Term) {x : Term} → o ≡ Some x → Simple xs ys (Ok o) → Reads (call Name.Primary) (IsOperand xs) xs ys (Ok (Other x))
simple_read {xs = xs} {ys = ys} o e s = let p : Simple xs ys (Ok (Some _)) = rw e at s in p

pub simple_none : {xs ys : List Lexeme} (o : Option Term) → o ≡ None → Simple xs ys (Ok o) → (ys ≡ xs) × IsNotSimple xs
simple_none {xs = xs} {ys = ys} o e s = let p : Simple xs ys (Ok None) = rw e at s in p

pub group_fails : {xs ms ys end : List Lexeme} → (ms ≡ xs) × IsNotSimple xs → IsNext t.Open ms ys → Fails factored tables behind_open ys end → Fails factored tables (call Name.Primary) xs end
group_fails {ms = ms} h n f = not_simple_fails h.1 (fails_from h.0 (Fails.left (seq_starts (Tok t.Open) behind_open ms (next_starts n)) (Fails.second (next_takes n) f)))

pub group_read : {xs ms ys end : List Lexeme} {x : Term} → (ms ≡ xs) × IsNotSimple xs → IsNext t.Open ms ys → Reads behind_open IsGroup ys end (Ok x) → Reads (call Name.Primary) (IsOperand xs) xs end (Ok (Other x))
group_read {ms = ms} {ys = ys} {x = x} h n r =
    let q = taken r in
    Reads.ok (record { first = n.token; leads = record { rest = ys; is = sym h.0 ∙ n.is }; is = alone (grouped n.token.terminal n.token q.values n.kind ∙ q.makes n.token) })
    (not_simple_takes h.1 (from h.0 (Takes.left (seq_starts (Tok t.Open) behind_open ms (next_starts n)) (Takes.seq (next_takes n) q.takes))))
  where
    grouped : (k : Terminal) (first : Lexeme) (vs : List Value) → k ≡ t.Open → primary k first vs ≡ group first vs
    grouped k first vs e = rw e refl

pub named_fails : {xs ms ys end : List Lexeme} → (ms ≡ xs) × IsNotSimple xs → (ys ≡ ms) × Lacks t.Open ms → Fails factored tables (call Name.Ident) ys end → Fails factored tables (call Name.Primary) xs end
named_fails {ms = ms} h g f = not_simple_fails h.1 (fails_from h.0 (Fails.right (not_seq (Tok t.Open) behind_open ms refl g.1) (Fails.first (fails_from g.0 f))))

pub arguments_fail : {xs ms ys zs end : List Lexeme} {x : List ℕ} → (ms ≡ xs) × IsNotSimple xs → (ys ≡ ms) × Lacks t.Open ms → Reads (call Name.Ident) (IsName ys) ys zs (Ok x) → Fails factored tables (opt (call Name.Arguments)) zs end → Fails factored tables (call Name.Primary) xs end
arguments_fail {ms = ms} h g r f = let q = taken r in not_simple_fails h.1 (fails_from h.0 (Fails.right (not_seq (Tok t.Open) behind_open ms refl g.1) (Fails.second (from g.0 q.takes) f)))

-- a name with its arguments
named_made : (k : Terminal) (first : Lexeme) (x : List ℕ) (ys : List Term) (vs : List Value) → IsNameKind k → x ≡ first.bytes → IsArguments ys vs → primary k first vs ≡ value_of first (Bare (record { name = x; terms = ys }))
named_made k first x [] vs IsNameKind.word e i = rw (e, i) refl
named_made k first x [] vs IsNameKind.base e i = rw (e, i) refl
named_made k first x [] vs IsNameKind.preference e i = rw (e, i) refl
named_made k first x (y ∷ ys) vs IsNameKind.word e i = rw (e, i) refl
named_made k first x (y ∷ ys) vs IsNameKind.base e i = rw (e, i) refl
named_made k first x (y ∷ ys) vs IsNameKind.preference e i = rw (e, i) refl

pub named_read : {xs ms ys zs end : List Lexeme} {x : List ℕ} {args : List Term} → (ms ≡ xs) × IsNotSimple xs → (ys ≡ ms) × Lacks t.Open ms → Reads (call Name.Ident) (IsName ys) ys zs (Ok x) → Reads (opt (call Name.Arguments)) IsArguments zs end (Ok args) → Reads (call Name.Primary) (IsOperand xs) xs end (Ok (Bare (record { name = x; terms = args })))
named_read {ms = ms} {x = x} {args = args} h g r a =
    let q = taken r in
    let p = taken a in
    Reads.ok (record { first = q.makes.token; leads = record { rest = q.makes.leads.rest; is = sym h.0 ∙ sym g.0 ∙ q.makes.leads.is }; is = alone (named_made q.makes.token.terminal q.makes.token x args p.values q.makes.kind q.makes.bytes p.makes) })
    (not_simple_takes h.1 (from h.0 (Takes.right (not_seq (Tok t.Open) behind_open ms refl g.1) (Takes.seq (from g.0 (giving q.makes.is q.takes)) p.takes))))

-- ---- behind a parenthesis

pub unit_read : {xs ys : List Lexeme} {args : List Term} → IsNext t.Close xs ys → args ≡ [] → Reads behind_open IsGroup xs ys (Ok (terms.Tuple args))
unit_read n e = rw e (Reads.ok (λ first. refl) (Takes.left (next_starts n) (next_takes n)))

pub group_first_fails : {xs ms ys : List Lexeme} → (ms ≡ xs) × Lacks t.Close xs → Fails factored tables (call Name.Term) ms ys → Fails factored tables behind_open xs ys
group_first_fails h f = Fails.right h.1 (Fails.first (fails_from h.0 f))

module _ {xs ms ys : List Lexeme} {x : Operand} (h : (ms ≡ xs) × Lacks t.Close xs) (r : Reads (call Name.Term) (IsOperand ms) ms ys (Ok x)) where
  goes : {zs : List Lexeme} {vs : List Value} (q : Taken (call Name.Term) (IsOperand ms) ms ys x) → Takes factored tables behind_term ys zs vs → Takes factored tables behind_open xs zs (value_of q.makes.first x ∷ vs)
  goes q s = Takes.right h.1 (Takes.seq (from h.0 (giving q.makes.is q.takes)) s)

  alone_grouped : (first other paren : Lexeme) (x : Operand) → group first (value_of other x ∷ token paren ∷ []) ≡ term first None (tree_of x)
  alone_grouped first other paren (Bare a) = refl
  alone_grouped first other paren (Other x) = refl

  pub closed_read : {zs : List Lexeme} → IsNext t.Close ys zs → Reads behind_open IsGroup xs zs (Ok (tree_of x))
  closed_read n = let q = taken r in Reads.ok (λ first. alone_grouped first q.makes.first n.token x) (goes q (Takes.left (next_starts n) (next_takes n)))

  pub comma_fails : {zs end : List Lexeme} → (zs ≡ ys) × Lacks t.Close ys → Fails factored tables (Tok t.Comma) zs end → Fails factored tables behind_open xs end
  comma_fails g f = let q = taken r in Fails.right h.1 (Fails.second (from h.0 q.takes) (Fails.right g.1 (Fails.first (fails_from g.0 f))))

  tuple_grouped : (first other comma : Lexeme) (x : Operand) (vs : List Value) → (vs ≡ [] → ⊥) → group first (value_of other x ∷ token comma ∷ vs) ≡ term first None (terms.Tuple (tree_of x ∷ collected as_term vs))
  tuple_grouped first other comma x [] h = absurd (h refl)
  tuple_grouped first other comma (Bare a) (v ∷ vs) h = refl
  tuple_grouped first other comma (Other x) (v ∷ vs) h = refl

  pub tuple_reads : {U : Type 0} {u : U} {zs ws end : List Lexeme} {first : Term} {r : Result Term Stop} → (zs ≡ ys) × Lacks t.Close ys → Reads (Tok t.Comma) IsAny zs ws (Ok u) → first ≡ tree_of x → Reads behind_comma (IsTuple first) ws end r → Reads behind_open IsGroup xs end r
  tuple_reads {zs = zs} g c e s =
      let q = taken r in
      let p = taken c in
      let comma = from g.0 (giving p.makes.1 p.takes) in
      follow s
      (λ y vs i d. (value_of q.makes.first x ∷ token p.makes.0 ∷ vs, λ first. tuple_grouped first q.makes.first p.makes.0 x vs i.some ∙ ap (λ m. term first None m) (sym (i.is ∙ ap (λ m. terms.Tuple (m ∷ collected as_term vs)) e)), goes q (Takes.right g.1 (Takes.seq comma d))))
      (λ f. Fails.right h.1 (Fails.second (from h.0 q.takes) (Fails.right g.1 (Fails.second comma f))))

-- ---- tuples

pub tuple_closed : {xs ys : List Lexeme} (first : Term) {new pushed : List Term} → new ≡ [] → pushed ≡ new ++ first ∷ [] → IsNext t.Close xs ys → Reads behind_comma (IsTuple first) xs ys (Ok (terms.Tuple pushed))
tuple_closed first e p n = rw (p, e) (Reads.ok {vs = token n.token ∷ []} (record { is = refl; some = λ h. absurd (cc) }) (Takes.left (next_starts n) (next_takes n)))

pub tuple_terms_fail : {xs ms ys : List Lexeme} → (ms ≡ xs) × Lacks t.Close xs → Fails factored tables (many (call Name.Term) t.Comma) ms ys → Fails factored tables behind_comma xs ys
tuple_terms_fail h f = Fails.right h.1 (Fails.first (fails_from h.0 f))

module _ {xs ms ys : List Lexeme} {before all : List Term} (h : (ms ≡ xs) × Lacks t.Close xs) (r : Reads (many (call Name.Term) t.Comma) (IsTerms before) ms ys (Ok all)) where
  pub tuple_close_fails : {zs : List Lexeme} → Fails factored tables (Tok t.Close) ys zs → Fails factored tables behind_comma xs zs
  tuple_close_fails f = let q = taken r in Fails.right h.1 (Fails.second (from h.0 q.takes) f)

  pub tuple_read : {U : Type 0} {u : U} {zs : List Lexeme} (first : Term) {new : List Term} → new ≡ [] → before ≡ new ++ first ∷ [] → Reads (Tok t.Close) IsAny ys zs (Ok u) → Reads behind_comma (IsTuple first) xs zs (Ok (terms.Tuple all))
  tuple_read first e p c =
      let q = taken r in
      let d = taken c in
      Reads.ok (record { is = ap (λ ts. terms.Tuple ts) (members first q.values d.makes.0 e p q.makes.all); some = λ z. q.makes.some (ap (collected as_term) (front q.values (token d.makes.0) z)) })
      (Takes.right h.1 (Takes.seq (from h.0 q.takes) (giving d.makes.1 d.takes)))
    where
      members : (first : Term) (vs : List Value) (close : Lexeme) {new before all : List Term} → new ≡ [] → before ≡ new ++ first ∷ [] → before ++ collected as_term vs ≡ all → all ≡ first ∷ collected as_term (vs ++ token close ∷ [])
      members first vs close e p i = sym i ∙ rw (p, e, collected-append) (rw append-nil refl)

      front : (vs : List Value) (v : Value) → vs ++ v ∷ [] ≡ [] → vs ≡ []
      front [] v e = refl
      front (u ∷ us) v e = absurd (cc)

-- ---- arguments

pub no_arguments : {xs ys : List Lexeme} {new : List Term} → (ys ≡ xs) × Lacks t.Open xs → new ≡ [] → Reads (opt (call Name.Arguments)) IsArguments xs ys (Ok new)
no_arguments {xs = xs} h e = rw (e, h.0) (Reads.ok refl (Takes.right (not_call xs h.1) Takes.empty))
  where
    not_call : (ts : List Lexeme) → Lacks t.Open ts → NotStarts factored tables (call Name.Arguments) ts
    not_call [] n = tt
    not_call (t ∷ ts) n = rw n refl

arguments_start : {xs ys : List Lexeme} → IsNext t.Open xs ys → Starts factored tables (call Name.Arguments) xs
arguments_start n = rw (n.is, n.kind) refl

pub arguments_terms_fail : {xs ms ys : List Lexeme} → IsNext t.Open xs ms → Fails factored tables (many (call Name.Term) t.Comma) ms ys → Fails factored tables (opt (call Name.Arguments)) xs ys
arguments_terms_fail n f = Fails.left (arguments_start n) (Fails.call (Fails.second (next_takes n) (Fails.first f)))

module _ {xs ms ys : List Lexeme} {before all : List Term} (n : IsNext t.Open xs ms) (r : Reads (many (call Name.Term) t.Comma) (IsTerms before) ms ys (Ok all)) where
  pub arguments_close_fails : {zs : List Lexeme} → Fails factored tables (Tok t.Close) ys zs → Fails factored tables (opt (call Name.Arguments)) xs zs
  arguments_close_fails f = let q = taken r in Fails.left (arguments_start n) (Fails.call (Fails.second (next_takes n) (Fails.second q.takes f)))

  arguments_made : (paren close : Lexeme) (vs : List Value) (ts : List Term) → collected as_term vs ≡ ts → (collected as_term vs ≡ [] → ⊥) → IsArguments ts (made Name.Arguments (token paren ∷ (vs ++ token close ∷ [])) ∷ [])
  arguments_made paren close vs [] e h = absurd (h e)
  arguments_made paren close vs (u ∷ us) e h = alone (ap Value.terms (collected-append as_term vs (token close ∷ []) ∙ append-nil (collected as_term vs) ∙ e))

  behind_none : (before us all : List Term) → before ≡ [] → before ++ us ≡ all → us ≡ all
  behind_none before us all e h = rw e at h

  pub arguments_read : {U : Type 0} {u : U} {zs : List Lexeme} → before ≡ [] → Reads (Tok t.Close) IsAny ys zs (Ok u) → Reads (opt (call Name.Arguments)) IsArguments xs zs (Ok all)
  arguments_read e c =
      let q = taken r in
      let d = taken c in
      Reads.ok (arguments_made n.token d.makes.0 q.values all (behind_none before (collected as_term q.values) all e q.makes.all) q.makes.some)
      (Takes.left (arguments_start n) (Takes.call (Takes.seq (next_takes n) (Takes.seq q.takes (giving d.makes.1 d.takes)))))

-- ---- lists of terms

abbrev pub TermItem : Rhs
TermItem = Tok t.Comma ⨾ call Name.Term

term_collected : (comma first : Lexeme) (x : Operand) → collected as_term (token comma ∷ value_of first x ∷ []) ≡ tree_of x ∷ []
term_collected comma first (Bare a) = refl
term_collected comma first (Other x) = refl

term_picked : (first : Lexeme) (x : Operand) → collected as_term (value_of first x ∷ []) ≡ tree_of x ∷ []
term_picked first (Bare a) = refl
term_picked first (Other x) = refl

pub terms_more : {start here mid end : List Lexeme} {before now : List Term} {x : Operand} → Collects as_term TermItem start here before now → IsNext t.Comma here mid → Reads (call Name.Term) (IsOperand mid) mid end (Ok x) → Collects as_term TermItem start end before (now ++ tree_of x ∷ [])
terms_more {x = x} c n r = let q = taken r in collects_more (tree_of x) c (Takes.seq (next_takes n) (giving q.makes.is q.takes)) (term_collected n.token q.makes.first x)

module _ {xs start here : List Lexeme} {pushed now : List Term} {x : Operand} (first : Reads (call Name.Term) (IsOperand xs) xs start (Ok x)) (c : Collects as_term TermItem start here pushed now) where
  pub terms_fail : {mid end : List Lexeme} → IsNext t.Comma here mid → Fails factored tables (call Name.Term) mid end → Fails factored tables (many (call Name.Term) t.Comma) xs end
  terms_fail n f = let q = taken first in Fails.second q.takes (collects_fail c (seq_starts (Tok t.Comma) (call Name.Term) here (next_starts n)) (Fails.second (next_takes n) f))

  pub terms_end : (before : List Term) {end : List Lexeme} → pushed ≡ before ++ tree_of x ∷ [] → (end ≡ here) × Lacks t.Comma here → Reads (many (call Name.Term) t.Comma) (IsTerms before) xs end (Ok now)
  terms_end before p h =
      let q = taken first in
      let w = collects_end c h.0 (not_seq (Tok t.Comma) (call Name.Term) here refl h.1) in
      Reads.ok (record { all = joined w.values before q.makes.first p w.grown; some = λ z. some_terms q.makes.first x w.values z }) (Takes.seq (giving q.makes.is q.takes) w.takes)
    where
      joined : (vs : List Value) (before : List Term) (f : Lexeme) {pushed now : List Term} → pushed ≡ before ++ tree_of x ∷ [] → now ≡ pushed ++ collected as_term vs → before ++ collected as_term (value_of f x ∷ vs) ≡ now
      joined vs before f p g = sym (g ∙ ap (λ ts. ts ++ collected as_term vs) p ∙ append_assoc before (tree_of x ∷ []) (collected as_term vs) ∙ ap (λ ts. before ++ ts) (ap (λ ts. ts ++ collected as_term vs) (sym (term_picked f x)) ∙ sym (collected-append as_term (value_of f x ∷ []) vs)))

      some_terms : (f : Lexeme) (x : Operand) (vs : List Value) → collected as_term (value_of f x ∷ vs) ≡ [] → ⊥
      some_terms f (Bare a) vs e = cc
      some_terms f (Other y) vs e = cc
