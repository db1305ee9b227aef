-- What comes of what may be a term or a formula.
use Rattle.std.proofs.Common.{◌≡◌, ℕ, List, [], ◌∷◌, None, Ok, Err, Result, refl, sym, ◌∙◌, subst}
use Rattle.std.specs.Result.{IsErrAnd}
use Rattle.grammar.specs.Form.{◌⨾◌, ◌∣◌, opt}
use Rattle.grammar.specs.Form.Form.{Tok, Call, Then}
use Rattle.grammar.specs.Takes.{Takes, Fails, Starts, NotStarts}
use Rattle.grammar.proofs.Laws.{or_false}
use Rattle.ap_syntax.specs.declared.terms.Atom.{Atom}
use Rattle.ap_syntax.specs.declared.terms.Term.{Term}
use Rattle.ap_syntax.specs.declared.terms.Term.TheVariants as terms
use Rattle.ap_syntax.specs.declared.preferences.Formula.{Formula}
use Rattle.ap_syntax.specs.declared.preferences.Formula.TheVariants as formulas
use Rattle.ap_grammar.specs.declared.terminals.Terminal.{Terminal}
use Rattle.ap_grammar.specs.declared.terminals.Terminal.TheVariants as t
use Rattle.ap_grammar.specs.Lexemes.{Lexeme}
use Rattle.ap_grammar.specs.Values.{Value, Class, as_term, collected}
use Rattle.ap_grammar.specs.Values as values
use Rattle.ap_grammar.specs.Values.Value.{token, term}
use Rattle.ap_grammar.specs.Grammar.{Name, member}
use Rattle.ap_grammar.specs.Factored.{Part, Rhs, call, factored, behind_comma, front, front_group, front_made, term_more, term_rest, formula_rest, mixed_behind, inner_behind}
use Rattle.ap_grammar.specs.Tables.{tables}
use Rattle.literal_parse.specs.declared.error.Stop.{Stop}
use Rattle.literal_parse.specs.declared.operand.Operand.{Operand}
use Rattle.literal_parse.specs.declared.operand.Operand.TheVariants.{Bare}
use Rattle.literal_parse.specs.declared.operand.Operand.TheVariants as operands
use Rattle.literal_parse.specs.Reads.{Reads, IsAny, IsName, IsNameKind, IsNext, Lacks}
use Rattle.literal_parse.specs.Operands.{IsOperand, term_of, tree_of}
use Rattle.literal_parse.specs.Operands as operand
use Rattle.literal_parse.specs.Terms.{IsArguments, IsTuple}
use Rattle.literal_parse.proofs.Steps.{taken, follow, giving, from, fails_from, fails_tok, next_starts, next_takes, not_seq, seq_starts, stopped_syntax}
use Rattle.pref_parse.specs.declared.mixed.Mixed.{Mixed}
use Rattle.pref_parse.specs.declared.mixed.Mixed.TheVariants.{Either, Formed, Other}
use Rattle.pref_parse.specs.Formulas.{IsFormulaRest, IsUnit, unit}
use Rattle.pref_parse.specs.Operators.{Operates}
use Rattle.pref_parse.specs.Mixed.{IsInner, IsInnerRest, IsMixed, IsMixedRest, OperandOr, class_of, either, inner, simple, value_of}
use Rattle.pref_parse.proofs.FormulaLemmas.{alone, negated_made}
use Rattle.pref_parse.proofs.RestLemmas.{more_takes, more_fails, more_some, term_goes, either_operated, rest_some, formula_goes, either_joined}
use Rattle.pref_parse.proofs.Simple.{one_token, never_fails, otherwise, simple_takes, simple_made}

-- ---- what hangs on the class

class_is : (first : Lexeme) (x : Mixed) → values.class_of (value_of first x ∷ []) ≡ class_of x
class_is first (Either a) = refl
class_is first (Formed f) = refl
class_is first (Other y) = refl

module _ {n : Part} {xs ys : List Lexeme} {x : Mixed} (r : Reads (Call n) (IsMixed xs) xs ys (Ok x)) where
  pub then_takes : (b : Class → Rhs) {zs : List Lexeme} {vs : List Value} → Takes factored tables (b (class_of x)) ys zs vs → Takes factored tables (Then (Call n) b) xs zs (value_of (taken r).makes.first x ∷ vs)
  then_takes b {zs = zs} {vs = vs} d = let q = taken r in Takes.followed (giving q.makes.makes q.takes) (subst (λ c. Takes factored tables (b c) ys zs vs) (sym (class_is q.makes.first x)) d)

  pub then_fails : (b : Class → Rhs) {zs : List Lexeme} → Fails factored tables (b (class_of x)) ys zs → Fails factored tables (Then (Call n) b) xs zs
  then_fails b {zs = zs} f = let q = taken r in Fails.finish (giving q.makes.makes q.takes) (subst (λ c. Fails factored tables (b c) ys zs) (sym (class_is q.makes.first x)) f)

pub mixed_reads : {xs ys zs : List Lexeme} {x : Mixed} {r : Result Mixed Stop} → Reads (Call Part.Front) (IsMixed xs) xs ys (Ok x) → Reads (mixed_behind (class_of x)) (IsMixedRest x) ys zs r → Reads (Call Part.Mixed) (IsMixed xs) xs zs r
mixed_reads a s =
    let q = taken a in
    follow s
    (λ y vs i d. (value_of q.makes.first y ∷ [], record { first = q.makes.first; leads = q.makes.leads; makes = refl }, giving (alone (i q.makes.first)) (Takes.call (then_takes a mixed_behind d))))
    (λ f. Fails.call (then_fails a mixed_behind f))

-- ---- behind a parenthesis

pub inner_unit : {xs ys : List Lexeme} {new : List Term} → IsNext t.Close xs ys → new ≡ [] → Reads inner IsInner xs ys (Ok (Other (terms.Tuple new)))
inner_unit n e = rw e (Reads.ok (λ first. refl) (Takes.left (next_starts n) (next_takes n)))

pub inner_fails : {xs ms ys : List Lexeme} → (ms ≡ xs) × Lacks t.Close xs → Fails factored tables (Call Part.Mixed) ms ys → Fails factored tables inner xs ys
inner_fails h f = Fails.right h.1 (fails_from h.0 (Fails.start f))

pub inner_reads : {xs ms ys zs : List Lexeme} {x : Mixed} {r : Result Mixed Stop} → (ms ≡ xs) × Lacks t.Close xs → Reads (Call Part.Mixed) (IsMixed ms) ms ys (Ok x) → Reads (inner_behind (class_of x)) (IsInnerRest x) ys zs r → Reads inner IsInner xs zs r
inner_reads {x = x} h a s =
    let q = taken a in
    follow s
    (λ y vs i d. (value_of q.makes.first x ∷ vs, λ first. i first q.makes.first, Takes.right h.1 (from h.0 (then_takes a inner_behind d))))
    (λ f. Fails.right h.1 (fails_from h.0 (then_fails a inner_behind f)))

pub inner_closed : {xs ys : List Lexeme} (x : Mixed) → IsNext t.Close xs ys → Reads (inner_behind (class_of x)) (IsInnerRest x) xs ys (Ok x)
inner_closed (Either a) n = Reads.ok {vs = token n.token ∷ []} (λ first other. refl) (Takes.left (next_starts n) (next_takes n))
inner_closed (Formed f) n = Reads.ok {vs = token n.token ∷ []} (λ first other. refl) (next_takes n)
inner_closed (Other y) n = Reads.ok {vs = token n.token ∷ []} (λ first other. refl) (Takes.left (next_starts n) (next_takes n))

pub inner_formed : {xs ys : List Lexeme} (x : Mixed) (e : Stop) {R : Result Mixed Stop} → (ys ≡ xs) × Lacks t.Close xs → OperandOr x (Err e) → IsErrAnd R (λ d. d ≡ e) → Reads (inner_behind (class_of x)) (IsInnerRest x) xs ys R
inner_formed (Either a) e h o i = absurd (cc)
inner_formed {xs = xs} (Formed f) e h o i = let k : e ≡ _ = cc in stopped_syntax k i (rw h.0 (fails_tok t.Close xs h.1))
inner_formed (Other y) e h o i = absurd (cc)

pub inner_comma_fails : {xs ys zs : List Lexeme} (x : Mixed) (y : Operand) → (ys ≡ xs) × Lacks t.Close xs → OperandOr x (Ok y) → Fails factored tables (Tok t.Comma) ys zs → Fails factored tables (inner_behind (class_of x)) xs zs
inner_comma_fails (Either a) y h o f = Fails.right h.1 (Fails.first (fails_from h.0 f))
inner_comma_fails (Formed g) y h o f = absurd (cc)
inner_comma_fails (Other z) y h o f = Fails.right h.1 (Fails.first (fails_from h.0 f))

module _ {U : Type 0} {u : U} {xs ys zs : List Lexeme} (h : (ys ≡ xs) × Lacks t.Close xs) (c : Reads (Tok t.Comma) IsAny ys zs (Ok u)) where
  comma : Takes factored tables (Tok t.Comma) xs zs (token (taken c).makes.0 ∷ [])
  comma = let p = taken c in from h.0 (giving p.makes.1 p.takes)

  pub inner_tuple_fails : {end : List Lexeme} (x : Mixed) (y : Operand) → OperandOr x (Ok y) → Fails factored tables behind_comma zs end → Fails factored tables (inner_behind (class_of x)) xs end
  inner_tuple_fails (Either a) y o f = Fails.right h.1 (Fails.second comma f)
  inner_tuple_fails (Formed g) y o f = absurd (cc)
  inner_tuple_fails (Other z) y o f = Fails.right h.1 (Fails.second comma f)

  tuple_made : (x : Mixed) (p : Operand) (y w : Term) (sign : Lexeme) (vs : List Value) → OperandOr x (Ok p) → y ≡ tree_of p → IsTuple y w vs → IsInnerRest x (Other w) (token sign ∷ vs)
  tuple_made x p y w sign [] o k i = absurd (i.some refl)
  tuple_made (Either a) p y w sign (v ∷ vs) o k i = λ first other. let e : p ≡ Bare a = cc in rw (i.is, k, e) refl
  tuple_made (Formed g) p y w sign (v ∷ vs) o k i = absurd (cc)
  tuple_made (Other z) p y w sign (v ∷ vs) o k i = λ first other. let e : p ≡ operands.Other z = cc in rw (i.is, k, e) refl

  pub inner_tuple : {end : List Lexeme} {y w : Term} (x : Mixed) (p : Operand) → OperandOr x (Ok p) → y ≡ tree_of p → Reads behind_comma (IsTuple y) zs end (Ok w) → Reads (inner_behind (class_of x)) (IsInnerRest x) xs end (Ok (Other w))
  inner_tuple {y = y} {w = w} (Either a) p o k r = let q = taken r in Reads.ok (tuple_made (Either a) p y w (taken c).makes.0 q.values o k q.makes) (Takes.right h.1 (Takes.seq comma q.takes))
  inner_tuple (Formed g) p o k r = absurd (cc)
  inner_tuple {y = y} {w = w} (Other z) p o k r = let q = taken r in Reads.ok (tuple_made (Other z) p y w (taken c).makes.0 q.values o k q.makes) (Takes.right h.1 (Takes.seq comma q.takes))

-- ---- the rest behind the first primary term or the first member

pub formed_rest : {xs ys : List Lexeme} {f g : Formula} → Reads formula_rest (IsFormulaRest f) xs ys (Ok g) → Reads (mixed_behind Class.Formed) (IsMixedRest (Formed f)) xs ys (Ok (Formed g))
formed_rest r = let q = taken r in Reads.ok (λ first. formula_goes first q.makes) q.takes

pub other_rest : {xs ys : List Lexeme} {x z : Term} → Reads term_rest (Operates x) xs ys (Ok z) → Reads (mixed_behind Class.Other) (IsMixedRest (Other x)) xs ys (Ok (Other z))
other_rest r = let q = taken r in Reads.ok (λ first. term_goes first q.makes) q.takes

pub either_term_fails : {xs ys : List Lexeme} → Starts factored tables term_more xs → Fails factored tables term_rest xs ys → Fails factored tables (mixed_behind Class.Either) xs ys
either_term_fails s f = Fails.left s (more_fails s f)

pub either_term : {xs ys : List Lexeme} {x z : Term} (a : Atom) → Starts factored tables term_more xs → x ≡ term_of a → Reads term_rest (Operates x) xs ys (Ok z) → Reads (mixed_behind Class.Either) (IsMixedRest (either a)) xs ys (Ok (Other z))
either_term a s e r =
    let q = taken (rw e at r) in
    let d = more_takes s q.takes in
    Reads.ok (λ first. either_operated first a q.makes (more_some d)) (Takes.left s d)

pub either_formula : {xs ys : List Lexeme} {g : Formula} (a : Atom) → NotStarts factored tables term_more xs → Starts factored tables formula_rest xs → Reads formula_rest (IsFormulaRest (formulas.Atom a)) xs ys (Ok g) → Reads (mixed_behind Class.Either) (IsMixedRest (either a)) xs ys (Ok (Formed g))
either_formula a h s r = let q = taken r in Reads.ok (λ first. either_joined first a (term_of a) q.makes (rest_some s q.takes)) (Takes.right h q.takes)

pub either_alone : {xs : List Lexeme} (a : Atom) → NotStarts factored tables term_more xs → NotStarts factored tables formula_rest xs → Reads (mixed_behind Class.Either) (IsMixedRest (either a)) xs xs (Ok (Either a))
either_alone {xs = xs} a h i = let n = apart xs i in Reads.ok {vs = []} (λ first. refl) (Takes.right h (Takes.seq (Takes.none n.0) (Takes.none n.1)))
  where
    apart : (xs : List Lexeme) → NotStarts factored tables formula_rest xs → NotStarts factored tables (Tok t.And ⨾ call Name.Member) xs × NotStarts factored tables (Tok t.Or ⨾ call Name.Conjunction) xs
    apart [] i = (tt, tt)
    apart (x ∷ ts) i = or_false _ _ i

-- ---- the first primary term or the first member

pub front_not_fails : {xs ms ys : List Lexeme} → IsNext t.Not xs ms → Fails factored tables unit ms ys → Fails factored tables (Call Part.Front) xs ys
front_not_fails {xs = xs} n f = Fails.call (Fails.left (seq_starts (Tok t.Not) unit xs (next_starts n)) (Fails.second (next_takes n) f))

pub front_not : {xs ms ys : List Lexeme} {f : Formula} → IsNext t.Not xs ms → Reads unit (IsUnit ms) ms ys (Ok f) → Reads (Call Part.Front) (IsMixed xs) xs ys (Ok (Formed (formulas.Not f)))
front_not {xs = xs} {ms = ms} n r =
    let q = taken r in
    Reads.ok (record { first = n.token; leads = record { rest = ms; is = n.is }; makes = alone (fronted n.token.terminal n.token q.values n.kind ∙ negated_made n.token q.makes) })
    (Takes.call (Takes.left (seq_starts (Tok t.Not) unit xs (next_starts n)) (Takes.seq (next_takes n) q.takes)))
  where
    fronted : (k : Terminal) (first : Lexeme) (vs : List Value) → k ≡ t.Not → front k first vs ≡ member first vs
    fronted k first vs e = rw e refl

no_not : (xs : List Lexeme) → Lacks t.Not xs → NotStarts factored tables (Tok t.Not ⨾ unit) xs
no_not xs h = not_seq (Tok t.Not) unit xs refl h

no_minus : (xs : List Lexeme) → Lacks t.Minus xs → NotStarts factored tables (Tok t.Minus ⨾ call Name.Primary) xs
no_minus xs h = not_seq (Tok t.Minus) (call Name.Primary) xs refl h

pub front_minus_fails : {xs ms ns ys : List Lexeme} → (ms ≡ xs) × Lacks t.Not xs → IsNext t.Minus ms ns → Fails factored tables (call Name.Primary) ns ys → Fails factored tables (Call Part.Front) xs ys
front_minus_fails {xs = xs} {ms = ms} h n f = Fails.call (Fails.right (no_not xs h.1) (fails_from h.0 (Fails.left (seq_starts (Tok t.Minus) (call Name.Primary) ms (next_starts n)) (Fails.second (next_takes n) f))))

pub front_minus : {xs ms ns ys : List Lexeme} {x : Operand} → (ms ≡ xs) × Lacks t.Not xs → IsNext t.Minus ms ns → Reads (call Name.Primary) (IsOperand ns) ns ys (Ok x) → Reads (Call Part.Front) (IsMixed xs) xs ys (Ok (Other (terms.Minus (tree_of x))))
front_minus {xs = xs} {ms = ms} {ns = ns} {x = x} h n r =
    let q = taken r in
    Reads.ok (record { first = n.token; leads = record { rest = ns; is = sym h.0 ∙ n.is }; makes = alone (minus_made n.token.terminal n.token q.makes.first x n.kind) })
    (Takes.call (Takes.right (no_not xs h.1) (from h.0 (Takes.left (seq_starts (Tok t.Minus) (call Name.Primary) ms (next_starts n)) (Takes.seq (next_takes n) (giving q.makes.is q.takes))))))
  where
    minus_made : (k : Terminal) (first other : Lexeme) (x : Operand) → k ≡ t.Minus → front k first (operand.value_of other x ∷ []) ≡ term first None (terms.Minus (tree_of x))
    minus_made k first other (operands.Bare a) e = rw e refl
    minus_made k first other (operands.Other y) e = rw e refl

-- no sign comes next
pub record Unsigned (xs ns : List Lexeme) : Type 0 where
  pub is : ns ≡ xs
  pub not : Lacks t.Not xs
  pub minus : Lacks t.Minus xs

pub unsigned : {xs ms ns : List Lexeme} → (ms ≡ xs) × Lacks t.Not xs → (ns ≡ ms) × Lacks t.Minus ms → Unsigned xs ns
unsigned h i = record { is = i.0 ∙ h.0; not = h.1; minus = rw h.0 at i.1 }

abbrev Bracketed : Rhs
Bracketed = Tok t.Open ⨾ inner

abbrev Plain : Rhs
Plain = call Name.Ident ⨾ opt (call Name.Arguments)

abbrev Behind : Rhs
Behind = Tok t.Number ∣ Tok t.String ∣ Tok t.Variable ∣ Tok t.Any ∣ Bracketed ∣ Plain

unsigned_takes : {xs ns ys : List Lexeme} {vs : List Value} → Unsigned xs ns → Takes factored tables Behind xs ys vs → Takes factored tables (Call Part.Front) xs ys (front_made vs ∷ [])
unsigned_takes {xs = xs} u d = Takes.call (Takes.right (no_not xs u.not) (Takes.right (no_minus xs u.minus) d))

unsigned_fails : {xs ns ys : List Lexeme} → Unsigned xs ns → Fails factored tables Behind xs ys → Fails factored tables (Call Part.Front) xs ys
unsigned_fails {xs = xs} u f = Fails.call (Fails.right (no_not xs u.not) (Fails.right (no_minus xs u.minus) f))

same_one : (v w : Value) → v ∷ [] ≡ w ∷ [] → v ≡ w
same_one v w e = cc

pub front_simple_fails : {xs ns ys : List Lexeme} → Starts factored tables simple ns → Fails factored tables (call Name.Primary) ns ys → Fails factored tables (Call Part.Front) xs ys
front_simple_fails s f = absurd (never_fails f s)

pub front_simple : {xs ns ys : List Lexeme} {x : Operand} → Unsigned xs ns → Starts factored tables simple ns → Reads (call Name.Primary) (IsOperand ns) ns ys (Ok x) → Reads (Call Part.Front) (IsMixed xs) xs ys (Ok (Other (tree_of x)))
front_simple {ys = ys} {x = x} u s r =
    let q = taken r in
    let o = one_token q.takes s in
    Reads.ok (record { first = o.token; leads = record { rest = ys; is = sym u.is ∙ o.is }; makes = alone (simple_made o.token.terminal o.token q.makes.first x o.kind (same_one _ _ (sym q.makes.is ∙ o.makes))) })
    (unsigned_takes u (from (sym o.is ∙ u.is) (simple_takes (Bracketed ∣ Plain) o.token.terminal refl o.kind)))

otherwise_takes : {xs ns ys : List Lexeme} {vs : List Value} → Unsigned xs ns → NotStarts factored tables simple ns → Takes factored tables (Bracketed ∣ Plain) ns ys vs → Takes factored tables (Call Part.Front) xs ys (front_made vs ∷ [])
otherwise_takes {ns = ns} u s d = let o = otherwise ns s in unsigned_takes u (from u.is (Takes.right o.number (Takes.right o.string (Takes.right o.variable (Takes.right o.any d)))))

otherwise_fails : {xs ns ys : List Lexeme} → Unsigned xs ns → NotStarts factored tables simple ns → Fails factored tables (Bracketed ∣ Plain) ns ys → Fails factored tables (Call Part.Front) xs ys
otherwise_fails {ns = ns} u s f = let o = otherwise ns s in unsigned_fails u (fails_from u.is (Fails.right o.number (Fails.right o.string (Fails.right o.variable (Fails.right o.any f)))))

pub front_inner : {xs ns ms ys : List Lexeme} {r : Result Mixed Stop} → Unsigned xs ns → NotStarts factored tables simple ns → IsNext t.Open ns ms → Reads inner IsInner ms ys r → Reads (Call Part.Front) (IsMixed xs) xs ys r
front_inner {ns = ns} {ms = ms} u s n r =
    follow r
    (λ y vs i d. (
      value_of n.token y ∷ [],
      record { first = n.token; leads = record { rest = ms; is = sym u.is ∙ n.is }; makes = refl },
      giving (alone (grouped n.token.terminal n.token vs n.kind ∙ i n.token)) (otherwise_takes u s (Takes.left (seq_starts (Tok t.Open) inner ns (next_starts n)) (Takes.seq (next_takes n) d))),
    ))
    (λ f. otherwise_fails u s (Fails.left (seq_starts (Tok t.Open) inner ns (next_starts n)) (Fails.second (next_takes n) f)))
  where
    grouped : (k : Terminal) (first : Lexeme) (vs : List Value) → k ≡ t.Open → front k first vs ≡ front_group first vs
    grouped k first vs e = rw e refl

module _ {xs ns os : List Lexeme} (u : Unsigned xs ns) (s : NotStarts factored tables simple ns) (h : (os ≡ ns) × Lacks t.Open ns) where
  pub front_name_fails : {ys : List Lexeme} → Fails factored tables (call Name.Ident) os ys → Fails factored tables (Call Part.Front) xs ys
  front_name_fails f = otherwise_fails u s (Fails.right (not_seq (Tok t.Open) inner ns refl h.1) (Fails.first (fails_from h.0 f)))

  pub front_arguments_fail : {ys end : List Lexeme} {x : List ℕ} → Reads (call Name.Ident) (IsName os) os ys (Ok x) → Fails factored tables (opt (call Name.Arguments)) ys end → Fails factored tables (Call Part.Front) xs end
  front_arguments_fail r f = let q = taken r in otherwise_fails u s (Fails.right (not_seq (Tok t.Open) inner ns refl h.1) (Fails.second (from h.0 q.takes) f))

  named_made : (k : Terminal) (first : Lexeme) (x : List ℕ) (ys : List Term) (vs : List Value) → IsNameKind k → x ≡ first.bytes → IsArguments ys vs → front k first vs ≡ value_of first (Either (record { name = x; terms = ys }))
  named_made k first x [] vs IsNameKind.word e i = rw (e, i) refl
  named_made k first x [] vs IsNameKind.base e i = rw (e, i) refl
  named_made k first x [] vs IsNameKind.preference e i = rw (e, i) refl
  named_made k first x (y ∷ ys) vs IsNameKind.word e i = rw (e, i) refl
  named_made k first x (y ∷ ys) vs IsNameKind.base e i = rw (e, i) refl
  named_made k first x (y ∷ ys) vs IsNameKind.preference e i = rw (e, i) refl

  pub front_named : {ys end : List Lexeme} {x : List ℕ} {args : List Term} → Reads (call Name.Ident) (IsName os) os ys (Ok x) → Reads (opt (call Name.Arguments)) IsArguments ys end (Ok args) → Reads (Call Part.Front) (IsMixed xs) xs end (Ok (Either (record { name = x; terms = args })))
  front_named {x = x} {args = args} r a =
      let q = taken r in
      let p = taken a in
      Reads.ok (record { first = q.makes.token; leads = record { rest = q.makes.leads.rest; is = sym u.is ∙ sym h.0 ∙ q.makes.leads.is }; makes = alone (named_made q.makes.token.terminal q.makes.token x args p.values q.makes.kind q.makes.bytes p.makes) })
      (otherwise_takes u s (Takes.right (not_seq (Tok t.Open) inner ns refl h.1) (Takes.seq (from h.0 (giving q.makes.is q.takes)) p.takes)))
