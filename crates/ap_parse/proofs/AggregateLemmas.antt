-- What aggregates and their elements come to.
use Rattle.std.proofs.Common.{◌≡◌, List, [], ◌∷◌, ◌++◌, Option, Ok, Err, Result, refl, sym, ◌∙◌, ap, append-nil}
use Rattle.grammar.specs.Form.{◌⨾◌, ◌∣◌, opt}
use Rattle.grammar.specs.Form.Form.{Tok, Call, Star}
use Rattle.grammar.specs.Takes.{Takes, Fails, Starts, NotStarts}
use Rattle.grammar.proofs.Interpret.{Reads as Read}
use Rattle.grammar.proofs.Laws.{or_false, takes_derives}
use Rattle.ap_syntax.specs.declared.rules.AggElement.{AggElement}
use Rattle.ap_syntax.specs.declared.rules.Function.{Function}
use Rattle.ap_syntax.specs.declared.rules.Function.TheVariants as functions
use Rattle.ap_syntax.specs.declared.rules.Guard.{Guard}
use Rattle.ap_syntax.specs.declared.terms.Atom.{Atom}
use Rattle.ap_syntax.specs.declared.terms.Literal.{Literal}
use Rattle.ap_syntax.specs.declared.terms.Term.{Term}
use Rattle.ap_grammar.specs.declared.terminals.Terminal.{Terminal}
use Rattle.ap_grammar.specs.declared.terminals.Terminal.TheVariants as t
use Rattle.ap_grammar.specs.Lexemes.{Lexeme}
use Rattle.ap_grammar.specs.Values.{Class, Value, as_agg_element, as_condition, as_term, collected, found}
use Rattle.ap_grammar.specs.Values.Value.{token, term, condition, agg_element, aggregate}
use Rattle.ap_grammar.specs.Grammar.{Name, function_of, made}
use Rattle.ap_grammar.specs.Factored.{Part, Rhs, aggregate_form, call, many, factored}
use Rattle.ap_grammar.specs.Tables.{tables}
use Rattle.ap_grammar.proofs.Known.{all_known}
use Rattle.ap_grammar.proofs.Readable.{readable}
use Rattle.ap_grammar.proofs.Sorts.{Has}
use Rattle.ap_grammar.proofs.ToDocument.{to_document}
use Rattle.literal_parse.specs.declared.error.Stop.{Stop}
use Rattle.literal_parse.specs.declared.error.Stop.TheVariants.{Syntax}
use Rattle.ap_parse.specs.Aggregates.{IsAggElement, IsAggElements, IsAggregate, IsFunction, braced, guarding}
use Rattle.ap_parse.specs.Guards.{IsOptionalGuard}
use Rattle.literal_parse.specs.Literals.{IsOptionalCondition}
use Rattle.literal_parse.specs.Reads.{Reads, IsAny, IsNext, Lacks}
use Rattle.literal_parse.specs.Terms.{IsTerms}
use Rattle.literal_parse.proofs.Collects.{Collects, collected-append, collects_more, collects_fail, collects_end}
use Rattle.literal_parse.proofs.Primaries.{TermItem}
use Rattle.literal_parse.proofs.Steps.{taken, follow, giving, fails_from, fails_tok, next_starts, next_takes, not_seq, seq_starts}

-- ---- elements

-- the value of a term
valued : {xs ys : List Lexeme} {v : Value} → Has (Call Name.Term) xs ys (v ∷ []) → (first : Lexeme) × (name : Option Atom) × (x : Term) × (v ≡ term first name x)
valued (Read.call m) = let s = m.sort in (s.first, s.name, s.tree, s.is)

term_valued : {xs ys : List Lexeme} {vs : List Value} → Takes factored tables (call Name.Term) xs ys vs → (first : Lexeme) × (name : Option Atom) × (x : Term) × (vs ≡ term first name x ∷ [])
term_valued (Takes.call d) =
    let q = valued (all_known (to_document (takes_derives Part Terminal Class Lexeme Value factored tables readable.predictive (Takes.call d)))) in
    (q.0, q.1, q.2, ap (λ v. v ∷ []) q.3)

-- among terms there is no condition
no_condition : {xs ys : List Lexeme} {vs : List Value} (ws : List Value) → Takes factored tables (Star TermItem) xs ys vs → found as_condition (vs ++ ws) ≡ found as_condition ws
no_condition ws (Takes.none h) = refl
no_condition ws (Takes.more (Takes.seq (Takes.tok e) d) rest) = let q = term_valued d in rw q.3 (no_condition ws rest)

terms_alone : {xs ys : List Lexeme} {vs : List Value} (ws : List Value) → Takes factored tables (many (call Name.Term) t.Comma) xs ys vs → found as_condition (vs ++ ws) ≡ found as_condition ws
terms_alone ws (Takes.seq d rest) = let q = term_valued d in rw q.3 (no_condition ws rest)

element_made : (us vs : List Value) {ts : List Term} {ls : List Literal} → collected as_term us ≡ ts → ((ws : List Value) → found as_condition (us ++ ws) ≡ found as_condition ws) → IsOptionalCondition ls vs → made Name.AggElement (us ++ vs) ≡ agg_element (record { terms = ts; condition = ls })
element_made us vs e f IsOptionalCondition.absent = rw (f [], collected-append as_term us [] ∙ append-nil (collected as_term us) ∙ e) refl
element_made us vs e f (IsOptionalCondition.present {ls = ls}) = rw (f (condition ls ∷ []), collected-append as_term us (condition ls ∷ []) ∙ append-nil (collected as_term us) ∙ e) refl

module _ {xs ys : List Lexeme} {before ts : List Term} (r : Reads (many (call Name.Term) t.Comma) (IsTerms before) xs ys (Ok ts)) where
  pub element_fails : {end : List Lexeme} → Fails factored tables (opt (call Name.Condition)) ys end → Fails factored tables (call Name.AggElement) xs end
  element_fails f = let q = taken r in Fails.call (Fails.second q.takes f)

  pub element_read : {end : List Lexeme} {ls : List Literal} → before ≡ [] → Reads (opt (call Name.Condition)) IsOptionalCondition ys end (Ok ls) → Reads (call Name.AggElement) IsAggElement xs end (Ok (record { terms = ts; condition = ls }))
  element_read e c =
      let q = taken r in
      let p = taken c in
      Reads.ok (ap (λ v. v ∷ []) (element_made q.values p.values (behind_none before (collected as_term q.values) e q.makes.all) (λ ws. terms_alone ws q.takes) p.makes)) (Takes.call (Takes.seq q.takes p.takes))
    where
      behind_none : (before us : List Term) → before ≡ [] → before ++ us ≡ ts → us ≡ ts
      behind_none before us e h = rw e at h

-- ---- lists of elements

abbrev pub Elements : Rhs
Elements = many (call Name.AggElement) t.Semicolon

abbrev pub ElementItem : Rhs
ElementItem = Tok t.Semicolon ⨾ call Name.AggElement

pub elements_more : {start here mid end : List Lexeme} {before now : List AggElement} {e : AggElement} → Collects as_agg_element ElementItem start here before now → IsNext t.Semicolon here mid → Reads (call Name.AggElement) IsAggElement mid end (Ok e) → Collects as_agg_element ElementItem start end before (now ++ e ∷ [])
elements_more {e = e} c n r = let q = taken r in collects_more e c (Takes.seq (next_takes n) (giving q.makes q.takes)) refl

module _ {xs start here : List Lexeme} {pushed now : List AggElement} {e : AggElement} (first : Reads (call Name.AggElement) IsAggElement xs start (Ok e)) (c : Collects as_agg_element ElementItem start here pushed now) where
  pub elements_fail : {mid end : List Lexeme} → IsNext t.Semicolon here mid → Fails factored tables (call Name.AggElement) mid end → Fails factored tables Elements xs end
  elements_fail n f = let q = taken first in Fails.second q.takes (collects_fail c (seq_starts (Tok t.Semicolon) (call Name.AggElement) here (next_starts n)) (Fails.second (next_takes n) f))

  pub elements_end : {new : List AggElement} {end : List Lexeme} → new ≡ [] → pushed ≡ new ++ e ∷ [] → (end ≡ here) × Lacks t.Semicolon here → Reads Elements IsAggElements xs end (Ok now)
  elements_end i p h =
      let q = taken first in
      let w = collects_end c h.0 (not_seq (Tok t.Semicolon) (call Name.AggElement) here refl h.1) in
      Reads.ok (joined w.values i p w.grown) (Takes.seq (giving q.makes q.takes) w.takes)
    where
      joined : (vs : List Value) {new pushed now : List AggElement} → new ≡ [] → pushed ≡ new ++ e ∷ [] → now ≡ pushed ++ collected as_agg_element vs → e ∷ collected as_agg_element vs ≡ now
      joined vs i p g = sym (rw (p, i) at g)

pub elements_present : {xs ys : List Lexeme} {r : Result (List AggElement) Stop} → Starts factored tables (call Name.AggElement) xs → Reads Elements IsAggElements xs ys r → Reads (opt Elements) IsAggElements xs ys r
elements_present {xs = xs} s r =
    let begins = seq_starts (call Name.AggElement) (Star ElementItem) xs s in
    follow r (λ es vs i d. (vs, i, Takes.left begins d)) (λ f. Fails.left begins f)

pub elements_absent : {xs : List Lexeme} {new : List AggElement} → NotStarts factored tables (call Name.AggElement) xs → new ≡ [] → Reads (opt Elements) IsAggElements xs xs (Ok new)
elements_absent {xs = xs} h e = rw e (Reads.ok refl (Takes.right (not_seq (call Name.AggElement) (Star ElementItem) xs refl h) Takes.empty))

-- ---- braces

module _ {U : Type 0} {u : U} {xs ys : List Lexeme} (open_brace : Reads (Tok t.OpenBrace) IsAny xs ys (Ok u)) where
  pub braced_fails : {end : List Lexeme} → Fails factored tables (opt Elements) ys end → Fails factored tables braced xs end
  braced_fails f = let q = taken open_brace in Fails.second q.takes (Fails.first f)

  module _ {zs : List Lexeme} {es : List AggElement} (r : Reads (opt Elements) IsAggElements ys zs (Ok es)) where
    pub close_fails : {end : List Lexeme} → Fails factored tables (Tok t.CloseBrace) zs end → Fails factored tables braced xs end
    close_fails f = let q = taken open_brace in let p = taken r in Fails.second q.takes (Fails.second p.takes f)

    pub braced_read : {W : Type 0} {w : W} {end : List Lexeme} → Reads (Tok t.CloseBrace) IsAny zs end (Ok w) → Reads braced IsAggElements xs end (Ok es)
    braced_read c =
        let q = taken open_brace in
        let p = taken r in
        let d = taken c in
        Reads.ok (collected-append as_agg_element p.values (token d.makes.0 ∷ []) ∙ append-nil (collected as_agg_element p.values) ∙ p.makes)
        (Takes.seq (giving q.makes.1 q.takes) (Takes.seq p.takes (giving d.makes.1 d.takes)))

-- ---- functions

abbrev Sign : Rhs
Sign = Tok t.Count ∣ Tok t.Sum

pub count_read : {xs ys : List Lexeme} → IsNext t.Count xs ys → Reads Sign IsFunction xs ys (Ok functions.Count)
count_read n = Reads.ok (record { first = n.token; is = refl; function = rw n.kind refl }) (Takes.left (next_starts n) (next_takes n))

pub sum_read : {xs ms ys : List Lexeme} → (ms ≡ xs) × Lacks t.Count xs → IsNext t.Sum ms ys → Reads Sign IsFunction xs ys (Ok functions.Sum)
sum_read h n = rw h.0 at (sum_at (rw h.0 h.1) n)
  where
    sum_at : {ms ys : List Lexeme} → Lacks t.Count ms → IsNext t.Sum ms ys → Reads Sign IsFunction ms ys (Ok functions.Sum)
    sum_at h n = Reads.ok (record { first = n.token; is = refl; function = rw n.kind refl }) (Takes.right h (next_takes n))

pub no_function : {xs ms ys : List Lexeme} → (ms ≡ xs) × Lacks t.Count xs → (ys ≡ ms) × Lacks t.Sum ms → Reads Sign IsFunction xs ys (Err Syntax)
no_function {ms = ms} h g = Reads.syntax (Fails.right h.1 (fails_from h.0 (rw g.0 (fails_tok t.Sum ms g.1))))

-- where an aggregate does not begin it fails
pub aggregate_fails : (xs : List Lexeme) → NotStarts factored tables (call Name.Aggregate) xs → Fails factored tables (call Name.Aggregate) xs xs
aggregate_fails [] h = Fails.call (Fails.first (Fails.right tt Fails.tok_end))
aggregate_fails (x ∷ ts) h =
    let a = or_false _ _ h in
    let b = or_false _ _ a.1 in
    Fails.call (Fails.first (Fails.right a.0 (fails_tok t.Sum (x ∷ ts) b.0)))

-- ---- guards

guarding_is : {g : Option Guard} {vs : List Value} → IsOptionalGuard g vs → vs ≡ guarding g
guarding_is IsOptionalGuard.absent = refl
guarding_is IsOptionalGuard.present = refl

-- ---- aggregates

module _ {xs ys : List Lexeme} {f : Function} (r : Reads Sign IsFunction xs ys (Ok f)) where
  pub aggregate_braces_fail : {end : List Lexeme} → Fails factored tables braced ys end → Fails factored tables aggregate_form xs end
  aggregate_braces_fail g = let q = taken r in Fails.first (Fails.call (Fails.second q.takes g))

  module _ {zs : List Lexeme} {es : List AggElement} (b : Reads braced IsAggElements ys zs (Ok es)) where
    pub aggregate_guard_fails : {end : List Lexeme} → Fails factored tables (opt (call Name.RightGuard)) zs end → Fails factored tables aggregate_form xs end
    aggregate_guard_fails g = let q = taken r in let p = taken b in Fails.second (Takes.call (Takes.seq q.takes p.takes)) g

    pub aggregate_read : {end : List Lexeme} {right : Option Guard} → Reads (opt (call Name.RightGuard)) IsOptionalGuard zs end (Ok right) → Reads aggregate_form IsAggregate xs end (Ok (record { function = f; elements = es; right = right }))
    aggregate_read {right = right} g =
        let q = taken r in
        let p = taken b in
        let d = taken g in
        Reads.ok (record { first = q.makes.first; is = valued q.makes.first p.values q.makes.function p.makes })
        (Takes.seq (Takes.call (Takes.seq (giving q.makes.is q.takes) p.takes)) (giving (guarding_is d.makes) d.takes))
      where
        valued : (first : Lexeme) (vs : List Value) {f : Function} {es : List AggElement} → function_of first.terminal ≡ f → collected as_agg_element vs ≡ es → made Name.Aggregate (token first ∷ vs) ∷ guarding right ≡ aggregate first f es ∷ guarding right
        valued first vs e i = rw (e, i) refl
