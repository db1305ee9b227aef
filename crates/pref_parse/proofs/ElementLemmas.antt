-- What elements come to.
use Rattle.std.proofs.Common.{◌≡◌, ℕ, List, [], ◌∷◌, ◌++◌, Option, Some, None, Ok, Result, refl, sym, ◌∙◌, ap, append_assoc, append-nil}
use Rattle.grammar.specs.Form.{◌⨾◌, opt}
use Rattle.grammar.specs.Form.Form.{Tok, Empty}
use Rattle.grammar.specs.Takes.{Takes, Fails, Starts, NotStarts}
use Rattle.grammar.proofs.Loops.{Within, begun, one_more}
use Rattle.ap_syntax.specs.declared.terms.Literal.{Literal}
use Rattle.ap_syntax.specs.declared.preferences.Element.{Element}
use Rattle.ap_syntax.specs.declared.preferences.Ranked.{Ranked}
use Rattle.ap_grammar.specs.declared.terminals.Terminal.TheVariants as t
use Rattle.ap_grammar.specs.Lexemes.{Lexeme}
use Rattle.ap_grammar.specs.Values.{Value, as_condition, as_element, as_given, as_ranked, collected, found, or_empty}
use Rattle.ap_grammar.specs.Values.Value.{token, ranked}
use Rattle.ap_grammar.specs.Grammar.{Name, made}
use Rattle.ap_grammar.specs.Factored.{Rhs, call, many, factored}
use Rattle.ap_grammar.specs.Tables.{tables}
use Rattle.literal_parse.specs.declared.cursor.Place.{Place}
use Rattle.literal_parse.specs.declared.error.Stop.{Stop}
use Rattle.literal_parse.specs.Reads.{Reads, IsAny, IsNext, IsPlace, Lacks, Leads}
use Rattle.literal_parse.specs.Literals.{IsLiterals, IsOptionalCondition}
use Rattle.literal_parse.proofs.Steps.{taken, follow, giving, from, fails_from, fails_tok, next_starts, next_takes, not_seq, seq_starts}
use Rattle.literal_parse.proofs.Collects.{Collects, collected-append, collects_more, collects_fail, collects_end}
use Rattle.pref_parse.specs.Ranks.{IsRanked}
use Rattle.pref_parse.specs.Elements.{IsElement, IsElements, IsOptionalGiven, IsRanks, in_braces}
use Rattle.pref_parse.proofs.Choices.{chosen, option_fails}
use Rattle.pref_parse.proofs.Found.{found-append, none-append}
use Rattle.pref_parse.proofs.FormulaLemmas.{alone}

-- ---- ranks

abbrev pub RankItem : Rhs
RankItem = Tok t.Better ⨾ call Name.Ranked

-- the ranks so far
pub record Ranking (start here : List Lexeme) (before now : List Ranked) : Type 0 where
  pub values : List Value
  pub within : Within factored tables RankItem start here values
  pub grown : now ≡ before ++ collected as_ranked values
  pub no_given : found as_given values ≡ None
  pub no_domain : found as_condition values ≡ None

pub ranking_begun : (start : List Lexeme) (rs : List Ranked) → Ranking start start rs rs
ranking_begun start rs = record { values = []; within = begun factored tables RankItem start; grown = sym (append-nil rs); no_given = refl; no_domain = refl }

pub ranking_more : {start here mid end : List Lexeme} {before now : List Ranked} {r : Ranked} → Ranking start here before now → IsNext t.Better here mid → Reads (call Name.Ranked) (IsRanked mid) mid end (Ok r) → Ranking start end before (now ++ r ∷ [])
ranking_more {before = before} {r = r} k n d =
    let q = taken d in
    let vs = token n.token ∷ ranked q.makes.first r ∷ [] in
    record {
      values = k.values ++ vs;
      within = one_more k.within (Takes.seq (next_takes n) (giving q.makes.makes q.takes));
      grown = ap (λ ys. ys ++ r ∷ []) k.grown ∙ append_assoc before (collected as_ranked k.values) (r ∷ []) ∙ ap (λ ys. before ++ ys) (sym (collected-append as_ranked k.values vs));
      no_given = none-append as_given k.values vs k.no_given refl;
      no_domain = none-append as_condition k.values vs k.no_domain refl;
    }

module _ {xs start here : List Lexeme} {before now : List Ranked} {r : Ranked} (first : Reads (call Name.Ranked) (IsRanked xs) xs start (Ok r)) (k : Ranking start here before now) where
  pub ranks_fail : {mid end : List Lexeme} → IsNext t.Better here mid → Fails factored tables (call Name.Ranked) mid end → Fails factored tables (many (call Name.Ranked) t.Better) xs end
  ranks_fail {end = end} n f = let q = taken first in Fails.second q.takes (k.within.fails end (Fails.item (seq_starts (Tok t.Better) (call Name.Ranked) here (next_starts n)) (Fails.second (next_takes n) f)))

  ranks_made : {new : List Ranked} (first : Lexeme) (vs : List Value) → Leads xs first → new ≡ [] → before ≡ new ++ r ∷ [] → now ≡ before ++ collected as_ranked vs → found as_given vs ≡ None → found as_condition vs ≡ None → IsRanks xs now (ranked first r ∷ (vs ++ []))
  ranks_made first vs l e p g i j = rw append-nil (record { first = first; leads = l; begins = λ ws. refl; is = sym (g ∙ rw (p, e) refl); no_given = i; no_domain = j })

  pub ranks_end : {new : List Ranked} {end : List Lexeme} → new ≡ [] → before ≡ new ++ r ∷ [] → (end ≡ here) × Lacks t.Better here → Reads (many (call Name.Ranked) t.Better) (IsRanks xs) xs end (Ok now)
  ranks_end e p h =
      let q = taken first in
      Reads.ok (ranks_made q.makes.first k.values q.makes.leads e p k.grown k.no_given k.no_domain)
      (Takes.seq (giving q.makes.makes q.takes) (rw h.0 (k.within.takes here [] (Takes.none (not_seq (Tok t.Better) (call Name.Ranked) here refl h.1)))))

-- ---- what stands behind `||`

given_starts : {xs ms : List Lexeme} → IsNext t.Bars xs ms → Starts factored tables (call Name.Given) xs
given_starts n = rw (n.is, n.kind) refl

pub given_none : {xs ys : List Lexeme} → (ys ≡ xs) × Lacks t.Bars xs → Reads (opt (call Name.Given)) IsOptionalGiven xs ys (Ok None)
given_none {xs = xs} h = rw h.0 (Reads.ok IsOptionalGiven.absent (Takes.right (lacking xs h.1) Takes.empty))
  where
    lacking : (ts : List Lexeme) → Lacks t.Bars ts → NotStarts factored tables (call Name.Given) ts
    lacking [] n = tt
    lacking (x ∷ ts) n = rw n refl

pub given_fails : {xs ms ys : List Lexeme} → IsNext t.Bars xs ms → Fails factored tables (call Name.Ranked) ms ys → Fails factored tables (opt (call Name.Given)) xs ys
given_fails n f = Fails.left (given_starts n) (Fails.call (Fails.second (next_takes n) f))

pub given_read : {xs ms ys : List Lexeme} {r : Ranked} → IsNext t.Bars xs ms → Reads (call Name.Ranked) (IsRanked ms) ms ys (Ok r) → Reads (opt (call Name.Given)) IsOptionalGiven xs ys (Ok (Some r))
given_read n d = let q = taken d in Reads.ok IsOptionalGiven.present (Takes.left (given_starts n) (Takes.call (Takes.seq (next_takes n) (giving q.makes.makes q.takes))))

-- ---- domains

domain_starts : {xs ms : List Lexeme} → IsNext t.Colon xs ms → Starts factored tables (call Name.Domain) xs
domain_starts n = rw (n.is, n.kind) refl

pub domain_none : {xs ys : List Lexeme} {new : List Literal} → (ys ≡ xs) × Lacks t.Colon xs → new ≡ [] → Reads (opt (call Name.Domain)) IsOptionalCondition xs ys (Ok new)
domain_none {xs = xs} h e = rw (e, h.0) (Reads.ok IsOptionalCondition.absent (Takes.right (lacking xs h.1) Takes.empty))
  where
    lacking : (ts : List Lexeme) → Lacks t.Colon ts → NotStarts factored tables (call Name.Domain) ts
    lacking [] n = tt
    lacking (x ∷ ts) n = rw n refl

pub domain_reads : {xs ms ys : List Lexeme} {r : Result (List Literal) Stop} → IsNext t.Colon xs ms → Reads (call Name.Literals) IsLiterals ms ys r → Reads (opt (call Name.Domain)) IsOptionalCondition xs ys r
domain_reads n d = follow d
    (λ ls vs i s. (Value.condition ls ∷ [], IsOptionalCondition.present, Takes.left (domain_starts n) (Takes.call (Takes.seq (next_takes n) (giving i s)))))
    (λ f. Fails.left (domain_starts n) (Fails.call (Fails.second (next_takes n) f)))

-- ---- elements

module _ {xs ys : List Lexeme} {rs : List Ranked} (a : Reads (many (call Name.Ranked) t.Better) (IsRanks xs) xs ys (Ok rs)) where
  pub element_given_fails : {end : List Lexeme} → Fails factored tables (opt (call Name.Given)) ys end → Fails factored tables (call Name.Element) xs end
  element_given_fails f = let q = taken a in Fails.call (Fails.second q.takes (Fails.first f))

  module _ {zs : List Lexeme} {g : Option Ranked} (b : Reads (opt (call Name.Given)) IsOptionalGiven ys zs (Ok g)) where
    pub element_domain_fails : {end : List Lexeme} → Fails factored tables (opt (call Name.Domain)) zs end → Fails factored tables (call Name.Element) xs end
    element_domain_fails f = let q = taken a in let p = taken b in Fails.call (Fails.second q.takes (Fails.second p.takes f))

    same_element : {at at' : ℕ} {ranks ranks' : List Ranked} {given given' : Option Ranked} {domain domain' : List Literal} → at ≡ at' → ranks ≡ ranks' → given ≡ given' → domain ≡ domain' → Value.element (record { at = at; ranks = ranks; given = given; domain = domain }) ≡ Value.element (record { at = at'; ranks = ranks'; given = given'; domain = domain' })
    same_element e f h i = rw (e, f, h, i) refl

    no_ranks : {g : Option Ranked} {ls : List Literal} {gs ds : List Value} → IsOptionalGiven g gs → IsOptionalCondition ls ds → collected as_ranked (gs ++ ds) ≡ []
    no_ranks IsOptionalGiven.absent IsOptionalCondition.absent = refl
    no_ranks IsOptionalGiven.absent IsOptionalCondition.present = refl
    no_ranks IsOptionalGiven.present IsOptionalCondition.absent = refl
    no_ranks IsOptionalGiven.present IsOptionalCondition.present = refl

    the_given : {g : Option Ranked} {ls : List Literal} {gs ds : List Value} → IsOptionalGiven g gs → IsOptionalCondition ls ds → found as_given (gs ++ ds) ≡ g
    the_given IsOptionalGiven.absent IsOptionalCondition.absent = refl
    the_given IsOptionalGiven.absent IsOptionalCondition.present = refl
    the_given IsOptionalGiven.present IsOptionalCondition.absent = refl
    the_given IsOptionalGiven.present IsOptionalCondition.present = refl

    the_domain : {g : Option Ranked} {ls : List Literal} {gs ds : List Value} → IsOptionalGiven g gs → IsOptionalCondition ls ds → or_empty (found as_condition (gs ++ ds)) ≡ ls
    the_domain IsOptionalGiven.absent IsOptionalCondition.absent = refl
    the_domain IsOptionalGiven.absent IsOptionalCondition.present = refl
    the_domain IsOptionalGiven.present IsOptionalCondition.absent = refl
    the_domain IsOptionalGiven.present IsOptionalCondition.present = refl

    place_at : (xs : List Lexeme) (first : Lexeme) (p : Place) → Leads xs first → IsPlace xs p → first.at ≡ p.at
    place_at [] first p l i = absurd (absurd_leads l.is)
      where
        absurd_leads : {rest : List Lexeme} → [] ≡ first ∷ rest → ⊥
        absurd_leads e = cc
    place_at (x ∷ ts) first p l i = let e : x ≡ first = cc in rw e at (sym i.1)

    element_made : {ls : List Literal} {us gs ds : List Value} (p : Place) → IsRanks xs rs us → IsOptionalGiven g gs → IsOptionalCondition ls ds → IsPlace xs p → made Name.Element (us ++ (gs ++ ds)) ≡ Value.element (record { at = p.at; ranks = rs; given = g; domain = ls })
    element_made {us = us} {gs = gs} {ds = ds} p r h d i = same_element
        (ap (λ f. f.at) (r.begins (gs ++ ds)) ∙ place_at xs r.first p r.leads i)
        (collected-append as_ranked us (gs ++ ds) ∙ ap (λ l. collected as_ranked us ++ l) (no_ranks h d) ∙ append-nil (collected as_ranked us) ∙ r.is)
        (found-append as_given us (gs ++ ds) r.no_given ∙ the_given h d)
        (ap or_empty (found-append as_condition us (gs ++ ds) r.no_domain) ∙ the_domain h d)

    pub element_read : {end : List Lexeme} {ls : List Literal} (p : Place) → IsPlace xs p → Reads (opt (call Name.Domain)) IsOptionalCondition zs end (Ok ls) → Reads (call Name.Element) IsElement xs end (Ok (record { at = p.at; ranks = rs; given = g; domain = ls }))
    element_read p i d =
        let q = taken a in
        let o = taken b in
        let s = taken d in
        Reads.ok (alone (element_made p q.makes o.makes s.makes i)) (Takes.call (Takes.seq q.takes (Takes.seq o.takes s.takes)))

-- ---- rows of elements

abbrev pub ElementItem : Rhs
ElementItem = Tok t.Semicolon ⨾ call Name.Element

pub row_more : {start here mid end : List Lexeme} {before now : List Element} {e : Element} → Collects as_element ElementItem start here before now → IsNext t.Semicolon here mid → Reads (call Name.Element) IsElement mid end (Ok e) → Collects as_element ElementItem start end before (now ++ e ∷ [])
row_more {e = e} c n r = let q = taken r in collects_more e c (Takes.seq (next_takes n) (giving q.makes q.takes)) refl

module _ {xs start here : List Lexeme} {pushed now : List Element} {e : Element} (first : Reads (call Name.Element) IsElement xs start (Ok e)) (c : Collects as_element ElementItem start here pushed now) where
  pub row_fails : {mid end : List Lexeme} → IsNext t.Semicolon here mid → Fails factored tables (call Name.Element) mid end → Fails factored tables (many (call Name.Element) t.Semicolon) xs end
  row_fails n f = let q = taken first in Fails.second q.takes (collects_fail c (seq_starts (Tok t.Semicolon) (call Name.Element) here (next_starts n)) (Fails.second (next_takes n) f))

  pub row_end : {new : List Element} {end : List Lexeme} → new ≡ [] → pushed ≡ new ++ e ∷ [] → (end ≡ here) × Lacks t.Semicolon here → Reads (many (call Name.Element) t.Semicolon) IsElements xs end (Ok now)
  row_end n p h =
      let q = taken first in
      let w = collects_end c h.0 (not_seq (Tok t.Semicolon) (call Name.Element) here refl h.1) in
      Reads.ok {vs = Value.element e ∷ w.values} (joined w.values n p w.grown) (Takes.seq (giving q.makes q.takes) w.takes)
    where
      joined : (vs : List Value) {new pushed now : List Element} → new ≡ [] → pushed ≡ new ++ e ∷ [] → now ≡ pushed ++ collected as_element vs → e ∷ collected as_element vs ≡ now
      joined vs n p g = sym (rw (p, n) at g)

-- ---- in braces

abbrev Row : Rhs
Row = many (call Name.Element) t.Semicolon

module _ {U : Type 0} {u : U} {xs ms : List Lexeme} (o : Reads (Tok t.OpenBrace) IsAny xs ms (Ok u)) where
  pub braces_empty : {ys : List Lexeme} {new : List Element} → IsNext t.CloseBrace ms ys → new ≡ [] → Reads in_braces IsElements xs ys (Ok new)
  braces_empty n e = let q = taken o in rw e (Reads.ok {vs = token q.makes.0 ∷ token n.token ∷ []} refl (Takes.seq (giving q.makes.1 q.takes) (Takes.seq (Takes.right (no_row n) Takes.empty) (next_takes n))))
    where
      no_row : {ms ys : List Lexeme} → IsNext t.CloseBrace ms ys → NotStarts factored tables Row ms
      no_row n = rw (n.is, n.kind) refl

  pub braces_row_fails : {ns ys : List Lexeme} → (ns ≡ ms) × Lacks t.CloseBrace ms → Fails factored tables Row ns ys → Fails factored tables in_braces xs ys
  braces_row_fails h f = let q = taken o in Fails.second q.takes (option_fails Row (Tok t.CloseBrace) ms (fails_from h.0 f) (λ n. fails_tok t.CloseBrace ms h.1))

  module _ {ns ys : List Lexeme} {es : List Element} (h : (ns ≡ ms) × Lacks t.CloseBrace ms) (r : Reads Row IsElements ns ys (Ok es)) where
    pub braces_close_fails : {end : List Lexeme} → Fails factored tables (Tok t.CloseBrace) ys end → Fails factored tables in_braces xs end
    braces_close_fails f = let q = taken o in let p = taken r in Fails.second q.takes (Fails.second (chosen Empty refl (from h.0 p.takes)) f)

    pub braces_read : {V : Type 0} {v : V} {end : List Lexeme} → Reads (Tok t.CloseBrace) IsAny ys end (Ok v) → Reads in_braces IsElements xs end (Ok es)
    braces_read c =
        let q = taken o in
        let p = taken r in
        let s = taken c in
        Reads.ok {vs = token q.makes.0 ∷ (p.values ++ token s.makes.0 ∷ [])} (collected-append as_element p.values (token s.makes.0 ∷ []) ∙ append-nil (collected as_element p.values) ∙ p.makes)
        (Takes.seq (giving q.makes.1 q.takes) (Takes.seq (chosen Empty refl (from h.0 p.takes)) (giving s.makes.1 s.takes)))
