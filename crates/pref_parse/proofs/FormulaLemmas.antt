-- What formulas come to.
use Rattle.std.proofs.Common.{◌≡◌, List, [], ◌∷◌, ◌++◌, Ok, Result, refl, sym, ◌∙◌, ap, append_assoc, append-nil}
use Rattle.grammar.specs.Form.{◌⨾◌}
use Rattle.grammar.specs.Form.Form.{Tok, Star}
use Rattle.grammar.specs.Takes.{Takes, Fails, NotStarts}
use Rattle.grammar.proofs.Loops.{Within, begun, one_more}
use Rattle.ap_syntax.specs.declared.terms.Atom.{Atom}
use Rattle.ap_syntax.specs.declared.preferences.Formula.{Formula}
use Rattle.ap_syntax.specs.declared.preferences.Formula.TheVariants as formulas
use Rattle.ap_grammar.specs.declared.terminals.Terminal.{Terminal}
use Rattle.ap_grammar.specs.declared.terminals.Terminal.TheVariants as t
use Rattle.ap_grammar.specs.Lexemes.{Lexeme}
use Rattle.ap_grammar.specs.Values.{Value, as_formula, collected}
use Rattle.ap_grammar.specs.Values.Value.{token, formula}
use Rattle.ap_grammar.specs.Grammar.{Name, made, member, conjunction_of, disjunction_of}
use Rattle.ap_grammar.specs.Factored.{Rhs, call, factored, formula_rest}
use Rattle.ap_grammar.specs.Tables.{tables}
use Rattle.literal_parse.specs.declared.error.Stop.{Stop}
use Rattle.literal_parse.specs.Reads.{Reads, IsAny, IsNext, Lacks, Leads}
use Rattle.literal_parse.specs.Literals.{IsAtom}
use Rattle.literal_parse.proofs.Steps.{taken, follow, giving, from, fails_from, fails_tok, next_starts, next_takes, not_seq, seq_starts}
use Rattle.pref_parse.specs.Formulas.{IsConjunction, IsDisjunction, IsFormula, IsFormulaRest, IsJoined, IsUnit, Joins, unit}
use Rattle.pref_parse.proofs.Choices.{chosen, choice_fails}

pub alone : {v w : Value} → v ≡ w → v ∷ [] ≡ w ∷ []
alone e = ap (λ v. v ∷ []) e

-- ---- formulas behind signs

pub joins_all : {k : Terminal} {us vs : List Value} {fs gs : List Formula} → Joins k us fs → Joins k vs gs → Joins k (us ++ vs) (fs ++ gs)
joins_all Joins.none j = j
joins_all (Joins.more e i) j = Joins.more e (joins_all i j)

pub joins_collected : {k : Terminal} {vs : List Value} {fs : List Formula} → Joins k vs fs → collected as_formula vs ≡ fs
joins_collected Joins.none = refl
joins_collected (Joins.more {f = f} e j) = ap (λ fs. f ∷ fs) (joins_collected j)

abbrev pub joined_item : Terminal → Name → Rhs
joined_item k n = Tok k ⨾ call n

-- the formulas so far, each behind its sign
pub record Joining (k : Terminal) (n : Name) (start here : List Lexeme) (before now : List Formula) : Type 0 where
  pub values : List Value
  pub others : List Formula
  pub within : Within factored tables (joined_item k n) start here values
  pub joins : Joins k values others
  pub grown : now ≡ before ++ others

pub joining_begun : (k : Terminal) (n : Name) (start : List Lexeme) (fs : List Formula) → Joining k n start start fs fs
joining_begun k n start fs = record { values = []; others = []; within = begun factored tables (joined_item k n) start; joins = Joins.none; grown = sym (append-nil fs) }

pub joining_more : {k : Terminal} {n : Name} {start here mid end : List Lexeme} {before now : List Formula} {f : Formula} → Joining k n start here before now → IsNext k here mid → Reads (call n) (IsFormula mid) mid end (Ok f) → Joining k n start end before (now ++ f ∷ [])
joining_more {before = before} {f = f} j s r =
    let q = taken r in
    record {
      values = j.values ++ (token s.token ∷ formula q.makes.first f ∷ []);
      others = j.others ++ f ∷ [];
      within = one_more j.within (Takes.seq (next_takes s) (giving q.makes.makes q.takes));
      joins = joins_all j.joins (Joins.more s.kind Joins.none);
      grown = ap (λ fs. fs ++ f ∷ []) j.grown ∙ append_assoc before j.others (f ∷ []);
    }

pub joining_fails : {k : Terminal} {n : Name} {start here mid end : List Lexeme} {before now : List Formula} → Joining k n start here before now → IsNext k here mid → Fails factored tables (call n) mid end → Fails factored tables (Star (joined_item k n)) start end
joining_fails {k = k} {n = n} {here = here} {end = end} j s f = j.within.fails end (Fails.item (seq_starts (Tok k) (call n) here (next_starts s)) (Fails.second (next_takes s) f))

pub joining_end : {k : Terminal} {n : Name} {start here end : List Lexeme} {new before now : List Formula} {join : List Formula → Formula} {first f : Formula} → Joining k n start here before now → new ≡ [] → before ≡ new ++ first ∷ [] → (end ≡ here) × Lacks k here → f ≡ join now → Reads (Star (joined_item k n)) (IsJoined k join first) start end (Ok f)
joining_end {k = k} {n = n} {here = here} {join = join} j e p h i =
    Reads.ok (record { others = j.others; values = rest j.joins; is = i ∙ ap join (whole e p j.grown) })
    (rw h.0 (j.within.takes here [] (Takes.none (not_seq (Tok k) (call n) here refl h.1))))
  where
    rest : {vs : List Value} {fs : List Formula} → Joins k vs fs → Joins k (vs ++ []) fs
    rest {vs = vs} i = rw append-nil i

    whole : {new before now others : List Formula} {first : Formula} → new ≡ [] → before ≡ new ++ first ∷ [] → now ≡ before ++ others → now ≡ first ∷ others
    whole e p g = g ∙ rw (p, e) refl

-- ---- formulas and conjunctions

pub formula_reads : {xs ys zs : List Lexeme} {first : Formula} {r : Result Formula Stop} → Reads (call Name.Conjunction) (IsFormula xs) xs ys (Ok first) → Reads (Star (joined_item t.Or Name.Conjunction)) (IsDisjunction first) ys zs r → Reads (call Name.Formula) (IsFormula xs) xs zs r
formula_reads {first = first} a s =
    let q = taken a in
    follow s
    (λ f vs i d. (
      formula q.makes.first f ∷ [],
      record { first = q.makes.first; leads = q.makes.leads; makes = refl },
      giving (alone (ap (formula q.makes.first) (ap (λ fs. disjunction_of (first ∷ fs)) (joins_collected i.values) ∙ sym i.is))) (Takes.call (Takes.seq (giving q.makes.makes q.takes) d)),
    ))
    (λ e. Fails.call (Fails.second q.takes e))

pub conjunction_reads : {xs ys zs : List Lexeme} {first : Formula} {r : Result Formula Stop} → Reads (call Name.Member) (IsFormula xs) xs ys (Ok first) → Reads (Star (joined_item t.And Name.Member)) (IsConjunction first) ys zs r → Reads (call Name.Conjunction) (IsFormula xs) xs zs r
conjunction_reads {first = first} a s =
    let q = taken a in
    follow s
    (λ f vs i d. (
      formula q.makes.first f ∷ [],
      record { first = q.makes.first; leads = q.makes.leads; makes = refl },
      giving (alone (ap (formula q.makes.first) (ap (λ fs. conjunction_of (first ∷ fs)) (joins_collected i.values) ∙ sym i.is))) (Takes.call (Takes.seq (giving q.makes.makes q.takes) d)),
    ))
    (λ e. Fails.call (Fails.second q.takes e))

-- ---- members

pub member_negated_fails : {xs ms ys : List Lexeme} → IsNext t.Not xs ms → Fails factored tables unit ms ys → Fails factored tables (call Name.Member) xs ys
member_negated_fails n f = Fails.call (Fails.second (Takes.left (next_starts n) (next_takes n)) f)

pub negated_made : {old : List Lexeme} {f : Formula} {vs : List Value} (first : Lexeme) → IsUnit old f vs → member first vs ≡ formula first (formulas.Not f)
negated_made first (IsUnit.atom l) = refl
negated_made first (IsUnit.group l) = refl

pub member_negated : {xs ms ys : List Lexeme} {f : Formula} → IsNext t.Not xs ms → Reads unit (IsUnit ms) ms ys (Ok f) → Reads (call Name.Member) (IsFormula xs) xs ys (Ok (formulas.Not f))
member_negated {ms = ms} n r =
    let q = taken r in
    Reads.ok (record { first = n.token; leads = record { rest = ms; is = n.is }; makes = alone (negated_made n.token q.makes) })
    (Takes.call (Takes.seq (Takes.left (next_starts n) (next_takes n)) q.takes))

plain_made : {old : List Lexeme} {f : Formula} {vs : List Value} → IsUnit old f vs → (first : Lexeme) × Leads old first × (made Name.Member vs ≡ formula first f)
plain_made (IsUnit.atom {first = first} l) = (first, l, refl)
plain_made (IsUnit.group {paren = paren} l) = (paren, l, refl)

pub member_plain : {xs ms ys : List Lexeme} {r : Result Formula Stop} → (ms ≡ xs) × Lacks t.Not xs → Reads unit (IsUnit ms) ms ys r → Reads (call Name.Member) (IsFormula xs) xs ys r
member_plain h r = rw h.0 at (plain (rw h.0 h.1) r)
  where
    plain : {ms ys : List Lexeme} {r : Result Formula Stop} → Lacks t.Not ms → Reads unit (IsUnit ms) ms ys r → Reads (call Name.Member) (IsFormula ms) ms ys r
    plain h r = follow r
        (λ f vs i d. let m = plain_made i in (formula m.0 f ∷ [], record { first = m.0; leads = m.1; makes = refl }, giving (alone m.2) (Takes.call (Takes.seq (Takes.right h Takes.empty) d))))
        (λ e. Fails.call (Fails.second (Takes.right h Takes.empty) e))

-- ---- atoms, and formulas in parentheses

abbrev Enclosed : Rhs
Enclosed = Tok t.Open ⨾ call Name.Formula ⨾ Tok t.Close

pub unit_atom_fails : {xs ms ys : List Lexeme} → (ms ≡ xs) × Lacks t.Open xs → Fails factored tables (call Name.Atom) ms ys → Fails factored tables unit xs ys
unit_atom_fails {xs = xs} h f = choice_fails (call Name.Atom) Enclosed xs (fails_from h.0 f) (λ n. Fails.first (fails_tok t.Open xs h.1))

pub unit_atom : {xs ms ys : List Lexeme} {a : Atom} → (ms ≡ xs) × Lacks t.Open xs → Reads (call Name.Atom) (IsAtom ms) ms ys (Ok a) → Reads unit (IsUnit xs) xs ys (Ok (formulas.Atom a))
unit_atom h r =
    let q = taken r in
    Reads.ok (IsUnit.atom (record { rest = q.makes.leads.rest; is = sym h.0 ∙ q.makes.leads.is })) (chosen Enclosed refl (from h.0 (giving q.makes.makes q.takes)))

no_atom : {xs ms : List Lexeme} → IsNext t.Open xs ms → NotStarts factored tables (call Name.Atom) xs
no_atom n = rw (n.is, n.kind) refl

pub unit_formula_fails : {xs ms ys : List Lexeme} → IsNext t.Open xs ms → Fails factored tables (call Name.Formula) ms ys → Fails factored tables unit xs ys
unit_formula_fails n f = Fails.right (no_atom n) (Fails.second (next_takes n) (Fails.first f))

module _ {xs ms ys : List Lexeme} {f : Formula} (n : IsNext t.Open xs ms) (r : Reads (call Name.Formula) (IsFormula ms) ms ys (Ok f)) where
  pub unit_close_fails : {end : List Lexeme} → Fails factored tables (Tok t.Close) ys end → Fails factored tables unit xs end
  unit_close_fails g = let q = taken r in Fails.right (no_atom n) (Fails.second (next_takes n) (Fails.second q.takes g))

  pub unit_formula : {U : Type 0} {u : U} {end : List Lexeme} → Reads (Tok t.Close) IsAny ys end (Ok u) → Reads unit (IsUnit xs) xs end (Ok f)
  unit_formula c =
      let q = taken r in
      let p = taken c in
      Reads.ok (IsUnit.group (record { rest = ms; is = n.is })) (Takes.right (no_atom n) (Takes.seq (next_takes n) (Takes.seq (giving q.makes.makes q.takes) (giving p.makes.1 p.takes))))

-- ---- the rest of a formula

pub rest_reads : {xs ys zs : List Lexeme} {f g : Formula} {r : Result Formula Stop} → Reads (Star (joined_item t.And Name.Member)) (IsConjunction f) xs ys (Ok g) → Reads (Star (joined_item t.Or Name.Conjunction)) (IsDisjunction g) ys zs r → Reads formula_rest (IsFormulaRest f) xs zs r
rest_reads {g = g} a s =
    let q = taken a in
    follow s
    (λ h vs i d. (q.values ++ vs, record { middle = g; members = q.values; conjunctions = vs; is = refl; conjunction = q.makes; disjunction = i }, Takes.seq q.takes d))
    (λ e. Fails.second q.takes e)
