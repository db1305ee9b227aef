-- How the rest of a term and the rest of a formula begin.
use Rattle.std.proofs.Common.{◌≡◌, List, [], ◌∷◌, ◌++◌, Bool, true, false, None, refl, sym, ◌∙◌, ap, append_assoc, append-nil}
use Rattle.grammar.specs.Form.{◌⨾◌, opt}
use Rattle.grammar.specs.Form.Form.{Tok, Star}
use Rattle.grammar.specs.Takes.{Takes, Fails, Starts, NotStarts}
use Rattle.grammar.proofs.Laws.{both}
use Rattle.ap_syntax.specs.declared.terms.Atom.{Atom}
use Rattle.ap_syntax.specs.declared.terms.Term.{Term}
use Rattle.ap_syntax.specs.declared.preferences.Formula.{Formula}
use Rattle.ap_syntax.specs.declared.preferences.Formula.TheVariants as formulas
use Rattle.ap_grammar.specs.declared.terminals.Terminal.{Terminal}
use Rattle.ap_grammar.specs.declared.terminals.Terminal.TheVariants as t
use Rattle.ap_grammar.specs.Lexemes.{Lexeme}
use Rattle.ap_grammar.specs.Values.{Value}
use Rattle.ap_grammar.specs.Values.Value.{term, formula}
use Rattle.ap_grammar.specs.Grammar.{Name, conjunction_of, disjunction_of}
use Rattle.ap_grammar.specs.Factored.{Rhs, call, factored, factor, summand, range, term_rest, term_more, formula_rest, formula_from, joined_by, is_or, mixed_made}
use Rattle.std.specs.Bool.{beq}
use Rattle.ap_grammar.specs.Tables.{tables}
use Rattle.literal_parse.proofs.Steps.{giving, not_seq, seq_starts}
use Rattle.pref_parse.specs.Formulas.{IsFormulaRest, Joins}
use Rattle.pref_parse.specs.Operators.{Operates}
use Rattle.pref_parse.proofs.Choices.{taken_starts}
use Rattle.pref_parse.proofs.OperatorLemmas.{operates_from}

-- ---- what is not empty

not_empty : (us : List Value) (v : Value) (ws : List Value) → us ++ v ∷ ws ≡ [] → ⊥
not_empty [] v ws e = cc
not_empty (u ∷ us) v ws e = cc

front_empty : (us ws : List Value) → us ++ ws ≡ [] → us ≡ []
front_empty [] ws e = refl
front_empty (u ∷ us) ws e = absurd (cc)

-- a part that ends with a rule has a value
item_some : {a : Rhs} {n : Name} {xs ys : List Lexeme} {vs : List Value} → Takes factored tables (a ⨾ call n) xs ys vs → vs ≡ [] → ⊥
item_some (Takes.seq {us = us} d (Takes.call e)) h = not_empty us _ _ h

-- ---- the rest of a term that begins

at_factor : (xs : List Lexeme) → Starts factored tables factor xs → Starts factored tables (factor ⨾ term_rest) xs
at_factor xs s = seq_starts factor term_rest xs s

at_summand : (xs : List Lexeme) → Starts factored tables summand xs → Starts factored tables (summand ⨾ Star summand ⨾ opt range) xs
at_summand xs s = seq_starts summand (Star summand ⨾ opt range) xs s

no_factor : (xs : List Lexeme) → NotStarts factored tables factor xs → NotStarts factored tables (factor ⨾ term_rest) xs
no_factor xs h = not_seq factor term_rest xs refl h

no_summand : (xs : List Lexeme) → NotStarts factored tables summand xs → NotStarts factored tables (summand ⨾ Star summand ⨾ opt range) xs
no_summand xs h = not_seq summand (Star summand ⨾ opt range) xs refl h

none_of : (xs : List Lexeme) → Starts factored tables term_more xs → NotStarts factored tables factor xs → NotStarts factored tables summand xs → NotStarts factored tables range xs → ⊥
none_of [] s h i j = s
none_of (x ∷ ts) s h i j = both _ s (rw (no_factor (x ∷ ts) h, no_summand (x ∷ ts) i, j) refl)

pub more_takes : {xs ys : List Lexeme} {vs : List Value} → Starts factored tables term_more xs → Takes factored tables term_rest xs ys vs → Takes factored tables term_more xs ys vs
more_takes s (Takes.seq (Takes.more {xs = xs} {us = us} {vs = vs} d e) (Takes.seq {us = ms} {vs = ws} f g)) = giving (sym (append_assoc us vs (ms ++ ws))) (Takes.left (at_factor xs (taken_starts refl d)) (Takes.seq d (Takes.seq e (Takes.seq f g))))
more_takes s (Takes.seq (Takes.none {xs = xs} h) (Takes.seq {vs = ws} (Takes.more {us = us} {vs = vs} d e) g)) = giving (sym (append_assoc us vs ws)) (Takes.right (no_factor xs h) (Takes.left (at_summand xs (taken_starts refl d)) (Takes.seq d (Takes.seq e g))))
more_takes s (Takes.seq (Takes.none {xs = xs} h) (Takes.seq (Takes.none i) (Takes.left j d))) = Takes.right (no_factor xs h) (Takes.right (no_summand xs i) d)
more_takes s (Takes.seq (Takes.none {xs = xs} h) (Takes.seq (Takes.none i) (Takes.right j d))) = absurd (none_of xs s h i j)

pub more_fails : {xs ys : List Lexeme} → Starts factored tables term_more xs → Fails factored tables term_rest xs ys → Fails factored tables term_more xs ys
more_fails s (Fails.first (Fails.item {xs = xs} i f)) = Fails.left (at_factor xs i) (Fails.first f)
more_fails s (Fails.first (Fails.later {xs = xs} d f)) = Fails.left (at_factor xs (taken_starts refl d)) (Fails.second d (Fails.first f))
more_fails s (Fails.second (Takes.more {xs = xs} d e) f) = Fails.left (at_factor xs (taken_starts refl d)) (Fails.second d (Fails.second e f))
more_fails s (Fails.second (Takes.none {xs = xs} h) (Fails.first (Fails.item i f))) = Fails.right (no_factor xs h) (Fails.left (at_summand xs i) (Fails.first f))
more_fails s (Fails.second (Takes.none {xs = xs} h) (Fails.first (Fails.later d f))) = Fails.right (no_factor xs h) (Fails.left (at_summand xs (taken_starts refl d)) (Fails.second d (Fails.first f)))
more_fails s (Fails.second (Takes.none {xs = xs} h) (Fails.second (Takes.more d e) f)) = Fails.right (no_factor xs h) (Fails.left (at_summand xs (taken_starts refl d)) (Fails.second d (Fails.second e f)))
more_fails s (Fails.second (Takes.none {xs = xs} h) (Fails.second (Takes.none i) (Fails.left j f))) = Fails.right (no_factor xs h) (Fails.right (no_summand xs i) f)
more_fails s (Fails.second (Takes.none {xs = xs} h) (Fails.second (Takes.none i) (Fails.right j f))) = absurd (none_of xs s h i j)

pub more_some : {xs ys : List Lexeme} {vs : List Value} → Takes factored tables term_more xs ys vs → vs ≡ [] → ⊥
more_some (Takes.left s (Takes.seq {us = us} {vs = vs} d e)) h = item_some d (front_empty us vs h)
more_some (Takes.right n (Takes.left s (Takes.seq {us = us} {vs = vs} d e))) h = item_some d (front_empty us vs h)
more_some (Takes.right n (Takes.right m d)) h = item_some d h

pub term_goes : {x z : Term} {vs : List Value} (first : Lexeme) → Operates x z vs → mixed_made (term first None x ∷ vs) ≡ term first None z
term_goes first Operates.none = refl
term_goes first (Operates.more o) = operates_from first o

pub either_operated : {x z : Term} {vs : List Value} (first : Lexeme) (a : Atom) → Operates x z vs → (vs ≡ [] → ⊥) → mixed_made (Value.either first a x ∷ vs) ≡ term first None z
either_operated first a Operates.none h = absurd (h refl)
either_operated first a (Operates.more o) h = operates_from first o

-- ---- the rest of a formula that begins

pub rest_some : {xs ys : List Lexeme} {vs : List Value} → Starts factored tables formula_rest xs → Takes factored tables formula_rest xs ys vs → vs ≡ [] → ⊥
rest_some s (Takes.seq {vs = ws} (Takes.more {us = us} {vs = vs} d e) f) h = item_some d (front_empty us vs (front_empty (us ++ vs) ws h))
rest_some s (Takes.seq (Takes.none i) (Takes.more {us = us} {vs = vs} d e)) h = item_some d (front_empty us vs h)
rest_some s (Takes.seq (Takes.none {xs = xs} i) (Takes.none j)) h = neither xs s i j
  where
    neither : (xs : List Lexeme) → Starts factored tables formula_rest xs → NotStarts factored tables (Tok t.And ⨾ call Name.Member) xs → NotStarts factored tables (Tok t.Or ⨾ call Name.Conjunction) xs → ⊥
    neither [] s i j = s
    neither (x ∷ ts) s i j = both _ s (rw (i, j) refl)

-- those behind signs of the kind, and those behind others
kept : (bar : Bool) {k : Terminal} {us : List Value} {fs : List Formula} (ws : List Value) → beq bar (is_or k) ≡ true → Joins k us fs → joined_by bar (us ++ ws) ≡ fs ++ joined_by bar ws
kept bar ws h Joins.none = refl
kept bar ws h (Joins.more {f = f} e j) = rw (e, h) (ap (λ fs. f ∷ fs) (kept bar ws h j))

left_out : (bar : Bool) {k : Terminal} {us : List Value} {fs : List Formula} (ws : List Value) → beq bar (is_or k) ≡ false → Joins k us fs → joined_by bar (us ++ ws) ≡ joined_by bar ws
left_out bar ws h Joins.none = refl
left_out bar ws h (Joins.more e j) = rw (e, h) (left_out bar ws h j)

none_joined : (bar : Bool) {k : Terminal} (ws : List Value) {gs : List Formula} → beq bar (is_or k) ≡ false → Joins k ws gs → joined_by bar ws ≡ []
none_joined bar ws h j = ap (joined_by bar) (sym (append-nil ws)) ∙ left_out bar [] h j

all_joined : (bar : Bool) {k : Terminal} (ws : List Value) {gs : List Formula} → beq bar (is_or k) ≡ true → Joins k ws gs → joined_by bar ws ≡ gs
all_joined bar ws {gs = gs} h j = ap (joined_by bar) (sym (append-nil ws)) ∙ kept bar [] h j ∙ append-nil gs

joined_and : {us ws : List Value} {fs gs : List Formula} → Joins t.And us fs → Joins t.Or ws gs → joined_by false (us ++ ws) ≡ fs
joined_and {ws = ws} {fs = fs} i j = kept false ws refl i ∙ ap (λ l. fs ++ l) (none_joined false ws refl j) ∙ append-nil fs

joined_or : {us ws : List Value} {fs gs : List Formula} → Joins t.And us fs → Joins t.Or ws gs → joined_by true (us ++ ws) ≡ gs
joined_or {ws = ws} i j = left_out true ws refl i ∙ all_joined true ws refl j

from_parts : {us ws : List Value} {fs gs : List Formula} {m g : Formula} (f : Formula) (first : Lexeme) → Joins t.And us fs → Joins t.Or ws gs → m ≡ conjunction_of (f ∷ fs) → g ≡ disjunction_of (m ∷ gs) → formula_from first f (us ++ ws) ≡ formula first g
from_parts {gs = gs} f first i j e h = rw (joined_and i j, joined_or i j) (ap (formula first) (ap (λ k. disjunction_of (k ∷ gs)) (sym e) ∙ sym h))

pub formula_goes : {f g : Formula} {vs : List Value} (first : Lexeme) → IsFormulaRest f g vs → mixed_made (formula first f ∷ vs) ≡ formula first g
formula_goes first r = rw r.is (from_parts _ first r.conjunction.values r.disjunction.values r.conjunction.is r.disjunction.is)

joined_some : {us ws : List Value} {fs gs : List Formula} (first : Lexeme) (a : Atom) (x : Term) → Joins t.And us fs → Joins t.Or ws gs → (us ++ ws ≡ [] → ⊥) → mixed_made (Value.either first a x ∷ (us ++ ws)) ≡ formula_from first (formulas.Atom a) (us ++ ws)
joined_some first a x Joins.none Joins.none h = absurd (h refl)
joined_some first a x Joins.none (Joins.more e j) h = refl
joined_some first a x (Joins.more e i) j h = refl

pub either_joined : {g : Formula} {vs : List Value} (first : Lexeme) (a : Atom) (x : Term) → IsFormulaRest (formulas.Atom a) g vs → (vs ≡ [] → ⊥) → mixed_made (Value.either first a x ∷ vs) ≡ formula first g
either_joined first a x r h = rw r.is (joined_some first a x r.conjunction.values r.disjunction.values (λ e. h (r.is ∙ e)) ∙ from_parts _ first r.conjunction.values r.disjunction.values r.conjunction.is r.disjunction.is)
