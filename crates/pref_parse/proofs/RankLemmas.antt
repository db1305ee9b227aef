-- What ranks come to.
use Rattle.std.proofs.Common.{◌≡◌, ℕ, List, [], ◌∷◌, ◌++◌, None, Ok, Result, refl, sym, ◌∙◌, ap, append_assoc, append-nil}
use Rattle.grammar.specs.Form.{◌⨾◌, opt}
use Rattle.grammar.specs.Form.Form.{Tok, Star, Call}
use Rattle.grammar.specs.Takes.{Takes, Fails, Starts, NotStarts}
use Rattle.grammar.proofs.Loops.{Within, begun, one_more}
use Rattle.ap_syntax.specs.declared.terms.Atom.{Atom}
use Rattle.ap_syntax.specs.declared.terms.Term.{Term}
use Rattle.ap_syntax.specs.declared.preferences.Formula.{Formula}
use Rattle.ap_syntax.specs.declared.preferences.Formula.TheVariants as formulas
use Rattle.ap_syntax.specs.declared.preferences.Ranked.{Ranked}
use Rattle.ap_syntax.specs.declared.preferences.Target.{Target}
use Rattle.ap_syntax.specs.declared.preferences.Target.TheVariants as targets
use Rattle.ap_grammar.specs.declared.terminals.Terminal.TheVariants as t
use Rattle.ap_grammar.specs.Lexemes.{Lexeme}
use Rattle.ap_grammar.specs.Values.{Value, Class, as_target, as_term, collected, found}
use Rattle.ap_grammar.specs.Values.Value.{token, ranked}
use Rattle.ap_grammar.specs.Grammar.{Name}
use Rattle.ap_grammar.specs.Factored.{Part, Rhs, call, factored, ranked_behind, weights_rest}
use Rattle.ap_grammar.specs.Tables.{tables}
use Rattle.literal_parse.specs.declared.error.Stop.{Stop}
use Rattle.literal_parse.specs.declared.operand.Operand.{Operand}
use Rattle.literal_parse.specs.declared.operand.Operand.TheVariants.{Bare}
use Rattle.literal_parse.specs.declared.operand.Operand.TheVariants as operands
use Rattle.literal_parse.specs.Reads.{Reads, IsAny, IsName, IsNext, Lacks}
use Rattle.literal_parse.specs.Operands.{IsOperand, term_of, tree_of}
use Rattle.literal_parse.specs.Operands as operand
use Rattle.literal_parse.proofs.Steps.{taken, follow, giving, from, fails_from, fails_tok, next_starts, next_takes, not_seq, seq_starts}
use Rattle.literal_parse.proofs.Collects.{collected-append}
use Rattle.pref_parse.specs.declared.mixed.Mixed.{Mixed}
use Rattle.pref_parse.specs.declared.mixed.Mixed.TheVariants.{Formed, Other}
use Rattle.pref_parse.specs.Formulas.{IsFormula}
use Rattle.pref_parse.specs.Mixed.{IsMixed, class_of, either}
use Rattle.pref_parse.specs.Ranks.{IsRanked, IsRankedRest, IsTarget, IsWeighed, IsWeights, weight_item}
use Rattle.pref_parse.proofs.Choices.{chosen, choice_fails}
use Rattle.pref_parse.proofs.Found.{found-append, none-append}
use Rattle.pref_parse.proofs.FormulaLemmas.{alone}
use Rattle.pref_parse.proofs.MixedLemmas.{then_takes, then_fails}

-- ---- weights

-- the weights so far
pub record Weighing (start here : List Lexeme) (before now : List Term) : Type 0 where
  pub values : List Value
  pub within : Within factored tables weight_item start here values
  pub grown : now ≡ before ++ collected as_term values
  pub none : found as_target values ≡ None

pub weighing_begun : (start : List Lexeme) (xs : List Term) → Weighing start start xs xs
weighing_begun start xs = record { values = []; within = begun factored tables weight_item start; grown = sym (append-nil xs); none = refl }

weight_picked : (sign first : Lexeme) (x : Operand) → collected as_term (token sign ∷ operand.value_of first x ∷ []) ≡ tree_of x ∷ []
weight_picked sign first (operands.Bare a) = refl
weight_picked sign first (operands.Other y) = refl

no_target : (sign first : Lexeme) (x : Operand) → found as_target (token sign ∷ operand.value_of first x ∷ []) ≡ None
no_target sign first (operands.Bare a) = refl
no_target sign first (operands.Other y) = refl

pub weighing_more : {start here mid end : List Lexeme} {before now : List Term} {x : Operand} → Weighing start here before now → IsNext t.Comma here mid → Reads (call Name.Term) (IsOperand mid) mid end (Ok x) → Weighing start end before (now ++ tree_of x ∷ [])
weighing_more {before = before} {x = x} w n r =
    let q = taken r in
    let vs = token n.token ∷ operand.value_of q.makes.first x ∷ [] in
    record {
      values = w.values ++ vs;
      within = one_more w.within (Takes.seq (next_takes n) (giving q.makes.is q.takes));
      grown = ap (λ ys. ys ++ tree_of x ∷ []) w.grown ∙ append_assoc before (collected as_term w.values) (tree_of x ∷ []) ∙ ap (λ ys. before ++ ys) (ap (λ ys. collected as_term w.values ++ ys) (sym (weight_picked n.token q.makes.first x)) ∙ sym (collected-append as_term w.values vs));
      none = none-append as_target w.values vs w.none (no_target n.token q.makes.first x);
    }

pub weighing_fails : {start here mid end : List Lexeme} {before now : List Term} → Weighing start here before now → IsNext t.Comma here mid → Fails factored tables (call Name.Term) mid end → Fails factored tables (Star weight_item) start end
weighing_fails {here = here} {end = end} w n f = w.within.fails end (Fails.item (seq_starts (Tok t.Comma) (call Name.Term) here (next_starts n)) (Fails.second (next_takes n) f))

pub weighing_end : {start here end : List Lexeme} {new before now : List Term} {first : Term} → Weighing start here before now → new ≡ [] → before ≡ new ++ first ∷ [] → (end ≡ here) × Lacks t.Comma here → Reads (Star weight_item) (IsWeights first) start end (Ok now)
weighing_end {here = here} w e p h =
    Reads.ok (weights w.values (whole e p w.grown) w.none)
    (rw h.0 (w.within.takes here [] (Takes.none (not_seq (Tok t.Comma) (call Name.Term) here refl h.1))))
  where
    whole : {new before now others : List Term} {first : Term} → new ≡ [] → before ≡ new ++ first ∷ [] → now ≡ before ++ others → now ≡ first ∷ others
    whole e p g = g ∙ rw (p, e) refl

    weights : (vs : List Value) {first : Term} {now : List Term} → now ≡ first ∷ collected as_term vs → found as_target vs ≡ None → IsWeights first now (vs ++ [])
    weights vs i n = rw append-nil (record { is = i; none = n })

module _ {xs ys : List Lexeme} {first : Term} {ws : List Term} (w : Reads (Star weight_item) (IsWeights first) xs ys (Ok ws)) where
  pub sign_fails : {end : List Lexeme} → Fails factored tables (Tok t.Weighs) ys end → Fails factored tables weights_rest xs end
  sign_fails f = let q = taken w in Fails.second q.takes (Fails.first f)

  module _ {U : Type 0} {u : U} {zs : List Lexeme} (c : Reads (Tok t.Weighs) IsAny ys zs (Ok u)) where
    pub target_fails : {end : List Lexeme} → Fails factored tables (call Name.Target) zs end → Fails factored tables weights_rest xs end
    target_fails f = let q = taken w in let p = taken c in Fails.second q.takes (Fails.second (giving p.makes.1 p.takes) f)

    not_empty : (us : List Value) (v : Value) (ws : List Value) → us ++ v ∷ ws ≡ [] → ⊥
    not_empty [] v ws e = cc
    not_empty (u ∷ us) v ws e = cc

    weighs : (vs : List Value) (sign other : Lexeme) (x : Target) → IsWeights first ws vs → IsWeighed first (record { weights = ws; target = x }) (vs ++ token sign ∷ Value.target other x ∷ [])
    weighs vs sign other x i =
        record {
          is = rw (collected-append as_term vs (token sign ∷ Value.target other x ∷ []), found-append as_target vs (token sign ∷ Value.target other x ∷ []) i.none, i.is) (rw append-nil refl);
          some = not_empty vs _ _;
        }

    pub weighed_read : {end : List Lexeme} {x : Target} → Reads (call Name.Target) (IsTarget zs) zs end (Ok x) → Reads weights_rest (IsWeighed first) xs end (Ok (record { weights = ws; target = x }))
    weighed_read {x = x} r =
        let q = taken w in
        let p = taken c in
        let s = taken r in
        Reads.ok (weighs q.values p.makes.0 s.makes.first x q.makes) (Takes.seq q.takes (Takes.seq (giving p.makes.1 p.takes) (giving s.makes.makes s.takes)))

-- ---- targets

abbrev Starred : Rhs
Starred = Tok t.Stars ⨾ call Name.Ident

no_formula : {xs ms : List Lexeme} → IsNext t.Stars xs ms → NotStarts factored tables (call Name.Formula) xs
no_formula n = rw (n.is, n.kind) refl

pub target_name_fails : {xs ms ys : List Lexeme} → IsNext t.Stars xs ms → Fails factored tables (call Name.Ident) ms ys → Fails factored tables (call Name.Target) xs ys
target_name_fails n f = Fails.call (Fails.right (no_formula n) (Fails.second (next_takes n) f))

pub target_name : {xs ms ys : List Lexeme} {name : List ℕ} → IsNext t.Stars xs ms → Reads (call Name.Ident) (IsName ms) ms ys (Ok name) → Reads (call Name.Target) (IsTarget xs) xs ys (Ok (targets.Name name))
target_name {ms = ms} n r =
    let q = taken r in
    Reads.ok (record { first = n.token; leads = record { rest = ms; is = n.is }; makes = alone (ap (λ name. Value.target n.token (targets.Name name)) (sym q.makes.bytes)) })
    (Takes.call (Takes.right (no_formula n) (Takes.seq (next_takes n) (giving q.makes.is q.takes))))

pub target_formula_fails : {xs ms ys : List Lexeme} → (ms ≡ xs) × Lacks t.Stars xs → Fails factored tables (call Name.Formula) ms ys → Fails factored tables (call Name.Target) xs ys
target_formula_fails {xs = xs} h f = Fails.call (choice_fails (call Name.Formula) Starred xs (fails_from h.0 f) (λ n. Fails.first (fails_tok t.Stars xs h.1)))

pub target_formula : {xs ms ys : List Lexeme} {f : Formula} → (ms ≡ xs) × Lacks t.Stars xs → Reads (call Name.Formula) (IsFormula ms) ms ys (Ok f) → Reads (call Name.Target) (IsTarget xs) xs ys (Ok (targets.For f))
target_formula h r =
    let q = taken r in
    Reads.ok (record { first = q.makes.first; leads = record { rest = q.makes.leads.rest; is = sym h.0 ∙ q.makes.leads.is }; makes = refl })
    (Takes.call (chosen Starred refl (from h.0 (giving q.makes.makes q.takes))))

-- ---- behind the first term or formula

pub formed_ranked : {xs : List Lexeme} {r : Ranked} (f : Formula) → r ≡ record { weights = []; target = targets.For f } → Reads (ranked_behind Class.Formed) (IsRankedRest (Formed f)) xs xs (Ok r)
formed_ranked f e = rw e (Reads.ok {vs = []} (λ first. refl) Takes.empty)

pub other_ranked : {xs ys : List Lexeme} {x : Term} {r : Result Ranked Stop} → Reads weights_rest (IsWeighed x) xs ys r → Reads (ranked_behind Class.Other) (IsRankedRest (Other x)) xs ys r
other_ranked w = follow w (λ r vs i d. (vs, λ first. ap (ranked first) (sym i.is), d)) (λ f. f)

either_weighed : {x : Term} (a : Atom) (r : Ranked) (vs : List Value) → x ≡ term_of a → IsWeighed x r vs → IsRankedRest (either a) r vs
either_weighed a r [] e i = absurd (i.some refl)
either_weighed a r (v ∷ vs) e i = λ first. rw (i.is, e) refl

pub either_ranked : {xs ys : List Lexeme} {x : Term} {r : Result Ranked Stop} (a : Atom) → Starts factored tables weights_rest xs → x ≡ term_of a → Reads weights_rest (IsWeighed x) xs ys r → Reads (opt weights_rest) (IsRankedRest (either a)) xs ys r
either_ranked a s e w = follow w (λ r vs i d. (vs, either_weighed a r vs e i, Takes.left s d)) (λ f. Fails.left s f)

pub either_unweighed : {xs : List Lexeme} {r : Ranked} (a : Atom) → NotStarts factored tables weights_rest xs → r ≡ record { weights = []; target = targets.For (formulas.Atom a) } → Reads (opt weights_rest) (IsRankedRest (either a)) xs xs (Ok r)
either_unweighed a h e = rw e (Reads.ok {vs = []} (λ first. refl) (Takes.right h Takes.empty))

-- ---- ranks

pub ranked_name_fails : {xs ms ys : List Lexeme} → IsNext t.Stars xs ms → Fails factored tables (call Name.Ident) ms ys → Fails factored tables (call Name.Ranked) xs ys
ranked_name_fails {xs = xs} n f = Fails.call (Fails.left (seq_starts (Tok t.Stars) (call Name.Ident) xs (next_starts n)) (Fails.second (next_takes n) f))

pub ranked_name : {xs ms ys : List Lexeme} {name : List ℕ} {r : Ranked} → IsNext t.Stars xs ms → Reads (call Name.Ident) (IsName ms) ms ys (Ok name) → r ≡ record { weights = []; target = targets.Name name } → Reads (call Name.Ranked) (IsRanked xs) xs ys (Ok r)
ranked_name {xs = xs} {ms = ms} n i e =
    let q = taken i in
    Reads.ok (record { first = n.token; leads = record { rest = ms; is = n.is }; makes = alone (ap (ranked n.token) (named q.makes.bytes e)) })
    (Takes.call (Takes.left (seq_starts (Tok t.Stars) (call Name.Ident) xs (next_starts n)) (Takes.seq (next_takes n) (giving q.makes.is q.takes))))
  where
    named : {name bytes : List ℕ} {r : Ranked} → name ≡ bytes → r ≡ record { weights = []; target = targets.Name name } → record { weights = []; target = targets.Name bytes } ≡ r
    named b e = rw b at (sym e)

not_starred : (xs : List Lexeme) → Lacks t.Stars xs → NotStarts factored tables Starred xs
not_starred xs h = not_seq (Tok t.Stars) (call Name.Ident) xs refl h

pub ranked_fails : {xs ms ys : List Lexeme} → (ms ≡ xs) × Lacks t.Stars xs → Fails factored tables (Call Part.Mixed) ms ys → Fails factored tables (call Name.Ranked) xs ys
ranked_fails {xs = xs} h f = Fails.call (Fails.right (not_starred xs h.1) (fails_from h.0 (Fails.start f)))

pub ranked_reads : {xs ms ys zs : List Lexeme} {x : Mixed} {r : Result Ranked Stop} → (ms ≡ xs) × Lacks t.Stars xs → Reads (Call Part.Mixed) (IsMixed ms) ms ys (Ok x) → Reads (ranked_behind (class_of x)) (IsRankedRest x) ys zs r → Reads (call Name.Ranked) (IsRanked xs) xs zs r
ranked_reads {xs = xs} h a s =
    let q = taken a in
    follow s
    (λ r vs i d. (
      ranked q.makes.first r ∷ [],
      record { first = q.makes.first; leads = record { rest = q.makes.leads.rest; is = sym h.0 ∙ q.makes.leads.is }; makes = refl },
      giving (alone (i q.makes.first)) (Takes.call (Takes.right (not_starred xs h.1) (from h.0 (then_takes a ranked_behind d)))),
    ))
    (λ f. Fails.call (Fails.right (not_starred xs h.1) (fails_from h.0 (then_fails a ranked_behind f))))
