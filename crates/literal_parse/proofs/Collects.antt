-- Loops that read a repetition: lists of trees, and operators that are nested to the left.
use Rattle.std.proofs.Common.{◌≡◌, List, [], ◌∷◌, ◌++◌, Option, Some, None, refl, sym, ◌∙◌, ap, append_assoc, append-nil}
use Rattle.grammar.specs.Form.Form.{Star}
use Rattle.grammar.specs.Takes.{Takes, Fails, Starts, NotStarts}
use Rattle.grammar.proofs.Loops.{Within, begun, one_more}
use Rattle.ap_grammar.specs.Lexemes.{Lexeme}
use Rattle.ap_grammar.specs.Values.{Value, collected}
use Rattle.ap_grammar.specs.Grammar.{Name, made}
use Rattle.ap_grammar.specs.Factored.{Rhs, factored}
use Rattle.ap_grammar.specs.Tables.{tables}
use Rattle.literal_parse.specs.declared.operand.Operand.{Operand}
use Rattle.literal_parse.specs.Operands.{value_of}

-- ---- lists of trees

-- What was read of a repetition makes the new trees behind those that there were before.
pub record Collects {A : Type 0} (pick : Value → Option A) (item : Rhs) (start here : List Lexeme) (before now : List A) : Type 0 where
  pub values : List Value
  pub within : Within factored tables item start here values
  pub grown : now ≡ before ++ collected pick values

pub collected-append : {A : Type 0} (pick : Value → Option A) (us vs : List Value) → collected pick (us ++ vs) ≡ collected pick us ++ collected pick vs
collected-append pick [] vs = refl
collected-append {A} pick (u ∷ us) vs =
    let rest = collected-append pick us vs in
    elim (pick u) as (λ o. (elim o [ None ↦ collected pick (us ++ vs) | Some x ↦ x ∷ collected pick (us ++ vs) ]) ≡ (elim o [ None ↦ collected pick us | Some x ↦ x ∷ collected pick us ]) ++ collected pick vs)
    [ None ↦ rest | Some x ↦ ap (λ xs. x ∷ xs) rest ]

pub collects_begun : {A : Type 0} (pick : Value → Option A) (item : Rhs) (start : List Lexeme) (xs : List A) → Collects pick item start start xs xs
collects_begun pick item start xs = record { values = []; within = begun factored tables item start; grown = sym (append-nil xs) }

-- one more tree
pub collects_more : {A : Type 0} {pick : Value → Option A} {item : Rhs} {start here end : List Lexeme} {before now : List A} {vs : List Value} (x : A) → Collects pick item start here before now → Takes factored tables item here end vs → collected pick vs ≡ x ∷ [] → Collects pick item start end before (now ++ x ∷ [])
collects_more {pick = pick} {before = before} {vs = vs} x c t e =
    record {
      values = c.values ++ vs;
      within = one_more c.within t;
      grown = ap (λ ys. ys ++ x ∷ []) c.grown ∙ append_assoc before (collected pick c.values) (x ∷ []) ∙ ap (λ ys. before ++ ys) (ap (λ ys. collected pick c.values ++ ys) (sym e) ∙ sym (collected-append pick c.values vs));
    }

pub collects_fail : {A : Type 0} {pick : Value → Option A} {item : Rhs} {start here end : List Lexeme} {before now : List A} → Collects pick item start here before now → Starts factored tables item here → Fails factored tables item here end → Fails factored tables (Star item) start end
collects_fail {end = end} c s f = c.within.fails end (Fails.item s f)

-- the repetition as a whole
pub record Collected {A : Type 0} (pick : Value → Option A) (item : Rhs) (start end : List Lexeme) (before now : List A) : Type 0 where
  pub values : List Value
  pub takes : Takes factored tables (Star item) start end values
  pub grown : now ≡ before ++ collected pick values

pub collects_end : {A : Type 0} {pick : Value → Option A} {item : Rhs} {start here end : List Lexeme} {before now : List A} → Collects pick item start here before now → end ≡ here → NotStarts factored tables item here → Collected pick item start end before now
collects_end {pick = pick} {item = item} {start = start} {here = here} {before = before} c e n =
    record {
      values = c.values ++ [];
      takes = rw e (c.within.takes here [] (Takes.none n));
      grown = c.grown ∙ ap (λ vs. before ++ collected pick vs) (sym (append-nil c.values));
    }

-- ---- operators that are nested to the left

-- The rule makes of the first operand with all values what it makes of the operand so far with the values that are left.
pub record Folds (n : Name) (item : Rhs) (start here : List Lexeme) (before now : Operand) : Type 0 where
  pub values : List Value
  pub within : Within factored tables item start here values
  pub grown : (first : Lexeme) (vs : List Value) → made n (value_of first before ∷ (values ++ vs)) ≡ made n (value_of first now ∷ vs)

pub folds_begun : (n : Name) (item : Rhs) (start : List Lexeme) (x : Operand) → Folds n item start start x x
folds_begun n item start x = record { values = []; within = begun factored tables item start; grown = λ first vs. refl }

pub folds_more : {n : Name} {item : Rhs} {start here end : List Lexeme} {before now next : Operand} {vs : List Value} → Folds n item start here before now → Takes factored tables item here end vs → ((first : Lexeme) (ws : List Value) → made n (value_of first now ∷ (vs ++ ws)) ≡ made n (value_of first next ∷ ws)) → Folds n item start end before next
folds_more {n = n} {before = before} {vs = vs} f t step =
    record {
      values = f.values ++ vs;
      within = one_more f.within t;
      grown = λ first ws. ap (λ us. made n (value_of first before ∷ us)) (append_assoc f.values vs ws) ∙ f.grown first (vs ++ ws) ∙ step first ws;
    }

pub folds_fail : {n : Name} {item : Rhs} {start here end : List Lexeme} {before now : Operand} → Folds n item start here before now → Starts factored tables item here → Fails factored tables item here end → Fails factored tables (Star item) start end
folds_fail {end = end} c s f = c.within.fails end (Fails.item s f)

pub folds_end : {n : Name} {item : Rhs} {start here : List Lexeme} {before now : Operand} (f : Folds n item start here before now) → NotStarts factored tables item here → Takes factored tables (Star item) start here (f.values ++ [])
folds_end {here = here} f h = f.within.takes here [] (Takes.none h)
