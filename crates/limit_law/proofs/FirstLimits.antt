-- The first limit, and where limits of formulas stand.
use Rattle.std.proofs.Common.{◌≡◌, ◌≢◌, ℕ, ◌+◌, Bool, true, false, List, [], ◌∷◌, ◌++◌, refl, sym, ap, subst, ◌∙◌, append_assoc, arith}
use Rattle.std.specs.Prelude.{Option, None, Some, IfSome, Ok, drop, length, take}
use Rattle.std.proofs.lemmas.List.{append-nil}
use Rattle.std.proofs.Math.Seq.{drop-append-add, take-append-add}
use Rattle.grammar.specs.Fault.{IsText}
use Rattle.ap_syntax.specs.declared.preferences.Formula.{Formula as FormulaTree}
use Rattle.ap_syntax.specs.declared.programs.Statement.{Statement}
use Rattle.ap_grammar.specs.Grammar.{Name, grammar}
use Rattle.ap_grammar.specs.Lexemes.{Lexeme}
use Rattle.ap_grammar.specs.Values.Value.{program}
use Rattle.ap_lexemes.specs.declared.limit.Limit.{Limit}
use Rattle.ap_lexemes.specs.declared.limit.Limit.TheVariants.{Formula}
use Rattle.ap_lexemes.specs.declared.limit.LimitAt.{LimitAt}
use Rattle.ap_lexemes.specs.Limits.{Levels, after, first_limit, limit_at, limit_from, limit_or, next_role, no_levels, role_of}
use Rattle.ap_lexemes.specs.Texts.{IsOutcome}
use Rattle.limit_law.specs.Depths.{scan}
use Rattle.limit_law.specs.Programs.{formulas_of}
use Rattle.limit_law.specs.Stands.{Stands}
use Rattle.limit_law.proofs.Quiet.{Quiet, silent_here}
use Rattle.limit_law.proofs.Tells.{Tells, all_in_bounds}
use Rattle.limit_law.proofs.Rules.{text_whole}

abbrev OtherLimit : Option LimitAt → Type 0
OtherLimit o = IfSome o (λ l. l.which ≢ Formula)

other_or : (o : Option Limit) (i : ℕ) (later : Option LimitAt) → o ≢ Some Formula → OtherLimit later → OtherLimit (limit_or o i later)
other_or None i later n h = h
other_or (Some l) i later n h = λ e. n (ap (λ l. Some l) e)

-- no limit of formulas is the first
quiet_first : (s : Levels) (i : ℕ) (xs : List Lexeme) → Quiet s xs → OtherLimit (limit_from s i xs)
quiet_first s i [] q = tt
quiet_first s i (x ∷ xs) q = other_or (limit_at s (role_of x.terminal) (next_role xs)) i _ (q.0 (next_role xs)) (quiet_first (after s (role_of x.terminal)) (i + 1) xs q.1)

pub none_first : (o : Option Limit) (i : ℕ) (later : Option LimitAt) → limit_or o i later ≡ None → o ≡ None
none_first None i later e = refl
none_first (Some l) i later e = cc

pub none_later : (o : Option Limit) (i : ℕ) (later : Option LimitAt) → limit_or o i later ≡ None → later ≡ None
none_later None i later e = e
none_later (Some l) i later e = cc

none_there : (s : Levels) (i : ℕ) (before behind : List Lexeme) (here : Lexeme) → limit_from s i (before ++ (here ∷ behind)) ≡ None → limit_at (scan s before) (role_of here.terminal) (next_role behind) ≡ None
none_there s i [] behind here e = none_first (limit_at s (role_of here.terminal) (next_role behind)) i (limit_from (after s (role_of here.terminal)) (i + 1) behind) e
none_there s i (x ∷ before) behind here e = none_there (after s (role_of x.terminal)) (i + 1) before behind here (none_later (limit_at s (role_of x.terminal) (next_role (before ++ (here ∷ behind)))) i (limit_from (after s (role_of x.terminal)) (i + 1) (before ++ (here ∷ behind))) e)

not_both : (o : Option Limit) → o ≡ None → o ≡ Some Formula → ⊥
not_both o e f = let no : None ≡ Some Formula = sym e ∙ f in cc

-- where one stands there is a first one
stands_first : (xs : List Lexeme) → Stands no_levels xs [] → first_limit xs ≡ None → ⊥
stands_first xs h e = not_both (limit_at (scan no_levels h.before) (role_of h.here.terminal) (next_role h.behind)) (none_there no_levels 0 h.before h.behind h.here (subst (λ ts. first_limit ts ≡ None) h.are e)) (subst (λ ts. limit_at (scan no_levels h.before) (role_of h.here.terminal) (next_role ts) ≡ Some Formula) (append-nil h.behind) h.stands)

-- ---- texts

pub text_tells : {whole of_type : Bool} {xs : List Lexeme} {ss : List Statement} → IsText grammar (Name.Text whole of_type) xs (program ss) → Tells no_levels xs [] (formulas_of ss)
text_tells {ss = ss} d = let w = text_whole d in subst (λ ts. Tells no_levels ts [] (formulas_of ss)) (sym (w.tokens ∙ append-nil w.read)) w.tells

or_false : (b : Bool) → (b ≡ false → ⊥) → b ≡ true
or_false true h = refl
or_false false h = absurd (h refl)

pub in_bounds : (xs : List Lexeme) (fs : List FormulaTree) → Tells no_levels xs [] fs → first_limit xs ≡ None → all_in_bounds fs ≡ true
in_bounds xs fs p e = or_false (all_in_bounds fs) (λ h. stands_first xs (p.loud h) e)

pub other_first : (xs : List Lexeme) (fs : List FormulaTree) → Tells no_levels xs [] fs → all_in_bounds fs ≡ true → IfSome (first_limit xs) (λ l. l.which ≢ Formula)
other_first xs fs p h = quiet_first no_levels 0 xs (p.quiet h)

pub accepted : {whole of_type : Bool} {xs : List Lexeme} {end : ℕ} {is_cut : Bool} {ss : List Statement} → IsOutcome (Name.Text whole of_type) xs end is_cut (Ok (program ss)) → all_in_bounds (formulas_of ss) ≡ true
accepted {xs = xs} {ss = ss} (IsOutcome.good d e c) = in_bounds xs (formulas_of ss) (text_tells d) e

-- ---- the token at which the first limit stands

pub record FirstAt (s : Levels) (i : ℕ) (xs : List Lexeme) (l : LimitAt) : Type 0 where
  pub before : List Lexeme
  pub here : Lexeme
  pub behind : List Lexeme
  pub are : xs ≡ before ++ (here ∷ behind)
  pub number : l.index ≡ i + length before
  pub stands : limit_at (scan s before) (role_of here.terminal) (next_role behind) ≡ Some l.which

pub same_limit : (a b : LimitAt) → Some a ≡ Some b → a ≡ b
same_limit a b e = cc

first_here : (s : Levels) (i : ℕ) (x : Lexeme) (xs : List Lexeme) (which : Limit) (l : LimitAt) → limit_at s (role_of x.terminal) (next_role xs) ≡ Some which → record { which = which; index = i } ≡ l → FirstAt s i (x ∷ xs) l
first_here s i x xs which l h e = record {
  before = [];
  here = x;
  behind = xs;
  are = refl;
  number = let same : i ≡ l.index = ap (λ (m : LimitAt). m.index) e in omega (arith, same);
  stands = h ∙ ap (λ (m : LimitAt). Some m.which) e;
}

first_later : (s : Levels) (i : ℕ) (x : Lexeme) (xs : List Lexeme) (l : LimitAt) → FirstAt (after s (role_of x.terminal)) (i + 1) xs l → FirstAt s i (x ∷ xs) l
first_later s i x xs l h = record {
  before = x ∷ h.before;
  here = h.here;
  behind = h.behind;
  are = ap (λ ts. x ∷ ts) h.are;
  number = omega (arith, h.number);
  stands = h.stands;
}

first_either : (s : Levels) (i : ℕ) (x : Lexeme) (xs : List Lexeme) (l : LimitAt) (o : Option Limit) → limit_at s (role_of x.terminal) (next_role xs) ≡ o → (later : Option LimitAt) → (later ≡ Some l → FirstAt (after s (role_of x.terminal)) (i + 1) xs l) → limit_or o i later ≡ Some l → FirstAt s i (x ∷ xs) l
first_either s i x xs l None h later f e = first_later s i x xs l (f e)
first_either s i x xs l (Some which) h later f e = first_here s i x xs which l h (same_limit (record { which = which; index = i }) l e)

pub first_at : (s : Levels) (i : ℕ) (xs : List Lexeme) (l : LimitAt) → limit_from s i xs ≡ Some l → FirstAt s i xs l
first_at s i [] l e = cc
first_at s i (x ∷ xs) l e = first_either s i x xs l (limit_at s (role_of x.terminal) (next_role xs)) refl (limit_from (after s (role_of x.terminal)) (i + 1) xs) (first_at (after s (role_of x.terminal)) (i + 1) xs l) e

-- the tokens up to this one
pub up_to : (before behind : List Lexeme) (here : Lexeme) (n : ℕ) → n ≡ length before → take (n + 1) (before ++ (here ∷ behind)) ≡ before ++ (here ∷ [])
up_to before behind here n e = rw e (take-append-add before (here ∷ behind) 1)

pub left_behind : (before behind : List Lexeme) (here : Lexeme) (n : ℕ) → n ≡ length before → drop (n + 1) (before ++ (here ∷ behind)) ≡ behind
left_behind before behind here n e = rw e (drop-append-add before (here ∷ behind) 1)

sum_zero : (n : ℕ) → n ≡ n + 0
sum_zero n = omega arith

pub left_at : (before behind : List Lexeme) (here : Lexeme) (n : ℕ) → n ≡ length before → drop n (before ++ (here ∷ behind)) ≡ here ∷ behind
left_at before behind here n e = ap (λ k. drop k (before ++ (here ∷ behind))) (e ∙ sum_zero (length before)) ∙ drop-append-add before (here ∷ behind) 0

-- and others behind them
pub others_behind : (xs more : List Lexeme) (l : LimitAt) (p : FirstAt no_levels 0 xs l) → take (l.index + 1) xs ++ more ≡ p.before ++ (p.here ∷ more)
others_behind xs more l p = ap (λ ts. take (l.index + 1) ts ++ more) p.are ∙ (ap (λ ts. ts ++ more) (up_to p.before p.behind p.here l.index (omega (arith, p.number))) ∙ append_assoc p.before (p.here ∷ []) more)

true_false : (b : Bool) → (b ≡ true → ⊥) → b ≡ false
true_false true h = absurd (h refl)
true_false false h = refl

-- what stands behind that token is of no account
pub deep_up_to : {whole of_type : Bool} (xs more : List Lexeme) (l : LimitAt) {ss : List Statement} → first_limit xs ≡ Some l → l.which ≡ Formula → IsText grammar (Name.Text whole of_type) (take (l.index + 1) xs ++ more) (program ss) → all_in_bounds (formulas_of ss) ≡ false
deep_up_to {whole = whole} {of_type = of_type} xs more l {ss = ss} e f d = by_place (first_at no_levels 0 xs l e)
  where
    by_place : FirstAt no_levels 0 xs l → all_in_bounds (formulas_of ss) ≡ false
    by_place p =
        let tells = text_tells (subst (λ ts. IsText grammar (Name.Text whole of_type) ts (program ss)) (others_behind xs more l p) d) in
        true_false (all_in_bounds (formulas_of ss)) (λ h. silent_here no_levels p.before more p.here (tells.quiet h) (next_role p.behind) (p.stands ∙ ap (λ w. Some w) f))
