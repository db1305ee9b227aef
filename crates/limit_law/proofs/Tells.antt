-- Tokens that come to formulas: a limit stands among them exactly if one of the formulas is too deep.
use Rattle.std.proofs.Common.{◌≡◌, ◌≢◌, ℕ, ◌≤◌, Bool, true, false, List, [], ◌∷◌, ◌++◌, refl, sym, ap, subst, ◌∙◌, append_assoc, arith}
use Rattle.std.specs.Prelude.{◌&&◌, Some}
use Rattle.std.specs.List.{list_all}
use Rattle.std.proofs.lemmas.Bool.{and_parts}
use Rattle.std.proofs.lemmas.List.{append-nil}
use Rattle.std.proofs.lemmas.List.Folds.{list_all-append}
use Rattle.ap_syntax.specs.declared.preferences.Formula.{Formula}
use Rattle.ap_grammar.specs.Lexemes.{Lexeme}
use Rattle.ap_lexemes.specs.declared.levels.Level.{Level}
use Rattle.ap_lexemes.specs.declared.limit.Limit.TheVariants as limits
use Rattle.ap_lexemes.specs.declared.role.Role.{Role}
use Rattle.ap_lexemes.specs.declared.role.Role.TheVariants.{And, Open, Dot, Other}
use Rattle.ap_lexemes.specs.Limits.{Levels, after, ended, limit_at, member_depth, next_role, no_levels, role_of}
use Rattle.limit_law.specs.Depths.{IsFresh, scan}
use Rattle.limit_law.specs.Programs.{is_in_bounds}
use Rattle.limit_law.specs.Stands.{Stands}
use Rattle.limit_law.proofs.Quiet.{Quiet, Silent, quiet_then, scan_append, silent, silent_is}
use Rattle.limit_law.proofs.Scanning.{Bare, Keeps, Kept, after_is, tokens_then}

abbrev pub all_in_bounds : List Formula → Bool
all_in_bounds fs = list_all is_in_bounds fs

pub record Tells (s : Levels) (read ys : List Lexeme) (fs : List Formula) : Type 0 where
  pub quiet : all_in_bounds fs ≡ true → Quiet s read
  pub loud : all_in_bounds fs ≡ false → Stands s read ys

pub tells_nothing : (s : Levels) (read ys : List Lexeme) → Quiet s read → Tells s read ys []
tells_nothing s read ys q = record { quiet = λ h. q; loud = λ h. absurd cc }

-- ---- one after the other

stands_left : (s : Levels) (xs ys zs : List Lexeme) → Stands s xs (ys ++ zs) → Stands s (xs ++ ys) zs
stands_left s xs ys zs h = record {
  before = h.before;
  here = h.here;
  behind = h.behind ++ ys;
  are = ap (λ ts. ts ++ ys) h.are ∙ append_assoc h.before (h.here ∷ h.behind) ys;
  stands = subst (λ ts. limit_at (scan s h.before) (role_of h.here.terminal) (next_role ts) ≡ Some limits.Formula) (sym (append_assoc h.behind ys zs)) h.stands;
}

stands_right : (s t : Levels) (xs ys zs : List Lexeme) → scan s xs ≡ t → Stands t ys zs → Stands s (xs ++ ys) zs
stands_right s t xs ys zs e h = record {
  before = xs ++ h.before;
  here = h.here;
  behind = h.behind;
  are = ap (λ ts. xs ++ ts) h.are ∙ sym (append_assoc xs h.before (h.here ∷ h.behind));
  stands = subst (λ l. limit_at l (role_of h.here.terminal) (next_role (h.behind ++ zs)) ≡ Some limits.Formula) (sym (scan_append s xs h.before ∙ ap (λ l. scan l h.before) e)) h.stands;
}

loud_either : (s t : Levels) (xs ys zs : List Lexeme) (b c : Bool) → scan s xs ≡ t → (b ≡ false → Stands s xs (ys ++ zs)) → (c ≡ false → Stands t ys zs) → (b && c) ≡ false → Stands s (xs ++ ys) zs
loud_either s t xs ys zs false c e f g h = stands_left s xs ys zs (f refl)
loud_either s t xs ys zs true c e f g h = stands_right s t xs ys zs e (g h)

pub tells_then : (s t : Levels) (xs ys zs : List Lexeme) (fs gs : List Formula) → scan s xs ≡ t → Tells s xs (ys ++ zs) fs → Tells t ys zs gs → Tells s (xs ++ ys) zs (fs ++ gs)
tells_then s t xs ys zs fs gs e p q = record {
  quiet = λ h. let both = and_parts (all_in_bounds fs) (all_in_bounds gs) (sym (list_all-append is_in_bounds fs gs) ∙ h) in quiet_then xs ys s t e (p.quiet both.0) (q.quiet both.1);
  loud = λ h. loud_either s t xs ys zs (all_in_bounds fs) (all_in_bounds gs) e p.loud q.loud (sym (list_all-append is_in_bounds fs gs) ∙ h);
}

-- ---- parts of a statement

-- whether a formula may end before a token
abbrev pub may_follow : Role → Bool
may_follow And = false
may_follow Open = false
may_follow r = true

pub no_and : (r : Role) → may_follow r ≡ true → r ≢ And
no_and r h e = let no : may_follow And ≡ true = subst (λ q. may_follow q ≡ true) e h in cc

pub no_open : (r : Role) → may_follow r ≡ true → r ≢ Open
no_open r h e = let no : may_follow Open ≡ true = subst (λ q. may_follow q ≡ true) e h in cc

pub record Goes (s : Levels) (read ys : List Lexeme) (fs : List Formula) : Type 0 where
  pub outer : (scan s read).outer ≡ s.outer
  pub tells : may_follow (next_role ys) ≡ true → Tells s read ys fs

-- a part that begins where no formula stands at its level
pub record Formed (xs ys : List Lexeme) (fs : List Formula) : Type 0 where
  pub read : List Lexeme
  pub tokens : xs ≡ read ++ ys
  pub goes : (s : Levels) → IsFresh s.level → Goes s read ys fs

-- a part that begins with a token that ends formulas, or is empty
pub record Tail (xs ys : List Lexeme) (fs : List Formula) : Type 0 where
  pub read : List Lexeme
  pub tokens : xs ≡ read ++ ys
  pub follows : may_follow (next_role ys) ≡ true → may_follow (next_role xs) ≡ true
  pub goes : (s : Levels) → Goes s read ys fs

goes_then : (s : Levels) (a b : List Lexeme) {ys zs : List Lexeme} {fs gs : List Formula} → ys ≡ b ++ zs → (may_follow (next_role zs) ≡ true → may_follow (next_role ys) ≡ true) → Goes s a ys fs → Goes (scan s a) b zs gs → Goes s (a ++ b) zs (fs ++ gs)
goes_then s a b {zs = zs} {fs = fs} {gs = gs} e f p q = record {
  outer = ap (λ (t : Levels). t.outer) (scan_append s a b) ∙ (q.outer ∙ p.outer);
  tells = λ h. tells_then s (scan s a) a b zs fs gs refl (subst (λ ts. Tells s a ts fs) e (p.tells (f h))) (q.tells h);
}

pub formed_then : {xs ys zs : List Lexeme} {fs gs : List Formula} → Formed xs ys fs → Tail ys zs gs → Formed xs zs (fs ++ gs)
formed_then {zs = zs} a b = record {
  read = a.read ++ b.read;
  tokens = tokens_then a.read b.read zs a.tokens b.tokens;
  goes = λ s h. goes_then s a.read b.read b.tokens b.follows (a.goes s h) (b.goes (scan s a.read));
}

pub tail_then : {xs ys zs : List Lexeme} {fs gs : List Formula} → Tail xs ys fs → Tail ys zs gs → Tail xs zs (fs ++ gs)
tail_then {zs = zs} a b = record {
  read = a.read ++ b.read;
  tokens = tokens_then a.read b.read zs a.tokens b.tokens;
  follows = λ h. a.follows (b.follows h);
  goes = λ s. goes_then s a.read b.read b.tokens b.follows (a.goes s) (b.goes (scan s a.read));
}

pub tail_none : (xs : List Lexeme) → Tail xs xs []
tail_none xs = record { read = []; tokens = refl; follows = λ h. h; goes = λ s. record { outer = refl; tells = λ h. tells_nothing s [] xs tt } }

pub fresh_ended : (c : ℕ) → IsFresh (ended c)
fresh_ended c = record { disjunction = refl; conjunction = refl; negated = refl; member = refl }

pub fresh_nowhere : IsFresh no_levels.level
fresh_nowhere = fresh_ended 0

other_silent : (s : Levels) (r : Role) → r ≡ Other → Silent s r
other_silent s r e = silent_is s e (silent s Other (omega arith))

goes_behind : (s t : Levels) (x : Lexeme) (read ys : List Lexeme) (fs : List Formula) → role_of x.terminal ≡ Other → after s (role_of x.terminal) ≡ t → t.outer ≡ s.outer → Goes t read ys fs → Goes s (x ∷ read) ys fs
goes_behind s t x read ys fs e f o g = record {
  outer = ap (λ l. (scan l read).outer) f ∙ (g.outer ∙ o);
  tells = λ h. tells_then s t (x ∷ []) read ys [] fs f (tells_nothing s (x ∷ []) (read ++ ys) (other_silent s (role_of x.terminal) e, tt)) (g.tells h);
}

-- behind a token that ends formulas none stands
pub tail_formed : (x : Lexeme) {xs ys : List Lexeme} {fs : List Formula} → role_of x.terminal ≡ Other → Formed xs ys fs → Tail (x ∷ xs) ys fs
tail_formed x {ys = ys} {fs = fs} e p = record {
  read = x ∷ p.read;
  tokens = ap (λ ts. x ∷ ts) p.tokens;
  follows = λ h. rw e refl;
  goes = λ s. goes_behind s (after s Other) x p.read ys fs e (after_is s x e) refl (p.goes (after s Other) (fresh_ended s.level.commas));
}

two_named : (n : Bool) → member_depth n 1 ≤ 2
two_named true = omega arith
two_named false = omega arith

pub bare_fresh : (l : Level) → IsFresh l → Bare 2 l
bare_fresh l h = record { disjunction = h.disjunction; conjunction = h.conjunction; member = omega (arith, h.member); named = two_named l.negated; small = omega arith }

-- tokens with no formula of their own
pub kept_formed : {n : Bool} {xs ys zs : List Lexeme} {fs : List Formula} → Kept n xs ys → Tail ys zs fs → Formed xs zs fs
kept_formed {n = n} {zs = zs} {fs = fs} a b = record {
  read = a.read ++ b.read;
  tokens = tokens_then a.read b.read zs a.tokens b.tokens;
  goes = λ s h. kept_goes s (a.keeps 2 s (λ e. omega arith) (bare_fresh s.level h));
}
  where
    kept_goes : (s : Levels) → Keeps 2 s a.read → Goes s (a.read ++ b.read) zs fs
    kept_goes s k = goes_then s a.read b.read {gs = fs} b.tokens b.follows (record { outer = k.outer; tells = λ i. tells_nothing s a.read _ k.quiet }) (b.goes (scan s a.read))

pub kept_alone : {n : Bool} {xs ys : List Lexeme} → Kept n xs ys → Formed xs ys []
kept_alone {ys = ys} a = kept_formed a (tail_none ys)

-- ---- whole statements

-- from where no parenthesis is open and no formula stands to where it is so again
pub record Whole (xs ys : List Lexeme) (fs : List Formula) : Type 0 where
  pub read : List Lexeme
  pub tokens : xs ≡ read ++ ys
  pub ends : scan no_levels read ≡ no_levels
  pub tells : Tells no_levels read ys fs

pub whole_none : (xs : List Lexeme) → Whole xs xs []
whole_none xs = record { read = []; tokens = refl; ends = refl; tells = tells_nothing no_levels [] xs tt }

pub whole_then : {xs ys zs : List Lexeme} {fs gs : List Formula} → Whole xs ys fs → Whole ys zs gs → Whole xs zs (fs ++ gs)
whole_then {zs = zs} {fs = fs} {gs = gs} a b = record {
  read = a.read ++ b.read;
  tokens = tokens_then a.read b.read zs a.tokens b.tokens;
  ends = scan_append no_levels a.read b.read ∙ (ap (λ s. scan s b.read) a.ends ∙ b.ends);
  tells = tells_then no_levels no_levels a.read b.read zs fs gs a.ends (subst (λ ts. Tells no_levels a.read ts fs) b.tokens a.tells) b.tells;
}

dot_silent : (s : Levels) (r : Role) → r ≡ Dot → Silent s r
dot_silent s r e = silent_is s e (silent s Dot (omega arith))

dot_follows : (r : Role) → r ≡ Dot → may_follow r ≡ true
dot_follows r e = rw e refl

pub whole_dot : (x : Lexeme) {xs ys : List Lexeme} {fs : List Formula} → Formed xs (x ∷ ys) fs → role_of x.terminal ≡ Dot → Whole xs ys fs
whole_dot x {ys = ys} {fs = fs} p e = let g = p.goes no_levels fresh_nowhere in record {
  read = p.read ++ (x ∷ []);
  tokens = p.tokens ∙ sym (append_assoc p.read (x ∷ []) ys);
  ends = scan_append no_levels p.read (x ∷ []) ∙ after_is (scan no_levels p.read) x e;
  tells = subst (Tells no_levels (p.read ++ (x ∷ [])) ys) (append-nil fs) (tells_then no_levels (scan no_levels p.read) p.read (x ∷ []) ys fs [] refl (g.tells (dot_follows (role_of x.terminal) e)) (tells_nothing (scan no_levels p.read) (x ∷ []) ys (dot_silent (scan no_levels p.read) (role_of x.terminal) e, tt)));
}
