-- What tokens that have no limit cost, and tokens that cost so little have none of nesting or arity.
use Rattle.std.proofs.Common.{◌≡◌, ℕ, suc, ◌+◌, ◌≤◌, Bool, true, false, List, [], ◌∷◌, refl, sym, ap, subst, ◌∙◌, arith, if◌then◌else◌}
use Rattle.std.specs.Prelude.{Option, None, Some, IfSome, length, max, nat_le, ◌==◌}
use Rattle.std.proofs.lemmas.Bool.Decides.{nat_tests}
use Rattle.ap_grammar.specs.Lexemes.{Lexeme}
use Rattle.ap_lexemes.specs.declared.levels.Level.{Level}
use Rattle.ap_lexemes.specs.declared.limit.Limit.{Limit}
use Rattle.ap_lexemes.specs.declared.limit.Limit.TheVariants.{Arity, Formula, Nesting}
use Rattle.ap_lexemes.specs.declared.limit.LimitAt.{LimitAt}
use Rattle.ap_lexemes.specs.declared.role.Role.{Role}
use Rattle.ap_lexemes.specs.declared.role.Role.TheVariants.{Name, Not, And, Or, Open, Close, Comma, Dot, Other}
use Rattle.ap_lexemes.specs.Limits.{Levels, after, atom_limit, closed, closes, commas_behind, depth_of, ended, is_full, limit_at, limit_from, limit_or, next_role, role_of, with_member}
use Rattle.limit_law.proofs.FirstLimits.{none_first, none_later}
use Rattle.canonical_law.proofs.Costs.{Cost, Measures, is_plain, token_role}

-- ---- the levels behind a token

-- inside of parentheses, commas count
abbrev pub IsInside : Levels → Type 0
IsInside s = 1 ≤ length s.outer

commas_more : (l : Level) (os : List Level) → 1 ≤ length os → commas_behind l os ≡ l.commas + 1
commas_more l [] h = absurd (omega (arith, h))
commas_more l (o ∷ os) h = refl

plain_outer : (s : Levels) (r : Role) → is_plain r ≡ true → (after s r).outer ≡ s.outer
plain_outer s Name h = refl
plain_outer s Not h = refl
plain_outer s And h = refl
plain_outer s Or h = refl
plain_outer s Open h = cc
plain_outer s Close h = cc
plain_outer s Comma h = cc
plain_outer s Dot h = cc
plain_outer s Other h = refl

plain_commas : (s : Levels) (r : Role) → is_plain r ≡ true → (after s r).level.commas ≡ s.level.commas
plain_commas s Name h = refl
plain_commas s Not h = refl
plain_commas s And h = refl
plain_commas s Or h = refl
plain_commas s Open h = cc
plain_commas s Close h = cc
plain_commas s Comma h = cc
plain_commas s Dot h = cc
plain_commas s Other h = refl

closed_commas : (l : Level) (d : ℕ) → (closed l d).commas ≡ l.commas
closed_commas l d = choose (l.member == 0)
  where
    choose : (b : Bool) → (if b then with_member l d else l).commas ≡ l.commas
    choose true = refl
    choose false = refl

-- behind a `)` that closes what was opened there
record Closed (s t : Levels) : Type 0 where
  outer : t.outer ≡ s.outer
  commas : t.level.commas ≡ s.level.commas

closes_there : (s : Levels) (l : Level) (os : List Level) → os ≡ s.level ∷ s.outer → Closed s (closes l os)
closes_there s l [] e = cc
closes_there s l (o ∷ os) e =
    let first : o ≡ s.level = cc in
    let rest : os ≡ s.outer = cc in
    record { outer = rest; commas = closed_commas o (depth_of l) ∙ ap (λ (k : Level). k.commas) first }

behind_close : (s t : Levels) (r : Role) → r ≡ Close → t.outer ≡ s.level ∷ s.outer → Closed s (after t r)
behind_close s t r f e = rw f (closes_there s t.level t.outer e)

-- ---- tokens that have no limit

-- what is known behind them
pub record Behind (s : Levels) (p : Cost) (ys : List Lexeme) : Type 0 where
  pub levels : Levels
  pub number : ℕ
  pub none : limit_from levels number ys ≡ None
  pub outer : levels.outer ≡ s.outer
  pub commas : IsInside s → levels.level.commas ≡ s.level.commas + p.commas
  pub nesting : length s.outer + p.nesting ≤ 32
  pub arity : p.arity ≤ 31
  pub fits : IsInside s → s.level.commas + p.commas ≤ 31

no_more : (n : ℕ) → n ≡ n + 0
no_more n = omega arith

few : (n : ℕ) → n ≤ 31 → n + 0 ≤ 31
few n h = omega (arith, h)

shallow : (n : ℕ) → n ≤ 32 → n + 0 ≤ 32
shallow n h = omega (arith, h)

may_open : (b : Bool) → (if b then Some Nesting else None) ≡ None → b ≡ false
may_open true e = cc
may_open false e = refl

may_comma : (b : Bool) → (if b then Some Arity else None) ≡ None → b ≡ false
may_comma true e = cc
may_comma false e = refl

one_opens : (n : ℕ) → nat_le 32 n ≡ false → n + 1 ≤ 32
one_opens n e = grind (arith, nat_tests)

one_comma_fits : (n : ℕ) → nat_le 31 n ≡ false → n + 1 ≤ 31
one_comma_fits n e = grind (arith, nat_tests)

not_full : (l : Level) (os : List Level) → 1 ≤ length os → is_full l os ≡ false → l.commas + 1 ≤ 31
not_full l [] h e = absurd (omega (arith, h))
not_full l (o ∷ os) h e = one_comma_fits l.commas e

at_role : (s : Levels) (r q next : Role) → r ≡ q → limit_at s r next ≡ None → limit_at s q next ≡ None
at_role s r q next e h = rw e at h

comma_there : (s : Levels) (r : Role) → r ≡ Comma → (after s r).outer ≡ s.outer
comma_there s r e = rw e refl

comma_counts : (s : Levels) (r : Role) → r ≡ Comma → IsInside s → (after s r).level.commas ≡ s.level.commas + 1
comma_counts s r e h = rw e (commas_more s.level s.outer h)

opened : (s : Levels) (r : Role) → r ≡ Open → after s r ≡ record { level = ended 0; outer = s.level ∷ s.outer }
opened s r e = rw e refl

inside_next : (s t : Levels) → t.outer ≡ s.outer → IsInside s → IsInside t
inside_next s t e h = subst (λ os. 1 ≤ length os) (sym e) h

sum_of : (a b c d e : ℕ) → a ≡ b + e → b ≡ c + d → a ≡ c + (d + e)
sum_of a b c d e h i = omega (arith, h, i)

fits_both : (b c d e : ℕ) → b ≡ c + d → b + e ≤ 31 → c + (d + e) ≤ 31
fits_both b c d e h i = omega (arith, h, i)

nests_both : (n a b : ℕ) → n + a ≤ 32 → n + b ≤ 32 → n + max a b ≤ 32
nests_both n a b h i = grind arith

most_both : (a b : ℕ) → a ≤ 31 → b ≤ 31 → max a b ≤ 31
most_both a b h i = grind arith

inner_nests : (n k : ℕ) → suc n + k ≤ 32 → n + (k + 1) ≤ 32
inner_nests n k h = omega (arith, h)

from_none : (n : ℕ) → 0 + n ≤ 31 → n ≤ 31
from_none n h = omega (arith, h)

to_none : (n : ℕ) → n ≤ 31 → 0 + n ≤ 31
to_none n h = omega (arith, h)

pub no_limit_behind : {xs ys : List Lexeme} {p : Cost} → Measures token_role xs ys p → (s : Levels) (i : ℕ) → length s.outer ≤ 32 → (IsInside s → s.level.commas ≤ 31) → limit_from s i xs ≡ None → Behind s p ys
no_limit_behind Measures.none s i h k e = record { levels = s; number = i; none = e; outer = refl; commas = λ j. no_more s.level.commas; nesting = shallow (length s.outer) h; arity = omega arith; fits = λ j. few s.level.commas (k j) }
no_limit_behind (Measures.plain {x = x} {xs = xs} f) s i h k e = record {
  levels = after s (role_of x.terminal);
  number = i + 1;
  none = none_later (limit_at s (role_of x.terminal) (next_role xs)) i (limit_from (after s (role_of x.terminal)) (i + 1) xs) e;
  outer = plain_outer s (role_of x.terminal) f;
  commas = λ j. plain_commas s (role_of x.terminal) f ∙ no_more s.level.commas;
  nesting = shallow (length s.outer) h;
  arity = omega arith;
  fits = λ j. few s.level.commas (k j);
}
no_limit_behind (Measures.comma {x = x} {xs = xs} f) s i h k e = record {
  levels = after s (role_of x.terminal);
  number = i + 1;
  none = none_later (limit_at s (role_of x.terminal) (next_role xs)) i (limit_from (after s (role_of x.terminal)) (i + 1) xs) e;
  outer = comma_there s (role_of x.terminal) f;
  commas = λ j. comma_counts s (role_of x.terminal) f j;
  nesting = shallow (length s.outer) h;
  arity = omega arith;
  fits = λ j. not_full s.level s.outer j (may_comma (is_full s.level s.outer) (at_role s (role_of x.terminal) Comma (next_role xs) f (none_first (limit_at s (role_of x.terminal) (next_role xs)) i (limit_from (after s (role_of x.terminal)) (i + 1) xs) e)));
}
no_limit_behind (Measures.then {ys = ms} {p = p} {q = q} a b) s i h k e =
    let m = no_limit_behind a s i h k e in
    let n = no_limit_behind b m.levels m.number (subst (λ os. length os ≤ 32) (sym m.outer) h) (λ j. let l = inside_next m.levels s (sym m.outer) j in subst (λ c. c ≤ 31) (sym (m.commas l)) (m.fits l)) m.none in
    record {
      levels = n.levels;
      number = n.number;
      none = n.none;
      outer = n.outer ∙ m.outer;
      commas = λ j. sum_of n.levels.level.commas m.levels.level.commas s.level.commas p.commas q.commas (n.commas (inside_next s m.levels m.outer j)) (m.commas j);
      nesting = nests_both (length s.outer) p.nesting q.nesting m.nesting (subst (λ os. length os + q.nesting ≤ 32) m.outer n.nesting);
      arity = most_both p.arity q.arity m.arity n.arity;
      fits = λ j. fits_both m.levels.level.commas s.level.commas p.commas q.commas (m.commas j) (n.fits (inside_next s m.levels m.outer j));
    }
no_limit_behind (Measures.group {x = x} {y = y} {xs = xs} {ys = ys} {p = p} f g a) s i h k e =
    let inner : Levels = record { level = ended 0; outer = s.level ∷ s.outer } in
    let may = one_opens (length s.outer) (may_open (nat_le 32 (length s.outer)) (at_role s (role_of x.terminal) Open (next_role xs) f (none_first (limit_at s (role_of x.terminal) (next_role xs)) i (limit_from (after s (role_of x.terminal)) (i + 1) xs) e))) in
    let later = none_later (limit_at s (role_of x.terminal) (next_role xs)) i (limit_from (after s (role_of x.terminal)) (i + 1) xs) e in
    let m = no_limit_behind a inner (i + 1) (omega (arith, may)) (λ j. omega arith) (subst (λ t. limit_from t (i + 1) xs ≡ None) (opened s (role_of x.terminal) f) later) in
    let c = behind_close s m.levels (role_of y.terminal) g m.outer in
    record {
      levels = after m.levels (role_of y.terminal);
      number = m.number + 1;
      none = none_later (limit_at m.levels (role_of y.terminal) (next_role ys)) m.number (limit_from (after m.levels (role_of y.terminal)) (m.number + 1) ys) m.none;
      outer = c.outer;
      commas = λ j. c.commas ∙ no_more s.level.commas;
      nesting = inner_nests (length s.outer) p.nesting m.nesting;
      arity = most_both p.arity p.commas m.arity (from_none p.commas (m.fits (omega arith)));
      fits = λ j. few s.level.commas (k j);
    }

-- ---- tokens that have none of nesting or arity

abbrev pub OnlyFormula : Option LimitAt → Type 0
OnlyFormula o = IfSome o (λ l. l.which ≡ Formula)

abbrev pub FormulaOrNone : Option Limit → Type 0
FormulaOrNone o = IfSome o (λ l. l ≡ Formula)

pub only_or : (o : Option Limit) (i : ℕ) (later : Option LimitAt) → FormulaOrNone o → OnlyFormula later → OnlyFormula (limit_or o i later)
only_or None i later f h = h
only_or (Some l) i later f h = f

formula_if : (b : Bool) → FormulaOrNone (if b then Some Formula else None)
formula_if true = refl
formula_if false = tt

atom_or_none : (l : Level) (next : Role) → FormulaOrNone (atom_limit l next)
atom_or_none l Open = tt
atom_or_none l Name = formula_if _
atom_or_none l Not = formula_if _
atom_or_none l And = formula_if _
atom_or_none l Or = formula_if _
atom_or_none l Close = formula_if _
atom_or_none l Comma = formula_if _
atom_or_none l Dot = formula_if _
atom_or_none l Other = formula_if _

plain_limit : (s : Levels) (r next : Role) → is_plain r ≡ true → FormulaOrNone (limit_at s r next)
plain_limit s Name next h = atom_or_none (after s Name).level next
plain_limit s Not next h = tt
plain_limit s And next h = tt
plain_limit s Or next h = tt
plain_limit s Open next h = cc
plain_limit s Close next h = cc
plain_limit s Comma next h = cc
plain_limit s Dot next h = cc
plain_limit s Other next h = tt

close_limit : (s : Levels) (r next : Role) → r ≡ Close → FormulaOrNone (limit_at s r next)
close_limit s r next e = rw e (formula_if _)

no_nesting : (b : Bool) → b ≡ false → FormulaOrNone (if b then Some Nesting else None)
no_nesting true e = cc
no_nesting false e = tt

no_arity : (b : Bool) → b ≡ false → FormulaOrNone (if b then Some Arity else None)
no_arity true e = cc
no_arity false e = tt

not_deep : (n k : ℕ) → n + (k + 1) ≤ 32 → nat_le 32 n ≡ false
not_deep n k h = grind (arith, nat_tests)

open_limit_none : (s : Levels) (r next : Role) → r ≡ Open → nat_le 32 (length s.outer) ≡ false → FormulaOrNone (limit_at s r next)
open_limit_none s r next e h = rw e (no_nesting (nat_le 32 (length s.outer)) h)

room_left : (l : Level) (os : List Level) → (1 ≤ length os → l.commas + 1 ≤ 31) → is_full l os ≡ false
room_left l [] h = refl
room_left l (o ∷ os) h = below l.commas (h (omega arith))
  where
    below : (n : ℕ) → n + 1 ≤ 31 → nat_le 31 n ≡ false
    below n i = grind (arith, nat_tests)

comma_limit_none : (s : Levels) (r next : Role) → r ≡ Comma → is_full s.level s.outer ≡ false → FormulaOrNone (limit_at s r next)
comma_limit_none s r next e h = rw e (no_arity (is_full s.level s.outer) h)

left_nests : (n a b : ℕ) → n + max a b ≤ 32 → n + a ≤ 32
left_nests n a b h = grind arith

right_nests : (n a b : ℕ) → n + max a b ≤ 32 → n + b ≤ 32
right_nests n a b h = grind arith

left_most : (a b : ℕ) → max a b ≤ 31 → a ≤ 31
left_most a b h = grind arith

right_most : (a b : ℕ) → max a b ≤ 31 → b ≤ 31
right_most a b h = grind arith

left_fits : (c a b : ℕ) → c + (a + b) ≤ 31 → c + a ≤ 31
left_fits c a b h = omega (arith, h)

right_fits : (d c a b : ℕ) → d ≡ c + a → c + (a + b) ≤ 31 → d + b ≤ 31
right_fits d c a b e h = omega (arith, e, h)

nests_inside : (n k : ℕ) → n + (k + 1) ≤ 32 → suc n + k ≤ 32
nests_inside n k h = omega (arith, h)

-- what holds of what follows them, from levels that are as deep and have these commas more
abbrev pub GoesOn : Levels → ℕ → List Lexeme → Type 0
GoesOn s commas ys = (t : Levels) (j : ℕ) → t.outer ≡ s.outer → (IsInside s → t.level.commas ≡ s.level.commas + commas) → OnlyFormula (limit_from t j ys)

pub only_formula : {xs ys : List Lexeme} {p : Cost} → Measures token_role xs ys p → (s : Levels) (i : ℕ) → length s.outer + p.nesting ≤ 32 → p.arity ≤ 31 → (IsInside s → s.level.commas + p.commas ≤ 31) → GoesOn s p.commas ys → OnlyFormula (limit_from s i xs)
only_formula Measures.none s i h k f g = g s i refl (λ j. no_more s.level.commas)
only_formula (Measures.plain {x = x} {xs = xs} e) s i h k f g =
    only_or (limit_at s (role_of x.terminal) (next_role xs)) i (limit_from (after s (role_of x.terminal)) (i + 1) xs) (plain_limit s (role_of x.terminal) (next_role xs) e)
    (g (after s (role_of x.terminal)) (i + 1) (plain_outer s (role_of x.terminal) e) (λ j. plain_commas s (role_of x.terminal) e ∙ no_more s.level.commas))
only_formula (Measures.comma {x = x} {xs = xs} e) s i h k f g =
    only_or (limit_at s (role_of x.terminal) (next_role xs)) i (limit_from (after s (role_of x.terminal)) (i + 1) xs) (comma_limit_none s (role_of x.terminal) (next_role xs) e (room_left s.level s.outer f))
    (g (after s (role_of x.terminal)) (i + 1) (comma_there s (role_of x.terminal) e) (λ j. comma_counts s (role_of x.terminal) e j))
only_formula (Measures.then {p = p} {q = q} a b) s i h k f g =
    only_formula a s i (left_nests (length s.outer) p.nesting q.nesting h) (left_most p.arity q.arity k) (λ j. left_fits s.level.commas p.commas q.commas (f j))
    (λ t n e c. only_formula b t n (subst (λ os. length os + q.nesting ≤ 32) (sym e) (right_nests (length s.outer) p.nesting q.nesting h)) (right_most p.arity q.arity k)
    (λ j. let l = inside_next t s (sym e) j in right_fits t.level.commas s.level.commas p.commas q.commas (c l) (f l))
    (λ u m d z. g u m (d ∙ e) (λ j. sum_of u.level.commas t.level.commas s.level.commas p.commas q.commas (z (inside_next s t e j)) (c j))))
only_formula (Measures.group {x = x} {y = y} {xs = xs} {ys = ys} {p = p} d e a) s i h k f g =
    only_or (limit_at s (role_of x.terminal) (next_role xs)) i (limit_from (after s (role_of x.terminal)) (i + 1) xs) (open_limit_none s (role_of x.terminal) (next_role xs) d (not_deep (length s.outer) p.nesting h))
    (subst (λ t. OnlyFormula (limit_from t (i + 1) xs)) (sym (opened s (role_of x.terminal) d))
    (only_formula a (record { level = ended 0; outer = s.level ∷ s.outer }) (i + 1) (nests_inside (length s.outer) p.nesting h) (left_most p.arity p.commas k) (λ j. to_none p.commas (right_most p.arity p.commas k))
    (λ t n o c.
    let closed_there = behind_close s t (role_of y.terminal) e o in
    only_or (limit_at t (role_of y.terminal) (next_role ys)) n (limit_from (after t (role_of y.terminal)) (n + 1) ys) (close_limit t (role_of y.terminal) (next_role ys) e)
    (g (after t (role_of y.terminal)) (n + 1) closed_there.outer (λ j. closed_there.commas ∙ no_more s.level.commas)))))
