-- The scan of tokens in parentheses, and of those that keep the levels around them.
use Rattle.std.proofs.Common.{◌≡◌, ℕ, zero, suc, ◌≤◌, Bool, true, false, List, [], ◌∷◌, ◌++◌, refl, sym, ap, ◌∙◌, append_assoc, arith, subst}
use Rattle.std.specs.Prelude.{◌==◌, if◌then◌else◌}
use Rattle.ap_grammar.specs.Lexemes.{Lexeme}
use Rattle.ap_lexemes.specs.declared.levels.Level.{Level}
use Rattle.ap_lexemes.specs.declared.role.Role.{Role}
use Rattle.ap_lexemes.specs.declared.role.Role.TheVariants.{Name, Not, And, Or, Open, Close, Comma, Dot, Other}
use Rattle.ap_lexemes.specs.Limits.{Levels, after, closed, closes, depth_of, ended, member_depth, role_of, with_member}
use Rattle.limit_law.specs.Depths.{scan}
use Rattle.limit_law.proofs.Last.{Last, last_behind, last_one}
use Rattle.limit_law.proofs.Quiet.{Quiet, Silent, quiet_append, scan_append, silent}

-- ---- parentheses

-- a new level inside
abbrev pub inside : Levels → Levels
inside s = record { level = ended 0; outer = s.level ∷ s.outer }

-- behind parentheses in which a formula of this depth stands
abbrev pub around : Levels → ℕ → Levels
around s depth = record { level = closed s.level depth; outer = s.outer }

closes_to : (l o : Level) (outer os : List Level) → outer ≡ o ∷ os → closes l outer ≡ record { level = closed o (depth_of l); outer = os }
closes_to l o outer os e = rw e refl

pub after_is : (s : Levels) (x : Lexeme) {r : Role} → role_of x.terminal ≡ r → after s (role_of x.terminal) ≡ after s r
after_is s x e = ap (after s) e

-- the levels behind a `)`
behind_close : (s t : Levels) (y : Lexeme) → role_of y.terminal ≡ Close → t.outer ≡ s.level ∷ s.outer → after t (role_of y.terminal) ≡ around s (depth_of t.level)
behind_close s t y f kept = after_is t y f ∙ closes_to t.level s.level t.outer s.outer kept

-- what stands between two parentheses and keeps the levels around it
pub scan_group : (s : Levels) (x y : Lexeme) (read : List Lexeme) → role_of x.terminal ≡ Open → role_of y.terminal ≡ Close → (scan (inside s) read).outer ≡ s.level ∷ s.outer → scan s (x ∷ (read ++ (y ∷ []))) ≡ around s (depth_of (scan (inside s) read).level)
scan_group s x y read e f kept =
    ap (λ t. scan t (read ++ (y ∷ []))) (after_is s x e)
    ∙ (scan_append (inside s) read (y ∷ [])
    ∙ behind_close s (scan (inside s) read) y f kept)

opens_silent : (s : Levels) (r : Role) → r ≡ Open → Silent s r
opens_silent s r e = rw e (silent s Open (omega arith))

pub quiet_group : (s : Levels) (x y : Lexeme) (read : List Lexeme) → role_of x.terminal ≡ Open → role_of y.terminal ≡ Close → (scan (inside s) read).outer ≡ s.level ∷ s.outer → depth_of (around s (depth_of (scan (inside s) read).level)).level ≤ 64 → Quiet (inside s) read → Quiet s (x ∷ (read ++ (y ∷ [])))
quiet_group s x y read e f kept h q = (
  opens_silent s (role_of x.terminal) e,
  subst (λ t. Quiet t (read ++ (y ∷ []))) (sym (after_is s x e)) (quiet_append (inside s) read (y ∷ []) q (silent (scan (inside s) read) (role_of y.terminal) (subst (λ t. depth_of t.level ≤ 64) (sym (behind_close s (scan (inside s) read) y f kept)) h), tt)),
)

-- ---- levels with no sign between formulas

-- The last member, where there is one, has at most this depth.
pub record Bare (k : ℕ) (l : Level) : Type 0 where
  pub disjunction : l.disjunction ≡ 0
  pub conjunction : l.conjunction ≡ 0
  pub member : l.member ≤ k
  pub named : member_depth l.negated 1 ≤ k
  pub small : k ≤ 64

pub bare_ended : (k c : ℕ) → 1 ≤ k → k ≤ 64 → Bare k (ended c)
bare_ended k c h i = record { disjunction = refl; conjunction = refl; member = omega arith; named = h; small = i }

pub bare_depth : (k : ℕ) (l : Level) → Bare k l → depth_of l ≤ 64
bare_depth k l b = rw (b.disjunction, b.conjunction) (omega (arith, b.member, b.small))

least_named : (n : Bool) → 1 ≤ member_depth n 1
least_named true = omega arith
least_named false = omega arith

pub bare_least : (k : ℕ) (l : Level) → Bare k l → 1 ≤ k
bare_least k l b = omega (arith, b.named, least_named l.negated)

member_least : (n : Bool) (d k : ℕ) → d ≤ 1 → member_depth n 1 ≤ k → member_depth n d ≤ k
member_least true zero k h i = omega (arith, i)
member_least true (suc d) k h i = let e : suc d ≡ 1 = omega arith in rw e i
member_least false d k h i = omega (arith, i)

pub bare_member : (k d : ℕ) (l : Level) → d ≤ 1 → Bare k l → Bare k (with_member l d)
bare_member k d l h b = record { disjunction = b.disjunction; conjunction = b.conjunction; member = member_least l.negated d k h b.named; named = b.named; small = b.small }

pub bare_closed : (k d : ℕ) (l : Level) → d ≤ 1 → Bare k l → Bare k (closed l d)
bare_closed k d l h b = choose (l.member == 0)
  where
    choose : (empty : Bool) → Bare k (if empty then with_member l d else l)
    choose true = bare_member k d l h b
    choose false = b

-- ---- tokens that keep the levels around them

-- from these levels the tokens keep those around, and no formula deeper than a member ends
pub record Keeps (k : ℕ) (s : Levels) (read : List Lexeme) : Type 0 where
  pub outer : (scan s read).outer ≡ s.outer
  pub bare : Bare k (scan s read).level
  pub quiet : Quiet s read

-- whether `not` may be among the tokens
abbrev pub Fits : Bool → ℕ → Type 0
Fits with_not k = with_not ≡ true → 2 ≤ k

pub record Kept (with_not : Bool) (xs ys : List Lexeme) : Type 0 where
  pub read : List Lexeme
  pub tokens : xs ≡ read ++ ys
  pub keeps : (k : ℕ) (s : Levels) → Fits with_not k → Bare k s.level → Keeps k s read

pub kept_none : {n : Bool} (xs : List Lexeme) → Kept n xs xs
kept_none xs = record { read = []; tokens = refl; keeps = λ k s h b. record { outer = refl; bare = b; quiet = tt } }

pub kept_more : (n : Bool) {xs ys : List Lexeme} → Kept false xs ys → Kept n xs ys
kept_more n a = record { read = a.read; tokens = a.tokens; keeps = λ k s h b. a.keeps k s (λ e. absurd cc) b }

pub tokens_then : (a b zs : List Lexeme) {xs ys : List Lexeme} → xs ≡ a ++ ys → ys ≡ b ++ zs → xs ≡ (a ++ b) ++ zs
tokens_then a b zs e f = e ∙ (ap (λ ts. a ++ ts) f ∙ sym (append_assoc a b zs))

pub keeps_then : (k : ℕ) (s : Levels) (xs ys : List Lexeme) → Keeps k s xs → Keeps k (scan s xs) ys → Keeps k s (xs ++ ys)
keeps_then k s xs ys a b = record {
  outer = ap (λ (t : Levels). t.outer) (scan_append s xs ys) ∙ (b.outer ∙ a.outer);
  bare = subst (λ (t : Levels). Bare k t.level) (sym (scan_append s xs ys)) b.bare;
  quiet = quiet_append s xs ys a.quiet b.quiet;
}

pub kept_then : {n : Bool} {xs ys zs : List Lexeme} → Kept n xs ys → Kept n ys zs → Kept n xs zs
kept_then {zs = zs} a b = record {
  read = a.read ++ b.read;
  tokens = tokens_then a.read b.read zs a.tokens b.tokens;
  keeps = λ k s h c. let first = a.keeps k s h c in keeps_then k s a.read b.read first (b.keeps k (scan s a.read) h first.bare);
}

-- whether a token keeps the levels around it, and stands between no formulas
abbrev pub is_flat : Bool → Role → Bool
is_flat n Not = n
is_flat n And = false
is_flat n Or = false
is_flat n Open = false
is_flat n Close = false
is_flat n Dot = false
is_flat n r = true

pub flat_outer : (n : Bool) (s : Levels) (r : Role) → is_flat n r ≡ true → (after s r).outer ≡ s.outer
flat_outer n s Name h = refl
flat_outer n s Not h = refl
flat_outer n s And h = cc
flat_outer n s Or h = cc
flat_outer n s Open h = cc
flat_outer n s Close h = cc
flat_outer n s Comma h = refl
flat_outer n s Dot h = cc
flat_outer n s Other h = refl

flat_bare : (n : Bool) (k : ℕ) (s : Levels) (r : Role) → is_flat n r ≡ true → Fits n k → Bare k s.level → Bare k (after s r).level
flat_bare n k s Name h f b = bare_member k 1 s.level (omega arith) b
flat_bare n k s Not h f b = record { disjunction = b.disjunction; conjunction = b.conjunction; member = omega arith; named = f h; small = b.small }
flat_bare n k s And h f b = absurd cc
flat_bare n k s Or h f b = absurd cc
flat_bare n k s Open h f b = absurd cc
flat_bare n k s Close h f b = absurd cc
flat_bare n k s Comma h f b = bare_ended k _ (bare_least k s.level b) b.small
flat_bare n k s Dot h f b = absurd cc
flat_bare n k s Other h f b = bare_ended k _ (bare_least k s.level b) b.small

pub kept_token : {n : Bool} (x : Lexeme) (xs : List Lexeme) → is_flat n (role_of x.terminal) ≡ true → Kept n (x ∷ xs) xs
kept_token {n = n} x xs h = record {
  read = x ∷ [];
  tokens = refl;
  keeps = λ k s f b.
      let c = flat_bare n k s (role_of x.terminal) h f b in
      record { outer = flat_outer n s (role_of x.terminal) h; bare = c; quiet = (silent s (role_of x.terminal) (bare_depth k (after s (role_of x.terminal)).level c), tt) };
}

-- ---- tokens between parentheses, with these

pub record Groups (s : Levels) (read : List Lexeme) : Type 0 where
  pub depth : ℕ
  pub least : depth ≤ 1
  pub scanned : scan s read ≡ around s depth
  pub quiet : depth_of (around s depth).level ≤ 64 → Quiet s read

pub record Grouped (xs ys : List Lexeme) : Type 0 where
  pub read : List Lexeme
  pub tokens : xs ≡ read ++ ys
  pub last : Last read
  pub groups : (s : Levels) → Groups s read

pub group_tokens : (x y : Lexeme) (read ys : List Lexeme) {xs : List Lexeme} → xs ≡ read ++ (y ∷ ys) → x ∷ xs ≡ (x ∷ (read ++ (y ∷ []))) ++ ys
group_tokens x y read ys e = ap (λ ts. x ∷ ts) (e ∙ sym (append_assoc read (y ∷ []) ys))

pub last_close : (x y : Lexeme) (read : List Lexeme) → role_of y.terminal ≡ Close → Last (x ∷ (read ++ (y ∷ [])))
last_close x y read f = last_behind (x ∷ read) (last_one y (rw f refl))

bare_least_depth : (l : Level) → Bare 1 l → depth_of l ≤ 1
bare_least_depth l b = rw (b.disjunction, b.conjunction) b.member

groups_of : (x y : Lexeme) (s : Levels) (read : List Lexeme) → role_of x.terminal ≡ Open → role_of y.terminal ≡ Close → Keeps 1 (inside s) read → Groups s (x ∷ (read ++ (y ∷ [])))
groups_of x y s read e f k = record {
  depth = depth_of (scan (inside s) read).level;
  least = bare_least_depth (scan (inside s) read).level k.bare;
  scanned = scan_group s x y read e f k.outer;
  quiet = λ h. quiet_group s x y read e f k.outer h k.quiet;
}

pub group : (x y : Lexeme) {xs ys : List Lexeme} → role_of x.terminal ≡ Open → Kept false xs (y ∷ ys) → role_of y.terminal ≡ Close → Grouped (x ∷ xs) ys
group x y {ys = ys} e k f = record {
  read = x ∷ (k.read ++ (y ∷ []));
  tokens = group_tokens x y k.read ys k.tokens;
  last = last_close x y k.read f;
  groups = λ s. groups_of x y s k.read e f (k.keeps 1 (inside s) (λ e. absurd cc) (bare_ended 1 0 (omega arith) (omega arith)));
}

keeps_group : (k : ℕ) (s : Levels) (read : List Lexeme) → Bare k s.level → Groups s read → Keeps k s read
keeps_group k s read b g =
    let c = bare_closed k g.depth s.level g.least b in
    record { outer = ap (λ (t : Levels). t.outer) g.scanned; bare = subst (λ (t : Levels). Bare k t.level) (sym g.scanned) c; quiet = g.quiet (bare_depth k (closed s.level g.depth) c) }

pub grouped_kept : {n : Bool} {xs ys : List Lexeme} → Grouped xs ys → Kept n xs ys
grouped_kept g = record { read = g.read; tokens = g.tokens; keeps = λ k s h b. keeps_group k s g.read b (g.groups s) }
