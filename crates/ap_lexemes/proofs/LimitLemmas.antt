-- The scan for the first limit, token by token.
use Rattle.std.proofs.Common.{◌≡◌, ℕ, ⊎_elim, suc, ◌+◌, ◌<◌, ◌≤◌, List, [], ◌∷◌, ◌++◌, length, drop, refl, sym, ap, subst, ◌∙◌, arith}
use Rattle.std.proofs.lemmas.List.{append-nil, at_drop_more, at_drop_all}
use Rattle.std.proofs.lemmas.Bool.{cases_lt}
use Rattle.std.specs.Prelude.{Option, None, Some, IfSome}
use Rattle.ap_grammar.specs.Lexemes.{Lexeme}
use Rattle.ap_lex.specs.declared.token.Token.{Token}
use Rattle.ap_lexemes.specs.declared.limit.Limit.{Limit}
use Rattle.ap_lexemes.specs.declared.limit.LimitAt.{LimitAt}
use Rattle.ap_lexemes.specs.declared.role.Role.{Role}
use Rattle.ap_lexemes.specs.Lexemes.{lexemes_of}
use Rattle.ap_lexemes.specs.Scanning.{Goes}
use Rattle.ap_lexemes.specs.Limits.{Levels, after, first_limit, limit_at, limit_from, limit_or, next_role, no_levels, role_of}

step : (s : Levels) (i : ℕ) {front rest : List Lexeme} {x : Lexeme} → front ≡ x ∷ rest → limit_from s i front ≡ limit_or (limit_at s (next_role front) (next_role rest)) i (limit_from (after s (next_role front)) (i + 1) rest)
step s i e = rw e refl

gone : (o : Option Limit) {old new : Levels} → o ≡ None → Goes old new o → new ≡ old
gone None e g = g
gone (Some l) e g = cc

module _ (text : List ℕ) (file : ℕ) where
  here : (xs : List Token) (s : Levels) (i : ℕ) → i < length xs
      → limit_from s i (lexemes_of text file (drop i xs)) ≡ limit_or (limit_at s (next_role (lexemes_of text file (drop i xs))) (next_role (lexemes_of text file (drop (i + 1) xs)))) i (limit_from (after s (next_role (lexemes_of text file (drop i xs)))) (i + 1) (lexemes_of text file (drop (i + 1) xs)))
  here [] s i lt = absurd (omega (arith, lt))
  here (x ∷ xs) s i lt = step s i (ap (lexemes_of text file) (at_drop_more (λ rs. rs) (x ∷ xs) i x lt))

  module _ (xs : List Token) (s : Levels) (i : ℕ) {role next : Role} (lt : i < length xs) (at : role ≡ next_role (lexemes_of text file (drop i xs))) (behind : next ≡ next_role (lexemes_of text file (drop (i + 1) xs))) where
    by_roles : limit_from s i (lexemes_of text file (drop i xs)) ≡ limit_or (limit_at s role next) i (limit_from (after s role) (i + 1) (lexemes_of text file (drop (i + 1) xs)))
    by_roles = rw (at, behind) (here xs s i lt)

    -- the limit stands at the token
    pub limit_here : {o : Option Limit} {l : Limit} → o ≡ limit_at s role next → o ≡ Some l → limit_from s i (lexemes_of text file (drop i xs)) ≡ Some (record { which = l; index = i })
    limit_here e is = by_roles ∙ ap (λ o. limit_or o i (limit_from (after s role) (i + 1) (lexemes_of text file (drop (i + 1) xs)))) (sym e ∙ is)

    -- none does
    pub limit_later : (o : Option Limit) (new : Levels) → o ≡ limit_at s role next → o ≡ None → Goes (after s role) new o → limit_from s i (lexemes_of text file (drop i xs)) ≡ limit_from new (i + 1) (lexemes_of text file (drop (i + 1) xs))
    limit_later o new e is goes = rw (gone o is goes) (by_roles ∙ ap (λ o. limit_or o i (limit_from (after s role) (i + 1) (lexemes_of text file (drop (i + 1) xs)))) (sym e ∙ is))

  pub limit-nowhere : (xs : List Token) (s : Levels) (i : ℕ) → length xs ≤ i → limit_from s i (lexemes_of text file (drop i xs)) ≡ None
  limit-nowhere xs s i le = at_drop_all (λ rs. limit_from s i (lexemes_of text file rs)) xs i le

-- ---- what a limit hangs on

abbrev IsWithin : ℕ → ℕ → Option LimitAt → Type 0
IsWithin from count o = IfSome o (λ l. (from ≤ l.index) × (l.index < from + count))

within_or : (o : Option Limit) (i n : ℕ) (later : Option LimitAt) → IsWithin (i + 1) n later → IsWithin i (suc n) (limit_or o i later)
within_or (Some l) i n later w = (omega arith, omega arith)
within_or None i n None w = w
within_or None i n (Some l) w = (omega (arith, w.0), omega (arith, w.1))

-- a limit stands at one of the tokens
within : (s : Levels) (i : ℕ) (xs : List Lexeme) → IsWithin i (length xs) (limit_from s i xs)
within s i [] = tt
within s i (x ∷ xs) = within_or (limit_at s (role_of x.terminal) (next_role xs)) i (length xs) _ (within (after s (role_of x.terminal)) (i + 1) xs)

is_within : (s : Levels) (i : ℕ) (xs : List Lexeme) (l : LimitAt) → limit_from s i xs ≡ Some l → (i ≤ l.index) × (l.index < i + length xs)
is_within s i xs l e = subst (IsWithin i (length xs)) e (within s i xs)

-- The first limit is the same whatever follows the token behind it.
same_or : (o : Option Limit) (i : ℕ) (l : LimitAt) (later other : Option LimitAt) → (later ≡ Some l → other ≡ Some l) → limit_or o i later ≡ Some l → limit_or o i other ≡ Some l
same_or (Some k) i l later other f e = e
same_or None i l later other f e = f e

pub same-limit : (s : Levels) (i : ℕ) (front rest other : List Lexeme) (l : LimitAt) → limit_from s i (front ++ rest) ≡ Some l → l.index + 2 ≤ i + length front → limit_from s i (front ++ other) ≡ Some l
same-limit s i [] rest other l e le = let w = is_within s i rest l e in absurd (omega (arith, w.0))
same-limit s i (x ∷ []) rest other l e le = let w = is_within s i (x ∷ rest) l e in absurd (omega (arith, w.0))
same-limit s i (x ∷ y ∷ front) rest other l e le =
    same_or (limit_at s (role_of x.terminal) (role_of y.terminal)) i l _ _ (λ f. same-limit (after s (role_of x.terminal)) (i + 1) (y ∷ front) rest other l f (omega arith)) e

pub same-first : (front rest other : List Lexeme) (l : LimitAt) → first_limit (front ++ rest) ≡ Some l → l.index + 2 ≤ length front → first_limit (front ++ other) ≡ Some l
same-first front rest other l e le = same-limit no_levels 0 front rest other l e (omega arith)

-- a limit of a front that does not stand at its last token is a limit of the whole
not_two : (front rest : List Lexeme) (l m : LimitAt) → first_limit (front ++ rest) ≡ Some l → length front ≤ l.index → first_limit front ≡ Some m → m.index + 2 ≤ length front → ⊥
not_two front rest l m e le h lt =
    let same : Some m ≡ Some l = sym (same-first front [] rest m (ap first_limit (append-nil front) ∙ h) lt) ∙ e in
    let is : m ≡ l = cc in
    omega (arith, ap (λ (l : LimitAt). l.index) is)

at_last : (front rest : List Lexeme) (l m : LimitAt) → first_limit (front ++ rest) ≡ Some l → length front ≤ l.index → first_limit front ≡ Some m → m.index < 0 + length front → m.index + 1 ≡ length front
at_last front rest l m e le h lt = ⊎_elim (λ a. absurd (not_two front rest l m e le h (omega (arith, a)))) (λ b. omega (arith, b)) (cases_lt (m.index + 1) (length front))

-- A front that ends before the limit has none, but it may have one at its last token, behind which the text goes on.
pub front-first : (front rest : List Lexeme) (l : LimitAt) → first_limit (front ++ rest) ≡ Some l → length front ≤ l.index → IfSome (first_limit front) (λ m. m.index + 1 ≡ length front)
front-first front rest l e le = go (first_limit front) refl
  where
    go : (o : Option LimitAt) → first_limit front ≡ o → IfSome o (λ m. m.index + 1 ≡ length front)
    go None h = tt
    go (Some m) h = at_last front rest l m e le h (is_within no_levels 0 front m h).1
