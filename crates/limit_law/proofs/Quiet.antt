-- Tokens at which no limit of formulas stands, whatever follows them.
use Rattle.std.proofs.Common.{◌≡◌, ◌≢◌, ◌≤◌, Bool, true, false, List, [], ◌∷◌, ◌++◌, refl, sym, subst, if◌then◌else◌}
use Rattle.std.specs.Prelude.{None, Some, nat_le, length}
use Rattle.ap_grammar.specs.Lexemes.{Lexeme}
use Rattle.ap_lexemes.specs.declared.limit.Limit.TheVariants.{Arity, Formula, Nesting}
use Rattle.ap_lexemes.specs.declared.role.Role.{Role}
use Rattle.ap_lexemes.specs.declared.role.Role.TheVariants.{Name, Not, And, Or, Open, Close, Comma, Dot, Other}
use Rattle.ap_lexemes.specs.Limits.{Levels, after, depth_of, is_full, limit_at, next_role, role_of}
use Rattle.limit_law.specs.Depths.{scan}
use Rattle.limit_law.specs.Stands.{Stands}
use Rattle.limit_law.proofs.Limits.{no_atom_at, no_formula_at}

pub scan_append : (s : Levels) (xs ys : List Lexeme) → scan s (xs ++ ys) ≡ scan (scan s xs) ys
scan_append s [] ys = refl
scan_append s (x ∷ xs) ys = scan_append (after s (role_of x.terminal)) xs ys

-- none stands at a token that does this
abbrev pub Silent : Levels → Role → Type 0
Silent s r = (next : Role) → limit_at s r next ≢ Some Formula

abbrev pub Quiet : Levels → List Lexeme → Type 0
Quiet s [] = Unit {0}
Quiet s (x ∷ xs) = Silent s (role_of x.terminal) × Quiet (after s (role_of x.terminal)) xs

pub quiet_append : (s : Levels) (xs ys : List Lexeme) → Quiet s xs → Quiet (scan s xs) ys → Quiet s (xs ++ ys)
quiet_append s [] ys q r = r
quiet_append s (x ∷ xs) ys q r = (q.0, quiet_append (after s (role_of x.terminal)) xs ys q.1 r)

pub quiet_then : (xs ys : List Lexeme) (s t : Levels) → scan s xs ≡ t → Quiet s xs → Quiet t ys → Quiet s (xs ++ ys)
quiet_then xs ys s t e q r = quiet_append s xs ys q (subst (λ u. Quiet u ys) (sym e) r)

-- ---- token by token

pub a_nesting : (b : Bool) → (if b then Some Nesting else None) ≢ Some Formula
a_nesting true = λ e. cc
a_nesting false = λ e. cc

pub an_arity : (b : Bool) → (if b then Some Arity else None) ≢ Some Formula
an_arity true = λ e. cc
an_arity false = λ e. cc

pub silent : (s : Levels) (r : Role) → depth_of (after s r).level ≤ 64 → Silent s r
silent s Name h next = no_atom_at (after s Name).level next h
silent s Close h next = no_formula_at (after s Close).level next h
silent s Open h next = a_nesting (nat_le 32 (length s.outer))
silent s Comma h next = an_arity (is_full s.level s.outer)
silent s Not h next = λ e. cc
silent s And h next = λ e. cc
silent s Or h next = λ e. cc
silent s Dot h next = λ e. cc
silent s Other h next = λ e. cc

pub silent_is : (s : Levels) {r q : Role} → r ≡ q → Silent s q → Silent s r
silent_is s e h = subst (Silent s) (sym e) h

pub silent_not : (s : Levels) → Silent s Not
silent_not s next = λ e. cc

pub silent_and : (s : Levels) → Silent s And
silent_and s next = λ e. cc

pub silent_or : (s : Levels) → Silent s Or
silent_or s next = λ e. cc

-- ---- none stands there

pub silent_here : (s : Levels) (front more : List Lexeme) (y : Lexeme) → Quiet s (front ++ (y ∷ more)) → Silent (scan s front) (role_of y.terminal)
silent_here s [] more y q = q.0
silent_here s (x ∷ front) more y q = silent_here (after s (role_of x.terminal)) front more y q.1

pub none_stands : (s : Levels) (read rest : List Lexeme) → Quiet s read → Stands s read rest → ⊥
none_stands s read rest q h = silent_here s h.before h.behind h.here (subst (Quiet s) h.are q) (next_role (h.behind ++ rest)) h.stands
