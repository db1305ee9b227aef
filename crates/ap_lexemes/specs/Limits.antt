-- The limits of a text, as a scan of its tokens finds them. What the scan says of formulas it says of every list of tokens;
-- in texts of the grammar it is the depth of the formulas that stand there.
use Rattle.std.specs.Prelude.{ℕ, ◌+◌, ◌==◌, ◌&&◌, ◌||◌, not, Bool, true, false, List, [], ◌∷◌, Option, None, Some, length, max, nat_le, if◌then◌else◌}
use Rattle.ap_grammar.specs.Lexemes.{Lexeme}
use Rattle.ap_grammar.specs.declared.terminals.Terminal.{Terminal}
use Rattle.ap_grammar.specs.declared.terminals.Terminal.TheVariants as t
use Rattle.ap_lexemes.specs.declared.levels.Level.{Level}
use Rattle.ap_lexemes.specs.declared.limit.Limit.{Limit}
use Rattle.ap_lexemes.specs.declared.limit.Limit.TheVariants.{Nesting, Arity, Formula}
use Rattle.ap_lexemes.specs.declared.limit.LimitAt.{LimitAt}
use Rattle.ap_lexemes.specs.declared.role.Role.{Role}
use Rattle.ap_lexemes.specs.declared.role.Role.TheVariants.{Name, Not, And, Or, Open, Close, Comma, Dot, Other}

-- ---- what a token does

abbrev pub role_of : Terminal → Role
role_of t.Word = Name
role_of t.Base = Name
role_of t.Preference = Name
role_of t.Not = Not
role_of t.And = And
role_of t.Or = Or
role_of t.Open = Open
role_of t.Close = Close
role_of t.Comma = Comma
role_of t.Dot = Dot
role_of other = Other

-- ---- depths; 0 where there is no formula

abbrev pub is_too_deep : ℕ → Bool
is_too_deep d = not (nat_le d 64)

-- one more; all that is too deep is alike
abbrev pub deeper : ℕ → ℕ
deeper d = if nat_le d 64 then d + 1 else d

-- the depth of two formulas with a sign between them, or of the one that is there
abbrev pub joined : ℕ → ℕ → ℕ
joined d e = if d == 0 then e else if e == 0 then d else deeper (max d e)

-- the depth of a member, with `not` before it or without
abbrev pub member_depth : Bool → ℕ → ℕ
member_depth negated d = if negated then deeper d else d

-- ---- levels: outside of all parentheses, and in each pair that is open

-- the depth of the last conjunction so far, and of the whole formula so far
abbrev pub conjunction_depth : Level → ℕ
conjunction_depth l = joined l.conjunction l.member

abbrev pub depth_of : Level → ℕ
depth_of l = joined l.disjunction (conjunction_depth l)

-- behind a member whose formula has this depth, behind `not`, behind `&`, behind `|`, and behind a token that ends the formula
abbrev pub with_member : Level → ℕ → Level
with_member l depth = record { commas = l.commas; disjunction = l.disjunction; conjunction = l.conjunction; negated = l.negated; member = member_depth l.negated depth }

abbrev pub with_not : Level → Level
with_not l = record { commas = l.commas; disjunction = l.disjunction; conjunction = l.conjunction; negated = true; member = 0 }

abbrev pub with_and : Level → Level
with_and l = record { commas = l.commas; disjunction = l.disjunction; conjunction = conjunction_depth l; negated = false; member = 0 }

abbrev pub with_or : Level → Level
with_or l = record { commas = l.commas; disjunction = depth_of l; conjunction = 0; negated = false; member = 0 }

abbrev pub ended : ℕ → Level
ended commas = record { commas = commas; disjunction = 0; conjunction = 0; negated = false; member = 0 }

-- Behind a `)`. What stood in the parentheses has this depth, and it is a member where no atom stands before them.
abbrev pub closed : Level → ℕ → Level
closed l depth =
    if l.member == 0 then with_member l depth else l

-- The innermost level, and those around it, from the inside.
pub record Levels : Type 0 where
  pub level : Level
  pub outer : List Level

abbrev pub no_levels : Levels
no_levels = record { level = ended 0; outer = [] }

abbrev pub closes : Level → List Level → Levels
closes l [] = no_levels
closes l (o ∷ os) = record { level = closed o (depth_of l); outer = os }

abbrev pub commas_behind : Level → List Level → ℕ
commas_behind l [] = 0
commas_behind l (o ∷ os) = l.commas + 1

-- the levels behind a token; a statement ends at its dot
abbrev pub after : Levels → Role → Levels
after s Name = record { level = with_member s.level 1; outer = s.outer }
after s Not = record { level = with_not s.level; outer = s.outer }
after s And = record { level = with_and s.level; outer = s.outer }
after s Or = record { level = with_or s.level; outer = s.outer }
after s Open = record { level = ended 0; outer = s.level ∷ s.outer }
after s Close = closes s.level s.outer
after s Comma = record { level = ended (commas_behind s.level s.outer); outer = s.outer }
after s Dot = no_levels
after s Other = record { level = ended s.level.commas; outer = s.outer }

-- ---- limits

-- whether the parentheses of this level hold as many members as they may
abbrev pub is_full : Level → List Level → Bool
is_full l [] = false
is_full l (o ∷ os) = nat_le 31 l.commas

abbrev pub is_and : Role → Bool
is_and And = true
is_and r = false

-- At the last token of a member a conjunction ends, and the whole formula does where no `&` follows.
abbrev pub formula_limit : Level → Role → Option Limit
formula_limit l next = if is_too_deep (conjunction_depth l) || (not (is_and next) && is_too_deep (depth_of l)) then Some Formula else None

-- an atom with arguments ends at their `)`
abbrev pub atom_limit : Level → Role → Option Limit
atom_limit l Open = None
atom_limit l next = formula_limit l next

abbrev pub open_limit : List Level → Option Limit
open_limit outer = if nat_le 32 (length outer) then Some Nesting else None

abbrev pub comma_limit : Level → List Level → Option Limit
comma_limit l outer = if is_full l outer then Some Arity else None

-- the limit that stands at a token, by the one behind it
abbrev pub limit_at : Levels → Role → Role → Option Limit
limit_at s Open next = open_limit s.outer
limit_at s Comma next = comma_limit s.level s.outer
limit_at s Name next = atom_limit (after s Name).level next
limit_at s Close next = formula_limit (after s Close).level next
limit_at s r next = None

abbrev pub next_role : List Lexeme → Role
next_role [] = Other
next_role (x ∷ xs) = role_of x.terminal

abbrev pub limit_or : Option Limit → ℕ → Option LimitAt → Option LimitAt
limit_or None i later = later
limit_or (Some l) i later = Some (record { which = l; index = i })

-- the first limit at the tokens from number i on
abbrev pub limit_from : Levels → ℕ → List Lexeme → Option LimitAt
limit_from s i [] = None
limit_from s i (x ∷ xs) = limit_or (limit_at s (role_of x.terminal) (next_role xs)) i (limit_from (after s (role_of x.terminal)) (i + 1) xs)

-- the first limit of a list of tokens
abbrev pub first_limit : List Lexeme → Option LimitAt
first_limit xs = limit_from no_levels 0 xs
