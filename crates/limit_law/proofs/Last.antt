-- The last token of a member: a name or a `)`.
use Rattle.std.proofs.Common.{◌≡◌, ◌≢◌, Bool, true, false, List, [], ◌∷◌, ◌++◌, refl, sym, ap, subst, ◌∙◌, append_assoc}
use Rattle.std.specs.Prelude.{Some}
use Rattle.ap_grammar.specs.Lexemes.{Lexeme}
use Rattle.ap_lexemes.specs.declared.limit.Limit.TheVariants.{Formula}
use Rattle.ap_lexemes.specs.declared.role.Role.{Role}
use Rattle.ap_lexemes.specs.declared.role.Role.TheVariants.{Name, Not, And, Or, Open, Close, Comma, Dot, Other}
use Rattle.ap_lexemes.specs.Limits.{Levels, after, atom_limit, formula_limit, limit_at, next_role, role_of}
use Rattle.limit_law.specs.Depths.{scan}
use Rattle.limit_law.specs.Stands.{Stands}
use Rattle.limit_law.specs.Inside.{StandsBefore}
use Rattle.limit_law.proofs.Quiet.{scan_append}

abbrev pub is_end : Role → Bool
is_end Name = true
is_end Close = true
is_end r = false

pub record Last (read : List Lexeme) : Type 0 where
  pub front : List Lexeme
  pub end : Lexeme
  pub are : read ≡ front ++ (end ∷ [])
  pub ends : is_end (role_of end.terminal) ≡ true

pub last_one : (x : Lexeme) → is_end (role_of x.terminal) ≡ true → Last (x ∷ [])
last_one x h = record { front = []; end = x; are = refl; ends = h }

pub last_behind : (xs : List Lexeme) {ys : List Lexeme} → Last ys → Last (xs ++ ys)
last_behind xs l = record { front = xs ++ l.front; end = l.end; are = ap (λ ts. xs ++ ts) l.are ∙ sym (append_assoc xs l.front (l.end ∷ [])); ends = l.ends }

atom_ends : (s : Levels) (next : Role) → next ≢ Open → formula_limit s.level next ≡ Some Formula → atom_limit s.level next ≡ Some Formula
atom_ends s Open n e = absurd (n refl)
atom_ends s Name n e = e
atom_ends s Not n e = e
atom_ends s And n e = e
atom_ends s Or n e = e
atom_ends s Close n e = e
atom_ends s Comma n e = e
atom_ends s Dot n e = e
atom_ends s Other n e = e

limit_there : (s : Levels) (r next : Role) → is_end r ≡ true → next ≢ Open → formula_limit (after s r).level next ≡ Some Formula → limit_at s r next ≡ Some Formula
limit_there s Name next h n e = atom_ends (after s Name) next n e
limit_there s Close next h n e = e
limit_there s Not next h n e = cc
limit_there s And next h n e = cc
limit_there s Or next h n e = cc
limit_there s Open next h n e = cc
limit_there s Comma next h n e = cc
limit_there s Dot next h n e = cc
limit_there s Other next h n e = cc

limit_last : (s : Levels) (read rest : List Lexeme) (l : Last read) → next_role rest ≢ Open → formula_limit (scan s read).level (next_role rest) ≡ Some Formula → limit_at (scan s l.front) (role_of l.end.terminal) (next_role rest) ≡ Some Formula
limit_last s read rest l n e = limit_there (scan s l.front) (role_of l.end.terminal) (next_role rest) l.ends n (subst (λ (t : Levels). formula_limit t.level (next_role rest) ≡ Some Formula) (ap (scan s) l.are ∙ scan_append s l.front (l.end ∷ [])) e)

-- the limit stands where the tokens end
pub stands_last : (s : Levels) (read rest : List Lexeme) → Last read → next_role rest ≢ Open → formula_limit (scan s read).level (next_role rest) ≡ Some Formula → Stands s read rest
stands_last s read rest l n e = record { before = l.front; here = l.end; behind = []; are = l.are; stands = limit_last s read rest l n e }

pub stands_before : (s : Levels) (read rest : List Lexeme) → Last read → next_role rest ≢ Open → formula_limit (scan s read).level (next_role rest) ≡ Some Formula → StandsBefore s (read ++ rest) rest
stands_before s read rest l n e = record { before = l.front; here = l.end; are = ap (λ ts. ts ++ rest) l.are ∙ append_assoc l.front (l.end ∷ []) rest; stands = limit_last s read rest l n e }
