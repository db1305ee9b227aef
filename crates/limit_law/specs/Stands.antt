-- Formulas among the tokens of a text, and where a limit of formulas stands.
use Rattle.std.specs.Prelude.{◌≡◌, false, List, [], ◌∷◌, ◌++◌, Some}
use Rattle.grammar.specs.Form.{Derives}
use Rattle.grammar.specs.Form.Form.{Call}
use Rattle.ap_grammar.specs.Grammar.{Name, grammar}
use Rattle.ap_grammar.specs.Lexemes.{Lexeme}
use Rattle.ap_grammar.specs.Values.Value.{formula}
use Rattle.ap_lexemes.specs.Limits.{Levels, limit_at, next_role, role_of}
use Rattle.ap_lexemes.specs.declared.limit.Limit.TheVariants as limits
use Rattle.ap_syntax.specs.declared.preferences.Formula.{Formula}
use Rattle.limit_law.specs.Depths.{IsFresh, scan}

-- The tokens, behind which there are others, are a formula with this tree, and it is the first one of its level.
pub record IsFormula (s : Levels) (read rest : List Lexeme) (f : Formula) : Type 0 where
  pub fresh : IsFresh s.level
  pub first : Lexeme
  pub derives : Derives grammar (Call Name.Formula) (read ++ rest) rest (formula first f ∷ [])

-- The tokens, behind which there are others, are a conjunction with this tree, the first one of its level or one behind a `|`.
-- What stands before a `&` is a conjunction too.
pub record IsConjunction (s : Levels) (read rest : List Lexeme) (f : Formula) : Type 0 where
  pub conjunction : s.level.conjunction ≡ 0
  pub negated : s.level.negated ≡ false
  pub member : s.level.member ≡ 0
  pub first : Lexeme
  pub derives : Derives grammar (Call Name.Conjunction) (read ++ rest) rest (formula first f ∷ [])

-- a limit of formulas stands at one of these tokens, behind which there are others
pub record Stands (s : Levels) (read rest : List Lexeme) : Type 0 where
  pub before : List Lexeme
  pub here : Lexeme
  pub behind : List Lexeme
  pub are : read ≡ before ++ (here ∷ behind)
  pub stands : limit_at (scan s before) (role_of here.terminal) (next_role (behind ++ rest)) ≡ Some limits.Formula
