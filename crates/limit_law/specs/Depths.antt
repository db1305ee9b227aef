-- The depth of a formula, by its tree, and the scan of some tokens.
use Rattle.std.specs.Prelude.{◌≡◌, ℕ, ◌+◌, false, List, [], ◌∷◌, fold, max, min}
use Rattle.ap_syntax.specs.declared.preferences.Formula.{Formula, fold-Formula}
use Rattle.ap_syntax.specs.declared.preferences.Formula.TheOpen.{Formula-F}
use Rattle.ap_grammar.specs.Lexemes.{Lexeme}
use Rattle.ap_lexemes.specs.Limits.{Levels, after, role_of}
use Rattle.ap_lexemes.specs.declared.levels.Level.{Level}

-- signs of one kind, nested to the left: each is one deeper than the deeper one of its two sides
abbrev pub chain_depth : List ℕ → ℕ
chain_depth [] = 0
chain_depth (d ∷ ds) = fold (λ left right. max left right + 1) d ds

abbrev pub depth_step : Formula-F ℕ → ℕ
depth_step (Formula-F.Atom atom) = 1
depth_step (Formula-F.Not inner) = inner + 1
depth_step (Formula-F.And members) = chain_depth members
depth_step (Formula-F.Or members) = chain_depth members

abbrev pub depth : Formula → ℕ
depth = fold-Formula ℕ depth_step

-- as far as the scan tells depths apart
abbrev pub capped : ℕ → ℕ
capped d = min d 65

-- the levels behind some tokens
abbrev pub scan : Levels → List Lexeme → Levels
scan s read = fold (λ (levels : Levels) (x : Lexeme). after levels (role_of x.terminal)) s read

-- nothing of a formula stands at the level yet
pub record IsFresh (l : Level) : Type 0 where
  pub disjunction : l.disjunction ≡ 0
  pub conjunction : l.conjunction ≡ 0
  pub negated : l.negated ≡ false
  pub member : l.member ≡ 0
