-- What the functions that read sections and texts did to the tokens.
use Rattle.std.specs.Prelude.{◌≡◌, List, [], ◌∷◌, ◌++◌, map}
use Rattle.ap_syntax.specs.declared.programs.Statement.{Statement}
use Rattle.ap_grammar.specs.Values.{Value}

-- the statements before, and those that were read
pub record IsMore (before all : List Statement) (vs : List Value) : Type 0 where
  pub more : List Statement
  pub values : vs ≡ map Value.statement more
  pub grown : all ≡ before ++ more

-- the statements before, and those of a section
pub record IsSection (before all : List Statement) (vs : List Value) : Type 0 where
  pub more : List Statement
  pub value : vs ≡ Value.program more ∷ []
  pub grown : all ≡ before ++ more

-- the statements of a text
abbrev pub IsProgram : List Statement → List Value → Type 0
IsProgram all vs = vs ≡ Value.program all ∷ []
