-- What the functions that read guards did to the tokens.
use Rattle.std.specs.Prelude.{◌≡◌, List, [], ◌∷◌, Option, Some, None}
use Rattle.ap_syntax.specs.declared.rules.Guard.{Guard}
use Rattle.ap_grammar.specs.Values.{Value}

abbrev pub IsRightGuard : Guard → List Value → Type 0
IsRightGuard g vs = vs ≡ Value.right g ∷ []

-- the guard, or none where nothing begins one
pub data IsOptionalGuard : Option Guard → List Value → Type 0 where
  absent : IsOptionalGuard None []
  present : {g : Guard} → IsOptionalGuard (Some g) (Value.right g ∷ [])
