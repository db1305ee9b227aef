-- What a look at a clause tells.
use Rattle.std.specs.Prelude.{Bool, List, Option}
use Rattle.theory_form.specs.declared.literals.Lit.{Lit}
use Rattle.theory_form.specs.declared.looks.Sight.{Sight}
use Rattle.theory_form.specs.declared.looks.Sight.TheVariants.{True, Wide, Single, Empty}
use Rattle.theory_form.specs.Truth.{TrueAt, IsUnitAt, TwoFree, IsFalseClause}

-- this is what stands at these places of the clause
abbrev pub Shows : List (Option Bool) → List Lit → Sight → Type 0
Shows a c (True i) = TrueAt a c i
Shows a c (Wide i j) = TwoFree a c i j
Shows a c (Single i) = IsUnitAt a c i
Shows a c Empty = IsFalseClause a c
