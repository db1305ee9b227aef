-- The formulas of a statement that two sets satisfy, compared as sets. A set is given by the formulas that it satisfies.
use Rattle.std.specs.Prelude.{Bool, IsTrue}
use Rattle.ap_term.specs.Value.{Value}
use Rattle.element_form.specs.Ground.{Statement, HasFormula}

-- each formula of the statement that the one set satisfies is satisfied by the other
abbrev pub IsPart : Statement → (Value → Bool) → (Value → Bool) → Type 0
IsPart st one other = (f : Value) → HasFormula st f → IsTrue (one f) → IsTrue (other f)

-- and not the other way round
abbrev pub IsProperPart : Statement → (Value → Bool) → (Value → Bool) → Type 0
IsProperPart st one other = IsPart st one other × (IsPart st other one → ⊥)

-- they satisfy the same formulas
abbrev pub IsSame : Statement → (Value → Bool) → (Value → Bool) → Type 0
IsSame st one other = IsPart st one other × IsPart st other one
