-- The order of the type `poset` (after Dershowitz and Manna 1979).
use Rattle.std.specs.Prelude.{Bool, IsTrue, IsFalse}
use Rattle.ap_term.specs.Value.{Value}
use Rattle.element_form.specs.Facts.{Asked}
use Rattle.element_form.specs.Greater.{IsGreater}
use Rattle.element_form.specs.Ground.{Statement, HasFormula}

-- a formula of the statement that the one set satisfies, and the other does not
abbrev pub IsAlone : Statement → (Value → Bool) → (Value → Bool) → Value → Type 0
IsAlone st one other f = HasFormula st f × IsTrue (one f) × IsFalse (other f)

-- each formula of the old set alone has a greater one of the new set alone
abbrev pub IsCovered : Statement → Asked → Type 0
IsCovered st asked = (g : Value) → IsAlone st asked.old asked.new g
    → (f : Value) × IsAlone st asked.new asked.old f × IsGreater st f g
