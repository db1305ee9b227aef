-- What holds in all, or in one, of the statements that a statement names.
use Rattle.std.specs.Prelude.{Bool, IsTrue}
use Rattle.ap_term.specs.Value.{Value}
use Rattle.element_form.specs.Ground.{Statement, HasName}

abbrev pub InAll : Statement → (Value → Bool) → Type 0
InAll st relation = (q : Value) → HasName st q → IsTrue (relation q)

abbrev pub InOne : Statement → (Value → Bool) → Type 0
InOne st relation = (q : Value) × HasName st q × IsTrue (relation q)
