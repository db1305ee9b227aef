-- Facts by number, beside the atoms that are handed in as certain.
use Rattle.std.specs.Prelude.{◌⊎◌, ℕ, Bool, List, Contains, IsTrue}
use Rattle.ap_term.specs.Value.{Value}
use Rattle.ground_law.specs.Literals.{IsAtomNumber}
use Rattle.rule_form.specs.Possible.{Setting}
use Rattle.rule_form.specs.Truth.{AtomSet}

-- each fact is the number of an atom
abbrev pub AreFactNumbers : List Value → (ℕ → Bool) → Type 0
AreFactNumbers atoms facts = (k : ℕ) → IsTrue (facts k) → (b : Value) × IsAtomNumber atoms k b

-- a certain atom that was handed in, or an atom whose number is a fact
abbrev pub IsGiven : Setting → List Value → (ℕ → Bool) → Value → Type 0
IsGiven setting atoms facts a = Contains setting.certain a ⊎ ((k : ℕ) × IsAtomNumber atoms k a × IsTrue (facts k))

-- each member of the set is one of the atoms
abbrev pub IsSetOf : List Value → AtomSet → Type 0
IsSetOf atoms x = (a : Value) → IsTrue (x a) → Contains atoms a
