-- What an assignment to a theory's variables says of a program in it. An assignment is given by its test.
use Rattle.std.specs.Prelude.{◌≡◌, ℕ, ◌+◌, Bool, ◌&&◌, ◌==◌, nat_lt, nat_le, List, length}
use Rattle.std.specs.List.{list_any, zip}
use Rattle.theory_form.specs.declared.literals.Lit.{Lit}
use Rattle.theory_form.specs.Theories.{TheoryView, IsSearch}
use Rattle.theory_model.specs.Truth.{literal_true}
use Rattle.ground_form.specs.declared.atoms.AtomId.{AtomId}
use Rattle.ground_form.specs.Programs.{Parts}
use Rattle.ground_form.specs.Ranges.{IsNumberOf}

-- the program's atoms that are true, where so many variables stand before those of its atoms
abbrev pub cut : ℕ → Parts → (ℕ → Bool) → ℕ → Bool
cut before g f a = (nat_lt 0 a && nat_le a (length g.atoms)) && f (before + a)

-- the program's inputs to which a true literal is joined; the literals stand in the order of the inputs
abbrev pub facts_of : Parts → List Lit → (ℕ → Bool) → ℕ → Bool
facts_of g joins f a = list_any (λ (pair : AtomId × Lit). pair.0.0 == a && literal_true f pair.1) (zip g.inputs joins)

-- they have the same value at each variable of the theory
abbrev pub AgreeOn : TheoryView → (ℕ → Bool) → (ℕ → Bool) → Type 0
AgreeOn t f h = (v : ℕ) → IsNumberOf (length t.variables) v → f v ≡ h v

-- the search guard, where the theory has one, has this value
abbrev pub HasGuard : TheoryView → (ℕ → Bool) → Bool → Type 0
HasGuard t f guard = (v : ℕ) → IsSearch t v → f v ≡ guard
