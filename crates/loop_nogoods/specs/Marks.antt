-- Tables of bits by variable.
use Rattle.std.specs.Prelude.{◌≡◌, ℕ, ◌<◌, ◌≤◌, Bool, if◌then◌else◌, List, length, IsFalse}
pub use Rattle.definite.specs.Rules.{marked}
use Rattle.theory_form.specs.Theories.{TheoryView}

-- this is the number of a variable of the theory
abbrev pub IsVariable : TheoryView → ℕ → Type 0
IsVariable t v = (0 < v) × (v ≤ length t.variables)

-- every variable of the theory has a bit, and it is clear
abbrev pub AreClear : TheoryView → List Bool → Type 0
AreClear t marks = (v : ℕ) → IsVariable t v → (v < length marks) × IsFalse (marked marks v)

-- the bits of a set of variables now have this value, and every other bit is as it was
pub record Written (u : ℕ → Bool) (value : Bool) (old new : List Bool) : Type 0 where
  pub size : length new ≡ length old
  pub bits : (v : ℕ) → marked new v ≡ (if u v then value else marked old v)
