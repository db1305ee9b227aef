-- The values of terms under a substitution, and the atoms that an atom with variables stands for.
use Rattle.std.specs.Prelude.{◌≡◌, ℕ, ℤ, ◌≤ℤ◌, List, Some}
use Rattle.ap_term.specs.Arithmetic.{compute}
use Rattle.ap_term.specs.Value.{Value, integer, constant, compound, Values, none, also}
use Rattle.rule_form.specs.Trees.{Term, Variable, Anything, Fixed, Compound, Operation, Interval, Terms, nothing, more, Atom}

-- a value for each variable, by its name
abbrev pub Substitution : Type 0
Substitution = List ℕ → Value

-- v is one of the values of the term. `_` has every value, since it is a variable of its own at its place. An interval has all
-- integers from the one end to the other. An operation has a value only where its operands are integers and it has a result
abbrev mutual
  pub IsValue : Substitution → Term → Value → Type 0
  IsValue s (Variable name) v = v ≡ s name
  IsValue s Anything v = Unit {0}
  IsValue s (Fixed value) v = v ≡ value
  IsValue s (Compound name parts) v = (vs : Values) × AreValues s parts vs × (v ≡ compound name vs)
  IsValue s (Operation op left right) v = (i j k : ℤ) × IsValue s left (integer i) × IsValue s right (integer j)
      × (compute op i j ≡ Some k) × (v ≡ integer k)
  IsValue s (Interval low high) v =
      (i j k : ℤ) × IsValue s low (integer i) × IsValue s high (integer j) × (i ≤ℤ k) × (k ≤ℤ j) × (v ≡ integer k)

  -- one value for each term of the list
  pub AreValues : Substitution → Terms → Values → Type 0
  AreValues s nothing vs = vs ≡ none
  AreValues s (more term terms) vs =
      (w : Value) × (ws : Values) × IsValue s term w × AreValues s terms ws × (vs ≡ also w ws)

-- an atom without arguments reads as a constant, and any other as a compound
abbrev pub atom_value : List ℕ → Values → Value
atom_value name none = constant name
atom_value name (also v vs) = compound name (also v vs)

-- a is one of the atoms that the atom stands for
abbrev pub IsAtom : Substitution → Atom → Value → Type 0
IsAtom s atom a = (vs : Values) × AreValues s atom.terms vs × (a ≡ atom_value atom.name vs)
