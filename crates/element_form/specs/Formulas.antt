-- Formulas as terms: `atom(a)`, `neg(F)`, `and(F,G)` and `or(F,G)`; and whether a set of atoms satisfies a formula.
use Rattle.std.specs.Prelude.{◌≡◌, ℕ, Bool, false, not, ◌&&◌, ◌||◌, List, [], ◌∷◌, ◌++◌, codes, if◌then◌else◌}
use Rattle.std.specs.Str.{bytes_eq}
use Rattle.ap_term.specs.Value.{Value, integer, constant, string, compound, Values, none, also}
use Rattle.element_form.specs.Preferences.{Formula, Holds, Neg, And, Or}
use Rattle.rule_form.specs.Values.{Substitution, IsAtom}

abbrev pub atom_formula : Value → Value
atom_formula a = compound (codes "atom") (also a none)

abbrev pub neg_formula : Value → Value
neg_formula f = compound (codes "neg") (also f none)

abbrev pub and_formula : Value → Value → Value
and_formula f g = compound (codes "and") (also f (also g none))

abbrev pub or_formula : Value → Value → Value
or_formula f g = compound (codes "or") (also f (also g none))

-- v is the term of the formula, with one value for each of its terms
abbrev pub IsFormulaTerm : Substitution → Formula → Value → Type 0
IsFormulaTerm s (Holds atom) v = (a : Value) × IsAtom s atom a × (v ≡ atom_formula a)
IsFormulaTerm s (Neg f) v = (a : Value) × IsFormulaTerm s f a × (v ≡ neg_formula a)
IsFormulaTerm s (And f g) v = (a b : Value) × IsFormulaTerm s f a × IsFormulaTerm s g b × (v ≡ and_formula a b)
IsFormulaTerm s (Or f g) v = (a b : Value) × IsFormulaTerm s f a × IsFormulaTerm s g b × (v ≡ or_formula a b)

-- whether a set satisfies a formula, where the set is given by the terms `atom(a)` of its atoms. A term that is no formula is not
-- satisfied
abbrev mutual
  pub truth : (Value → Bool) → Value → Bool
  truth x (compound name vs) = truth_of x name vs
  truth x (integer n) = false
  truth x (constant name) = false
  truth x (string bytes) = false

  pub truth_of : (Value → Bool) → List ℕ → Values → Bool
  truth_of x name none = false
  truth_of x name (also f none) =
      if bytes_eq name (codes "atom") then x (compound name (also f none)) else
      if bytes_eq name (codes "neg") then not (truth x f) else
      false
  truth_of x name (also f (also g none)) =
      if bytes_eq name (codes "and") then truth x f && truth x g else
      if bytes_eq name (codes "or") then truth x f || truth x g else
      false
  truth_of x name (also f (also g (also h vs))) = false

-- the atom of a term `atom(a)` is one of these
abbrev pub atom_in : (Value → Bool) → Value → Bool
atom_in atoms (compound name (also a none)) = atoms a
atom_in atoms (compound name none) = false
atom_in atoms (compound name (also a (also b vs))) = false
atom_in atoms (integer n) = false
atom_in atoms (constant name) = false
atom_in atoms (string bytes) = false

-- the formulas that a set of atoms satisfies
abbrev pub satisfied_by : (Value → Bool) → Value → Bool
satisfied_by atoms f = truth (atom_in atoms) f

-- the atoms of a formula, each as its term `atom(a)`
abbrev mutual
  pub atoms_of : Value → List Value
  atoms_of (compound name vs) = atoms_among name vs
  atoms_of (integer n) = []
  atoms_of (constant name) = []
  atoms_of (string bytes) = []

  pub atoms_among : List ℕ → Values → List Value
  atoms_among name none = []
  atoms_among name (also f none) =
      if bytes_eq name (codes "atom") then compound name (also f none) ∷ [] else
      if bytes_eq name (codes "neg") then atoms_of f else
      []
  atoms_among name (also f (also g none)) =
      if bytes_eq name (codes "and") then atoms_of f ++ atoms_of g else
      if bytes_eq name (codes "or") then atoms_of f ++ atoms_of g else
      []
  atoms_among name (also f (also g (also h vs))) = []
