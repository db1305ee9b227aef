-- The elements of a program's statements as they are kept, and what they stand for. Values are kept in a table, and formulas in another:
-- the parts of a formula stand before it.
use Rattle.std.specs.Prelude.{◌≡◌, ◌≢◌, ℤ, ℕ, ◌<◌, Bool, false, not, ◌&&◌, ◌||◌, ⊤, List, [], ◌∷◌, map, length, slice_get, slice_index_or, All, AllPairs, Contains, Option, Some, None, IfSome}
use Rattle.std.specs.List.{AllZip}
use Rattle.ap_term.specs.Table.{value_at}
use Rattle.ap_term.specs.Value.{Value, constant, arguments_from}
use Rattle.ap_term.specs.declared.shape.TermId.{TermId}
use Rattle.element_form.specs.declared.ground.FormulaId.{FormulaId}
use Rattle.element_form.specs.declared.ground.GroundElement.{GroundElement}
use Rattle.element_form.specs.declared.ground.GroundFormula.{GroundFormula}
use Rattle.element_form.specs.declared.ground.GroundFormula.TheVariants.{Atom, Neg, And, Or}
use Rattle.element_form.specs.declared.ground.GroundName.{GroundName}
use Rattle.element_form.specs.declared.ground.GroundRank.{GroundRank}
use Rattle.element_form.specs.declared.ground.GroundStatement.{GroundStatement}
use Rattle.element_form.specs.Formulas.{atom_formula, neg_formula, and_formula, or_formula}
use Rattle.element_form.specs.Ground.{For, Name, Ranked, Ground, Statement}
use Rattle.ground_form.specs.declared.atoms.AtomId.{AtomId}
use Rattle.sets.specs.Lists.{IsAscending}

-- the statements in the order of the texts; the formulas by number, from 0; their numbers in term order; the weights that are integers
pub record Parts : Type 0 where
  pub statements : List GroundStatement
  pub formulas : List GroundFormula
  pub ordered : List FormulaId
  pub numbers : List (TermId × ℤ)

-- ---- formulas

-- v is the term of the formula of this number
pub data IsTermOf (values : List Value) (formulas : List GroundFormula) : ℕ → Value → Type 0 where
  atom : {f : ℕ} {t : TermId} {n : Option AtomId} → slice_get formulas f ≡ Some (Atom t n)
      → IsTermOf values formulas f (atom_formula (value_at values t))
  neg : {f : ℕ} {g : FormulaId} {v : Value} → slice_get formulas f ≡ Some (Neg g) → IsTermOf values formulas g.0 v
      → IsTermOf values formulas f (neg_formula v)
  and : {f : ℕ} {g h : FormulaId} {v w : Value} → slice_get formulas f ≡ Some (And g h)
      → IsTermOf values formulas g.0 v → IsTermOf values formulas h.0 w → IsTermOf values formulas f (and_formula v w)
  or : {f : ℕ} {g h : FormulaId} {v w : Value} → slice_get formulas f ≡ Some (Or g h)
      → IsTermOf values formulas g.0 v → IsTermOf values formulas h.0 w → IsTermOf values formulas f (or_formula v w)

-- the set has the atom; one that is not possible has no number, and is in no set
abbrev pub has_number : (ℕ → Bool) → Option AtomId → Bool
has_number x None = false
has_number x (Some a) = x a.0

-- b tells whether a set of atoms, by number, satisfies the formula of this number
pub data IsTruthOf (formulas : List GroundFormula) (x : ℕ → Bool) : ℕ → Bool → Type 0 where
  atom : {f : ℕ} {t : TermId} {n : Option AtomId} → slice_get formulas f ≡ Some (Atom t n)
      → IsTruthOf formulas x f (has_number x n)
  neg : {f : ℕ} {g : FormulaId} {b : Bool} → slice_get formulas f ≡ Some (Neg g) → IsTruthOf formulas x g.0 b
      → IsTruthOf formulas x f (not b)
  and : {f : ℕ} {g h : FormulaId} {b c : Bool} → slice_get formulas f ≡ Some (And g h)
      → IsTruthOf formulas x g.0 b → IsTruthOf formulas x h.0 c → IsTruthOf formulas x f (b && c)
  or : {f : ℕ} {g h : FormulaId} {b c : Bool} → slice_get formulas f ≡ Some (Or g h)
      → IsTruthOf formulas x g.0 b → IsTruthOf formulas x h.0 c → IsTruthOf formulas x f (b || c)

-- the numbers of atoms in the table tell of them whether they are in the set
abbrev pub TellAtoms : List Value → List GroundFormula → (ℕ → Bool) → (Value → Bool) → Type 0
TellAtoms values formulas x atoms = (f : ℕ) (t : TermId) (n : Option AtomId) → slice_get formulas f ≡ Some (Atom t n)
    → atoms (value_at values t) ≡ has_number x n

-- ---- what is kept stands for ground elements

module _ (values : List Value) (spec : Parts) where
  -- a formula with its weights
  pub record IsRank (r : GroundRank) (q : Ranked) : Type 0 where
    pub formula : Value
    pub term : IsTermOf values spec.formulas r.formula.0 formula
    pub target : q.target ≡ For formula
    pub weights : q.weights ≡ arguments_from (map (value_at values) r.weights)

  -- a named statement with its weights
  pub record IsName (n : GroundName) (q : Ranked) : Type 0 where
    pub statement : GroundStatement
    pub there : slice_get spec.statements n.statement.0 ≡ Some statement
    pub target : q.target ≡ Name (constant statement.name)
    pub weights : q.weights ≡ arguments_from (map (value_at values) n.weights)

  -- an element has a name, or else ranks
  abbrev pub AreRanks : Option GroundName → List GroundRank → List Ranked → Type 0
  AreRanks None ranks qs = AllZip IsRank ranks qs
  AreRanks (Some name) ranks qs = (q : Ranked) × (qs ≡ q ∷ []) × (ranks ≡ []) × IsName name q

  -- what stands after `||`
  abbrev pub IsRankIfThere : Option GroundRank → Option Ranked → Type 0
  IsRankIfThere None q = q ≡ None
  IsRankIfThere (Some r) q = (p : Ranked) × (q ≡ Some p) × IsRank r p

  -- a ground element
  pub record IsElement (e : GroundElement) (g : Ground) : Type 0 where
    pub place : g.place ≡ e.place
    pub named : g.values ≡ arguments_from (map (value_at values) e.values)
    pub ranks : AreRanks e.name e.ranks g.ranks
    pub given : IsRankIfThere e.given g.given

  -- a statement with its ground elements
  pub record IsStatement (s : GroundStatement) (st : Statement) : Type 0 where
    pub name : st.name ≡ constant s.name
    pub kind : st.kind ≡ s.kind
    pub elements : AllZip IsElement s.elements st.elements

-- ---- weights that are integers

-- the integer of the weight stands at this place
abbrev pub IsNumberAt : List (TermId × ℤ) → TermId → ℕ → Type 0
IsNumberAt numbers w place = (place < length numbers)
    × ((d : TermId × ℤ) → Contains numbers (w, (slice_index_or numbers place d).1))

-- none is kept for the weight
abbrev pub HasNoNumber : List (TermId × ℤ) → TermId → Type 0
HasNoNumber numbers w = (n : ℤ) → Contains numbers (w, n) → ⊥

-- ---- what every spec meets

-- the formula is one of so many
abbrev pub IsFormulaOf : ℕ → FormulaId → Type 0
IsFormulaOf n f = f.0 < n

-- the parts of the formula of number k stand before it
abbrev pub HasParts : ℕ → GroundFormula → Type 0
HasParts k (Atom t n) = ⊤
HasParts k (Neg f) = f.0 < k
HasParts k (And f g) = (f.0 < k) × (g.0 < k)
HasParts k (Or f g) = (f.0 < k) × (g.0 < k)

-- what an element names is there
pub record IsElementOf (statements formulas : ℕ) (e : GroundElement) : Type 0 where
  pub ranks : All (λ (r : GroundRank). IsFormulaOf formulas r.formula) e.ranks
  pub given : IfSome e.given (λ (r : GroundRank). IsFormulaOf formulas r.formula)
  pub name : IfSome e.name (λ (n : GroundName). n.statement.0 < statements)

-- no two elements have the same place and values
abbrev pub HaveKeys : List GroundElement → Type 0
HaveKeys elements = AllPairs (λ (d e : GroundElement). d.place ≡ e.place → d.values ≡ e.values → ⊥) elements

-- a statement
pub record IsStatementOf (statements formulas : ℕ) (s : GroundStatement) : Type 0 where
  pub elements : All (IsElementOf statements formulas) s.elements
  pub keys : HaveKeys s.elements

-- numbers are in range, and equal formulas have one number
pub record IsSpec (spec : Parts) : Type 0 where
  pub statements : All (IsStatementOf (length spec.statements) (length spec.formulas)) spec.statements
  pub formulas : (k : ℕ) (f : GroundFormula) → slice_get spec.formulas k ≡ Some f → HasParts k f
  pub distinct : AllPairs (λ f g. f ≢ g) spec.formulas
  pub ordered : All (IsFormulaOf (length spec.formulas)) spec.ordered
  pub numbers : IsAscending (λ (n : TermId × ℤ). n.0.0) spec.numbers
