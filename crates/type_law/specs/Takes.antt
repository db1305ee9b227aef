-- What the program of a type takes for granted of a statement, and what an answer set of it tells.
use Rattle.std.specs.Prelude.{◌≡◌, ◌⊎◌, ◌↔◌, ◌<◌, length, Contains, None, IsTrue, codes}
use Rattle.ap_term.specs.Value.{Value, compound, none, also}
use Rattle.element_form.specs.Elements.{IsWeighed}
use Rattle.element_form.specs.Ground.{Statement, Ground, Ranked, For, IsGiven, key, is_of}
use Rattle.pref_kinds.specs.declared.built_in.BuiltIn.{BuiltIn}
use Rattle.pref_kinds.specs.declared.built_in.BuiltIn.TheVariants.{Subset, Superset, LessCardinality, MoreCardinality, LessWeight, MoreWeight, Aso, Poset, Cp, Pareto, Lexico, And, Neg}
use Rattle.rule_form.specs.Truth.{AtomSet}

-- nothing stands after `||`
abbrev pub HasNoConditions : Statement → Type 0
HasNoConditions st = (e : Ground) → Contains st.elements e → e.given ≡ None

-- each first weight is an integer
abbrev pub HasIntegerWeights : Statement → Type 0
HasIntegerWeights st = (e : Ground) (r : Ranked) → Contains st.elements e → Contains e.ranks r → IsWeighed r

-- no two elements have one key, each has a rank, and ranks and conditions are formulas
pub record HasGrades (st : Statement) : Type 0 where
  pub keyed : (e f : Ground) → Contains st.elements e → Contains st.elements f → key e ≡ key f → e ≡ f
  pub ranked : (e : Ground) → Contains st.elements e → 0 < length e.ranks
  pub formulas : (e : Ground) (r : Ranked) → Contains st.elements e → Contains e.ranks r ⊎ IsGiven e.given r
      → (f : Value) × (r.target ≡ For f)

-- by type; `poset` and `cp` have facts of their own
abbrev pub Takes : BuiltIn → Statement → Type 0
Takes Subset st = HasNoConditions st
Takes Superset st = HasNoConditions st
Takes LessCardinality st = HasNoConditions st
Takes MoreCardinality st = HasNoConditions st
Takes LessWeight st = HasNoConditions st × HasIntegerWeights st
Takes MoreWeight st = HasNoConditions st × HasIntegerWeights st
Takes Aso st = HasGrades st
Takes Poset st = IsTrue (is_of Poset st) × HasNoConditions st
Takes Cp st = IsTrue (is_of Cp st)
Takes Pareto st = HasNoConditions st
Takes Lexico st = HasNoConditions st
Takes And st = HasNoConditions st
Takes Neg st = HasNoConditions st

-- the set has the atoms better(s), bettereq(s) and eq(s) exactly where these hold
abbrev pub Relates : Statement → AtomSet → Type 0 → Type 0 → Type 0 → Type 0
Relates st z better bettereq eq = (IsTrue (z (compound (codes "better") (also st.name none))) ↔ better)
    × (IsTrue (z (compound (codes "bettereq") (also st.name none))) ↔ bettereq)
    × (IsTrue (z (compound (codes "eq") (also st.name none))) ↔ eq)
