-- The order of the type `lexico`: the names of the greatest weight decide first.
use Rattle.std.specs.Prelude.{◌≡◌, List, [], ◌∷◌, flat_map, Contains, IsTrue}
use Rattle.ap_syntax.specs.declared.terms.Rel.TheVariants.{Gt}
use Rattle.ap_term.specs.Value.{Value, Values, none, also}
use Rattle.element_form.specs.Facts.{Asked}
use Rattle.element_form.specs.Ground.{Statement, Ground, Ranked, Target, For, Name}
use Rattle.rule_form.specs.Truth.{compares}

-- a named statement with its first weight, an integer: so the order of values is that of numbers
pub record Named : Type 0 where
  pub statement : Value
  pub weight : Value

-- what a rank names
abbrev pub named_to : Values → Target → List Named
named_to none t = []
named_to (also n rest) (For formula) = []
named_to (also n rest) (Name statement) = record { statement = statement; weight = n } ∷ []

-- the names of the statement with their weights
abbrev pub names : Statement → List Named
names st = flat_map (λ (e : Ground). flat_map (λ (r : Ranked). named_to r.weights r.target) e.ranks) st.elements

-- eq in all names of a weight greater than n
abbrev pub IsTied : Statement → Asked → Value → Type 0
IsTied st asked n =
    (u : Named) → Contains (names st) u → IsTrue (compares Gt u.weight n) → IsTrue (asked.eq u.statement)

-- bettereq in all names of weight n
abbrev pub IsFine : Statement → Asked → Value → Type 0
IsFine st asked n = (u : Named) → Contains (names st) u → u.weight ≡ n → IsTrue (asked.bettereq u.statement)

-- for some weight: eq in all names of a greater weight, and among those of this weight bettereq in all and better in one
abbrev pub LexicoBetter : Statement → Asked → Type 0
LexicoBetter st asked = (t : Named) × Contains (names st) t × IsTrue (asked.better t.statement)
    × IsFine st asked t.weight × IsTied st asked t.weight

-- eq in all
abbrev pub LexicoEq : Statement → Asked → Type 0
LexicoEq st asked = (u : Named) → Contains (names st) u → IsTrue (asked.eq u.statement)
