-- The orders of the built-in types: better, bettereq and eq of a new set and an old one.
use Rattle.std.specs.Prelude.{◌≡◌, ◌⊎◌, ◌<◌, ◌≤◌, ◌<ℤ◌, ◌≤ℤ◌, Bool, Contains}
use Rattle.ap_term.specs.Value.{Value}
use Rattle.element_form.specs.Degrees.{degree}
use Rattle.element_form.specs.Facts.{Asked}
use Rattle.element_form.specs.Flips.{IsPath}
use Rattle.element_form.specs.Ground.{Ground, Statement}
use Rattle.element_form.specs.Satisfied.{count, weight_sum}
use Rattle.element_form.specs.States.{state_of}
use Rattle.pref_kinds.specs.declared.built_in.BuiltIn.{BuiltIn}
use Rattle.pref_kinds.specs.declared.built_in.BuiltIn.TheVariants.{Subset, Superset, LessCardinality, MoreCardinality, LessWeight, MoreWeight, Aso, Poset, Cp, Pareto, Lexico, And, Neg}
use Rattle.type_law.specs.Compositions.{InAll, InOne}
use Rattle.type_law.specs.Covers.{IsCovered}
use Rattle.type_law.specs.Lexico.{LexicoBetter, LexicoEq}
use Rattle.type_law.specs.Parts.{IsPart, IsProperPart, IsSame}

-- no degree of the one set is greater than that of the other
abbrev pub NoGreater : Statement → (Value → Bool) → (Value → Bool) → Type 0
NoGreater st one other = (e : Ground) → Contains st.elements e → degree one e ≤ degree other e

-- and one is smaller
abbrev pub HasSmaller : Statement → (Value → Bool) → (Value → Bool) → Type 0
HasSmaller st one other = (e : Ground) × Contains st.elements e × (degree one e < degree other e)

-- one or more flips lead from the old set's state to the new one's
abbrev pub CpBetter : Statement → Asked → Type 0
CpBetter st asked = IsPath st (state_of st asked.old) (state_of st asked.new)

abbrev pub CpEq : Statement → Asked → Type 0
CpEq st asked = state_of st asked.old ≡ state_of st asked.new

-- the sets differ, and the new one covers the old one
abbrev pub PosetBetter : Statement → Asked → Type 0
PosetBetter st asked = (IsSame st asked.new asked.old → ⊥) × IsCovered st asked

-- the new set is better than the old one
abbrev pub Better : BuiltIn → Statement → Asked → Type 0
Better Subset st asked = IsProperPart st asked.new asked.old
Better Superset st asked = IsProperPart st asked.old asked.new
Better LessCardinality st asked = count st asked.new < count st asked.old
Better MoreCardinality st asked = count st asked.old < count st asked.new
Better LessWeight st asked = weight_sum st asked.new <ℤ weight_sum st asked.old
Better MoreWeight st asked = weight_sum st asked.old <ℤ weight_sum st asked.new
Better Aso st asked = NoGreater st asked.new asked.old × HasSmaller st asked.new asked.old
Better Poset st asked = PosetBetter st asked
Better Cp st asked = CpBetter st asked
Better Pareto st asked = InAll st asked.bettereq × InOne st asked.better
Better Lexico st asked = LexicoBetter st asked
Better And st asked = InAll st asked.better
Better Neg st asked = InOne st asked.worse

-- it is at least as good
abbrev pub Bettereq : BuiltIn → Statement → Asked → Type 0
Bettereq Subset st asked = IsPart st asked.new asked.old
Bettereq Superset st asked = IsPart st asked.old asked.new
Bettereq LessCardinality st asked = count st asked.new ≤ count st asked.old
Bettereq MoreCardinality st asked = count st asked.old ≤ count st asked.new
Bettereq LessWeight st asked = weight_sum st asked.new ≤ℤ weight_sum st asked.old
Bettereq MoreWeight st asked = weight_sum st asked.old ≤ℤ weight_sum st asked.new
Bettereq Aso st asked = NoGreater st asked.new asked.old
Bettereq Poset st asked = PosetBetter st asked ⊎ IsSame st asked.new asked.old
Bettereq Cp st asked = CpBetter st asked ⊎ CpEq st asked
Bettereq Pareto st asked = InAll st asked.bettereq
Bettereq Lexico st asked = LexicoBetter st asked ⊎ LexicoEq st asked
Bettereq And st asked = InAll st asked.better ⊎ InAll st asked.eq
Bettereq Neg st asked = InOne st asked.worse ⊎ InOne st asked.eq

-- neither is better
abbrev pub Eq : BuiltIn → Statement → Asked → Type 0
Eq Subset st asked = IsSame st asked.new asked.old
Eq Superset st asked = IsSame st asked.old asked.new
Eq LessCardinality st asked = count st asked.new ≡ count st asked.old
Eq MoreCardinality st asked = count st asked.old ≡ count st asked.new
Eq LessWeight st asked = weight_sum st asked.new ≡ weight_sum st asked.old
Eq MoreWeight st asked = weight_sum st asked.old ≡ weight_sum st asked.new
Eq Aso st asked = NoGreater st asked.new asked.old × NoGreater st asked.old asked.new
Eq Poset st asked = IsSame st asked.new asked.old
Eq Cp st asked = CpEq st asked
Eq Pareto st asked = InAll st asked.eq
Eq Lexico st asked = LexicoEq st asked
Eq And st asked = InAll st asked.eq
Eq Neg st asked = InOne st asked.eq
