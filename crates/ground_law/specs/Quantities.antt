-- The quantities of the limits, as sets.
use Rattle.std.specs.Prelude.{◌≡◌, ◌≤◌, ◌⊎◌, ℕ, ℤ, Bool, List, Contains, slice_get, Option, Some, None}
use Rattle.ap_term.specs.Value.{Value, Values}
use Rattle.rule_form.specs.Instances.{Instance, GuardedAggregate, IsInstance}
use Rattle.ground_law.specs.Ground.{IsLowest, IsBelowAtom}
use Rattle.ground_law.specs.Groups.{OfAggregate, OfChoice}
use Rattle.ground_law.specs.Literals.{AreGroundLiterals, Exists}
use Rattle.rule_form.specs.Relevant.{IsRelevantBy}
use Rattle.rule_form.specs.Globals.{global_variables}
use Rattle.rule_form.specs.Possible.{Setting}
use Rattle.rule_form.specs.Trees.{Guard, Aggregate, Head, One, Choice, Nothing}
use Rattle.rule_form.specs.Counts.{InstanceKey, HasInstance}
use Rattle.ground_form.specs.Ranges.{weight_size}
use Rattle.ground_form.specs.Programs.{Parts}
use Rattle.ground_form.specs.declared.groups.GroupRow.{GroupRow}
use Rattle.ground_form.specs.declared.groups.Group.{Group}

-- ---- pairs of a tuple and a condition

-- An instance is looked at before its aggregates over definite predicates are, but for assignment aggregates: it has the values of these
abbrev pub IsTried : Setting → (Aggregate → Bool) → Instance → Type 0
IsTried setting assigned i = IsRelevantBy setting assigned i

-- the group is the choice's, or that of the aggregate at this place
pub record Pair : Type 0 where
  pub key : InstanceKey
  pub group : Option ℕ
  pub tuple : Values
  pub condition : List ℤ

-- there is a guard
abbrev pub IsGuarded : Option Guard → Option Guard → Type 0
IsGuarded left right = ((g : Guard) × (left ≡ Some g)) ⊎ ((g : Guard) × (right ≡ Some g))

-- the pair is one of the group of a choice
abbrev pub IsChoicePair : Setting → List Value → Instance → Head → Pair → Type 0
IsChoicePair setting atoms i (One atom) p = ⊥
IsChoicePair setting atoms i (Choice left elements right) p = IsGuarded left right × (p.group ≡ None)
    × ((ps ns : List Value) × OfChoice (global_variables i.rule) i.values elements p.tuple ps ns
    × Exists setting (IsBelowAtom setting p.tuple) ps ns
    × AreGroundLiterals atoms (Contains ps) (Contains ns) p.condition)
IsChoicePair setting atoms i Nothing p = ⊥

-- the pair is one of the group of an aggregate
abbrev pub IsAggregatePair : Setting → List Value → Instance → Pair → Type 0
IsAggregatePair setting atoms i p = (j : ℕ) × (u : GuardedAggregate) × (p.group ≡ Some j)
    × (slice_get i.aggregates j ≡ Some u) × ((ps ns : List Value)
    × OfAggregate (global_variables i.rule) i.values u.aggregate.elements p.tuple ps ns
    × Exists setting (IsLowest setting i p.tuple) ps ns
    × AreGroundLiterals atoms (Contains ps) (Contains ns) p.condition)

-- the atoms are those with a number, the possible ones in order
abbrev pub IsPair : Setting → (Aggregate → Bool) → List Value → Pair → Type 0
IsPair setting assigned atoms p = HasInstance (λ i. IsInstance setting.rules i × IsTried setting assigned i
    × (IsChoicePair setting atoms i i.rule.head p ⊎ IsAggregatePair setting atoms i p)) p.key

-- each tuple adds an integer of the values' range to the sum of its group
abbrev pub HasSmallWeights : Parts → Type 0
HasSmallWeights g =
    (h : Group) (row : GroupRow) → Contains g.groups h → Contains h.rows row → weight_size row.weight ≤ 2147483647
