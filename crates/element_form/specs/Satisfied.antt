-- The formulas of a statement that a set satisfies: S(X). A set is given by the formulas that it satisfies.
use Rattle.std.specs.Prelude.{ℕ, ℤ, Bool, List, [], ◌∷◌, length, filter, flat_map, if◌then◌else◌}
use Rattle.std.specs.List.{list_any}
use Rattle.std.specs.Ordering.{is_eq}
use Rattle.ap_term.specs.Order.{value_cmp}
use Rattle.ap_term.specs.Value.{Value, Values, compound, none, also}
use Rattle.element_form.specs.Ground.{Statement, Ground, Ranked, Target, For, Name}
use Rattle.rule_form.specs.Truth.{total, weight}

-- each member once
abbrev pub distinct : {X : Type 0} → (X → X → Bool) → List X → List X
distinct same [] = []
distinct same (x ∷ xs) = if list_any (same x) xs then distinct same xs else x ∷ distinct same xs

abbrev pub same_value : Value → Value → Bool
same_value v w = is_eq (value_cmp v w)

-- ---- formulas

-- the formula that a rank stands for
abbrev pub formula_to : Target → List Value
formula_to (For formula) = formula ∷ []
formula_to (Name statement) = []

-- the formulas of all ranks
abbrev pub formulas : Statement → List Value
formulas st = flat_map (λ (e : Ground). flat_map (λ (r : Ranked). formula_to r.target) e.ranks) st.elements

-- the distinct formulas that the set satisfies
abbrev pub satisfied_formulas : Statement → (Value → Bool) → List Value
satisfied_formulas st sat = filter sat (distinct same_value (formulas st))

-- how many there are
abbrev pub count : Statement → (Value → Bool) → ℕ
count st sat = length (satisfied_formulas st sat)

-- ---- pairs of the weights and a formula

pub record Pair : Type 0 where
  pub weights : Values
  pub formula : Value

-- a pair as a value
abbrev pub pair_value : Pair → Value
pair_value p = compound [] (also (compound [] p.weights) (also p.formula none))

abbrev pub same_pair : Pair → Pair → Bool
same_pair p q = same_value (pair_value p) (pair_value q)

-- the pair of a rank
abbrev pub pair_to : Values → Target → List Pair
pair_to weights (For formula) = record { weights = weights; formula = formula } ∷ []
pair_to weights (Name statement) = []

-- the pairs of all ranks
abbrev pub pairs : Statement → List Pair
pairs st = flat_map (λ (e : Ground). flat_map (λ (r : Ranked). pair_to r.weights r.target) e.ranks) st.elements

-- the distinct pairs whose formula the set satisfies
abbrev pub satisfied_pairs : Statement → (Value → Bool) → List Pair
satisfied_pairs st sat = filter (λ (p : Pair). sat p.formula) (distinct same_pair (pairs st))

-- the sum of first weights over them
abbrev pub weight_sum : Statement → (Value → Bool) → ℤ
weight_sum st sat = total (λ (p : Pair). weight p.weights) (satisfied_pairs st sat)
