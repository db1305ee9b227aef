-- The degree to which a set satisfies an element of type `aso` (Brewka, Niemelä and Truszczyński 2003).
use Rattle.std.specs.Prelude.{ℕ, suc, Bool, true, false, List, [], ◌∷◌, Option, Some, None, if◌then◌else◌}
use Rattle.ap_term.specs.Value.{Value}
use Rattle.element_form.specs.Ground.{Ground, Ranked, Target, For, Name}

-- the set satisfies what the rank stands for
abbrev pub target_true : (Value → Bool) → Target → Bool
target_true sat (For formula) = sat formula
target_true sat (Name statement) = false

-- one place further on
abbrev pub next_place : Option ℕ → Option ℕ
next_place None = None
next_place (Some k) = Some (suc k)

-- the place of the first rank that is true, from 1
abbrev pub first_true : (Value → Bool) → List Ranked → Option ℕ
first_true sat [] = None
first_true sat (r ∷ rs) = if target_true sat r.target then Some 1 else next_place (first_true sat rs)

-- what stands after `||` is true, if anything does
abbrev pub condition_true : (Value → Bool) → Option Ranked → Bool
condition_true sat None = true
condition_true sat (Some r) = target_true sat r.target

abbrev pub place_or_one : Option ℕ → ℕ
place_or_one None = 1
place_or_one (Some k) = k

-- 1 where the condition is false or no rank is true, and else the place of the first true rank
abbrev pub degree : (Value → Bool) → Ground → ℕ
degree sat e = if condition_true sat e.given then place_or_one (first_true sat e.ranks) else 1
