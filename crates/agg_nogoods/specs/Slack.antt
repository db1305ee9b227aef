-- What the value of a row's variable asks of the sum.
use Rattle.std.specs.Prelude.{◌≡◌, ℕ, ℤ, pos, ◌-ℤ◌, ◌≤ℤ◌, ◌<ℤ◌, int_lt, unsigned_abs, Bool, true, false, not, ◌&&◌, if◌then◌else◌, List, [], ◌∷◌, ◌++◌, Option, Some, None, option_to_list, All, Contains}
use Rattle.std.specs.Bool.{beq}
use Rattle.std.specs.Ordering.{int_eq}
use Rattle.theory_form.specs.declared.literals.Lit.{Lit}
use Rattle.theory_form.specs.declared.literals.Var.{Var}
use Rattle.theory_form.specs.declared.rows.SumRow.{SumRow}
use Rattle.agg_nogoods.specs.Ends.{least_end, greatest_end}

-- Where the row's variable is true the greatest sum has to reach the bound, and where it is false the least sum has to
-- stay below it. This is by how much more the sum does than that; it is negative where the sum cannot do it.
abbrev pub slack : (ℕ → Option Bool) → SumRow → Bool → ℤ
slack known row true = greatest_end known row.terms -ℤ row.bound
slack known row false = (row.bound -ℤ pos 1) -ℤ least_end known row.terms

-- no variable without a value has a weight of more than the slack
abbrev pub NoneForced : (ℕ → Option Bool) → SumRow → ℤ → Type 0
NoneForced known row slack = All (λ t. known t.1.0 ≡ None → pos (unsigned_abs t.0) ≤ℤ slack) row.terms

-- The literal is over a variable without a value whose weight is more than the slack: where the literal is false, the sum
-- cannot do what is asked.
pub record IsForced (known : ℕ → Option Bool) (row : SumRow) (holds : Bool) (slack : ℤ) (l : Lit) : Type 0 where
  pub weight : ℤ
  pub within : Contains row.terms (weight, l.var)
  pub free : known l.var.0 ≡ None
  pub heavy : slack <ℤ pos (unsigned_abs weight)
  pub sign : l.yes ≡ beq (int_lt (pos 0) weight) holds

-- The value of a variable of this weight hinders the sum from what is asked: it makes the greatest sum less where the row's
-- variable is true, or the least sum more where it is false.
abbrev pub hinders : Bool → ℤ → Bool → Bool
hinders holds w b = not (int_eq w (pos 0)) && not (beq b (beq (int_lt (pos 0) w) holds))

-- the false literals over the variables of terms whose values hinder the sum
abbrev pub false_literal : Bool → ℤ → Option Bool → Var → List Lit
false_literal holds w None v = []
false_literal holds w (Some b) v = if hinders holds w b then record { var = v; yes = not b } ∷ [] else []

abbrev pub false_literals : Bool → (ℕ → Option Bool) → List (ℤ × Var) → List Lit
false_literals holds known [] = []
false_literals holds known (t ∷ ts) = false_literal holds t.0 (known t.1.0) t.1 ++ false_literals holds known ts

-- these literals, then the one over the row's own variable, and one more if there is one
abbrev pub literals_of : (ℕ → Option Bool) → SumRow → Bool → Option Lit → List Lit
literals_of known row holds forced = (false_literals holds known row.terms ++ record { var = row.var; yes = not holds } ∷ []) ++ option_to_list forced
