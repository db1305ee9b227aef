-- The clauses that a sum row implies.
use Rattle.std.specs.Prelude.{◌≡◌, ◌≢◌, ℕ, ℤ, pos, ◌≤ℤ◌, ◌<ℤ◌, int_lt, Bool, true, false, not, Any, List, Option, Some, None, ◌⊎◌, Contains, IsTrue}
use Rattle.std.specs.Bool.{beq}
use Rattle.theory_form.specs.declared.literals.Lit.{Lit}
use Rattle.theory_form.specs.declared.rows.SumRow.{SumRow}
use Rattle.theory_form.specs.Literals.{opposite}
use Rattle.theory_form.specs.Truth.{IsFalseClause, IsSettled, IsUnitAt}
use Rattle.theory_model.specs.Truth.{clause_true, IsRowTrue}
use Rattle.agg_nogoods.specs.Sums.{IsGreatestSum, IsLeastSum}

-- no literal stands in the clause with its opposite
abbrev pub IsConsistent : List Lit → Type 0
IsConsistent c = (l : Lit) → Contains c l → Contains c (opposite l) → ⊥

-- the literal of a row's variable, and its opposite
abbrev pub row_true : SumRow → Lit
row_true row = record { var = row.var; yes = true }

abbrev pub row_false : SumRow → Lit
row_false row = record { var = row.var; yes = false }

-- the greatest sum where the clause is false stays below the bound
abbrev pub StaysBelow : SumRow → List Lit → Type 0
StaysBelow row c = (n : ℤ) × IsGreatestSum c row.terms n × (n <ℤ row.bound)

-- the least sum where the clause is false reaches the bound
abbrev pub Reaches : SumRow → List Lit → Type 0
Reaches row c = (n : ℤ) × IsLeastSum c row.terms n × (row.bound ≤ℤ n)

-- The row implies the clause: where the clause is false, the row's variable is true and the sum stays below the bound
-- all the same, or the variable is false and the sum reaches the bound all the same.
abbrev pub IsImplied : SumRow → List Lit → Type 0
IsImplied row c = (Contains c (row_false row) × StaysBelow row c) ⊎ (Contains c (row_true row) × Reaches row c)

-- the clause is true for all values of the variables for which the row is
abbrev pub HoldsWithRow : SumRow → List Lit → Type 0
HoldsWithRow row c = (f : ℕ → Bool) → IsRowTrue f row → IsTrue (clause_true f c)

-- the clause is false, or unit
abbrev pub IsFalseOrUnit : List (Option Bool) → List Lit → Type 0
IsFalseOrUnit a c = IsFalseClause a c ⊎ ((i : ℕ) × IsUnitAt a c i)

-- The literal is over a variable of a term and counts where the row's variable has this value: where the literal is true, the
-- sum is greater if the row's variable is true, and less if it is false.
abbrev pub IsCounting : SumRow → Bool → Lit → Type 0
IsCounting row holds l = (w : ℤ) × Contains row.terms (w, l.var) × (w ≢ pos 0) × (l.yes ≡ beq (int_lt (pos 0) w) holds)

-- The clause has a literal over the row's variable, and all others count where that literal is false.
abbrev pub AllCount : SumRow → List Lit → Type 0
AllCount row c = (holds : Bool) × Contains c (record { var = row.var; yes = not holds })
    × ((l : Lit) → Contains c l → (l ≡ record { var = row.var; yes = not holds }) ⊎ IsCounting row holds l)

-- the literal is over the row's variable or one of its terms'
abbrev pub IsOverRow : SumRow → Lit → Type 0
IsOverRow row l = (l.var ≡ row.var) ⊎ Any (λ t. t.1 ≡ l.var) row.terms

-- Where no clause is answered, each implied clause is neither false nor unit; and a clause that is answered is implied, and
-- false or unit.
abbrev pub IsAnswer : SumRow → List (Option Bool) → Option (List Lit) → Type 0
IsAnswer row a None = (c : List Lit) → IsImplied row c → IsSettled a c
IsAnswer row a (Some c) = IsImplied row c × IsFalseOrUnit a c
