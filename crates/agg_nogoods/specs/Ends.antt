-- The ends of a sum: what it comes to at least and at most, where the values of some variables are known.
use Rattle.std.specs.Prelude.{ℕ, ℤ, pos, ◌+ℤ◌, int_lt, int_le, Bool, ◌&&◌, ◌||◌, if◌then◌else◌, List, [], ◌∷◌, Option, Some, None}
use Rattle.std.specs.Int.{int_max, int_min}
use Rattle.theory_form.specs.declared.literals.Lit.{Lit}
use Rattle.theory_form.specs.declared.literals.Var.{Var}
use Rattle.theory_form.specs.declared.rows.SumRow.{SumRow}
use Rattle.agg_nogoods.specs.Implied.{row_false, row_true}
use Rattle.agg_nogoods.specs.Known.{has, known_where_false}

-- what a term of this weight adds at least and at most, by the value of its variable
abbrev pub least_share : Option Bool → ℤ → ℤ
least_share None w = int_min w (pos 0)
least_share (Some b) w = if b then w else pos 0

abbrev pub greatest_share : Option Bool → ℤ → ℤ
greatest_share None w = int_max w (pos 0)
greatest_share (Some b) w = if b then w else pos 0

-- the sums of these shares
abbrev pub least_end : (ℕ → Option Bool) → List (ℤ × Var) → ℤ
least_end known [] = pos 0
least_end known (t ∷ ts) = least_share (known t.1.0) t.0 +ℤ least_end known ts

abbrev pub greatest_end : (ℕ → Option Bool) → List (ℤ × Var) → ℤ
greatest_end known [] = pos 0
greatest_end known (t ∷ ts) = greatest_share (known t.1.0) t.0 +ℤ greatest_end known ts

-- the sum rule by the ends of the sum where the clause is false
abbrev pub follows_by_ends : SumRow → List Lit → Bool
follows_by_ends row c =
    (has c (row_false row) && int_lt (greatest_end (known_where_false c) row.terms) row.bound)
    || (has c (row_true row) && int_le row.bound (least_end (known_where_false c) row.terms))
