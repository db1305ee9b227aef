-- What a variable of a theory stands for.
use Rattle.std.specs.Prelude.{◌≢◌, ℕ, ◌<◌, ◌^◌, ℤ, pos, neg_ℤ, ◌≤ℤ◌, unsigned_abs, List, Option, Some, None, sum_by}
use Rattle.std.specs.List.{AllPairs}
use Rattle.theory_form.specs.declared.literals.Lit.{Lit}
use Rattle.theory_form.specs.declared.literals.Var.{Var}
use Rattle.theory_form.specs.declared.rows.SumRow.{SumRow}
use Rattle.theory_form.specs.declared.rows.BodyRow.{BodyRow}
use Rattle.theory_form.specs.declared.rows.VarKind.{VarKind}
use Rattle.theory_form.specs.declared.rows.VarKind.TheVariants.{Atom, Sum, Body, Search, Other}

-- The terms and the bound of a sum that is reckoned without overflow: the weights' absolute values add up to less than
-- 2^52, the bound is no further from 0 than that, and no variable stands twice.
pub record IsRow (terms : List (ℤ × Var)) (bound : ℤ) : Type 0 where
  pub weights : sum_by (λ t. unsigned_abs t.0) terms < 2 ^ 52
  pub bound_low : neg_ℤ (pos (2 ^ 52)) ≤ℤ bound
  pub bound_high : bound ≤ℤ pos (2 ^ 52)
  pub apart : AllPairs (λ s t. s.1 ≢ t.1) terms

-- a variable of a theory with so many programs: an atom is of one of them, and a sum is reckoned without overflow
abbrev pub IsKind : ℕ → VarKind → Type 0
IsKind blocks (Atom block supports) = block < blocks
IsKind blocks (Sum terms bound) = IsRow terms bound
IsKind blocks (Body lits) = Unit {0}
IsKind blocks Search = Unit {0}
IsKind blocks Other = Unit {0}

-- the program of an atom
abbrev pub atom_block : VarKind → Option ℕ
atom_block (Atom block supports) = Some block
atom_block (Sum terms bound) = None
atom_block (Body lits) = None
atom_block Search = None
atom_block Other = None

-- the supports of an atom
abbrev pub atom_supports : VarKind → Option (List Lit)
atom_supports (Atom block supports) = Some supports
atom_supports (Sum terms bound) = None
atom_supports (Body lits) = None
atom_supports Search = None
atom_supports Other = None

-- the row of the sum variable of this number
abbrev pub sum_row : ℕ → VarKind → Option SumRow
sum_row v (Atom block supports) = None
sum_row v (Sum terms bound) = Some (record { var = record { 0 = v }; terms = terms; bound = bound })
sum_row v (Body lits) = None
sum_row v Search = None
sum_row v Other = None

-- the row of the body variable of this number
abbrev pub body_row : ℕ → VarKind → Option BodyRow
body_row v (Atom block supports) = None
body_row v (Sum terms bound) = None
body_row v (Body lits) = Some (record { var = record { 0 = v }; lits = lits })
body_row v Search = None
body_row v Other = None
