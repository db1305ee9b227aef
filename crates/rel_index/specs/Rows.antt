-- Relations: lists of rows of one length.
use Rattle.std.specs.Prelude.{◌≡◌, ℕ, zero, suc, List, [], ◌∷◌, length, take, drop}
use Rattle.ap_term.specs.declared.shape.TermId.{TermId}

-- a relation: how many members each row has, and its rows in the order in which they came
pub record Table : Type 0 where
  pub arity : ℕ
  pub rows : List (List TermId)

-- a row of this many members
abbrev pub IsRowOf : ℕ → List TermId → Type 0
IsRowOf arity row = length row ≡ arity

-- so many rows of this many members each, which stand one behind the other
abbrev pub rows_of : ℕ → ℕ → List TermId → List (List TermId)
rows_of arity zero ids = []
rows_of arity (suc count) ids = take arity ids ∷ rows_of arity count (drop arity ids)
