-- The hint rule (reverse unit propagation: Goldberg and Novikov 2003; hints: Cruz-Filipe and others 2017). A clause
-- follows by hints where, with every literal of it false and no other variable assigned, the hints are unit one after
-- another, each making its literal true, and the last is false. `look` gives the clause of a number.
use Rattle.std.specs.Prelude.{◌≡◌, ℕ, Bool, not, List, [], ◌∷◌, Option, Some, None, slice_set, replicate}
use Rattle.theory_form.specs.declared.literals.Lit.{Lit}
use Rattle.theory_form.specs.declared.literals.ClauseId.{ClauseId}
use Rattle.theory_form.specs.Truth.{IsUnitBy, IsFalseClause}

-- the assignment after a literal became true
abbrev pub made_true : List (Option Bool) → Lit → List (Option Bool)
made_true a l = slice_set a l.var.0 (Some l.yes)

-- Every literal of the clause is false, and every other variable has no value. Of a literal and its opposite, which cannot
-- both be false, the first in the clause is.
abbrev pub all_false : ℕ → List Lit → List (Option Bool)
all_false places [] = replicate places None
all_false places (l ∷ c) = slice_set (all_false places c) l.var.0 (Some (not l.yes))

-- one fact at the last hint, and another before
abbrev pub AtLast : List ClauseId → Type 0 → Type 0 → Type 0
AtLast [] P Q = P
AtLast (id ∷ rest) P Q = Q

-- The hints, taken in order, end in a false clause: each but the last is unit and makes its literal true.
abbrev pub Follows : (ℕ → Option (List Lit)) → List (Option Bool) → List ClauseId → Type 0
Follows look a [] = ⊥
Follows look a (id ∷ rest) =
    (c : List Lit) × (look id.0 ≡ Some c) × AtLast rest (IsFalseClause a c) ((l : Lit) × IsUnitBy a c l × Follows look (made_true a l) rest)

-- The clause follows by its hints. `places` is more than each variable of the clauses.
abbrev pub FollowsByHints : (ℕ → Option (List Lit)) → ℕ → List Lit → List ClauseId → Type 0
FollowsByHints look places c hints = Follows look (all_false places c) hints
