-- Pieces of a theory. The variables of a theory are numbered in the order in which the parts of the program bring them in,
-- so what a part brings in is said from the number of its first variable on.
use Rattle.std.specs.Prelude.{ℕ, ◌+◌, List, [], ◌∷◌, ◌++◌, length}
use Rattle.theory_build.specs.declared.entries.Entry.{Entry}

-- the variables that a part of the program brings in, in their order, and how the rest of the theory speaks of the part
pub record Piece (N : Type 0) : Type 0 where
  pub entries : List Entry
  pub name : N

-- a part that has a name already
abbrev pub no_piece : {N : Type 0} → N → Piece N
no_piece name = record { entries = []; name = name }

-- a part with one variable
abbrev pub one_piece : {N : Type 0} → Entry → N → Piece N
one_piece entry name = record { entries = entry ∷ []; name = name }

-- one part, and the parts behind it
abbrev pub then_pieces : {N : Type 0} → Piece N → Piece (List N) → Piece (List N)
then_pieces first rest = record { entries = first.entries ++ rest.entries; name = first.name ∷ rest.name }

-- one part after the other from v on, each numbered from where the one before it ended
abbrev pub in_turn : {A N : Type 0} → (ℕ → A → Piece N) → ℕ → List A → Piece (List N)
in_turn piece v [] = no_piece []
in_turn piece v (x ∷ xs) = then_pieces (piece v x) (in_turn piece (v + length (piece v x).entries) xs)
