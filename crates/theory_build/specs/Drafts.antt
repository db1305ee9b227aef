-- How the lists of new variables grow.
use Rattle.std.specs.Prelude.{◌≡◌, ℕ, ◌+◌, ℤ, List, ◌++◌, length, Option}
use Rattle.std.specs.List.{filter_map}
use Rattle.theory_form.specs.declared.literals.Var.{Var}
use Rattle.theory_build.specs.declared.drafts.Draft.{Draft}
use Rattle.theory_build.specs.declared.entries.Entry.{Entry}
use Rattle.theory_build.specs.Pieces.{Piece}

-- the number of the next variable
abbrev pub next_of : Draft → ℕ
next_of draft = draft.from + length draft.entries.items

-- the draft with these variables more
pub record IsLonger (old new : Draft) (more : List Entry) : Type 0 where
  pub from : new.from ≡ old.from
  pub entries : new.entries.items ≡ old.entries.items ++ more

-- the draft with a piece more, and the piece's name
pub record Adds {N : Type 0} (old new : Draft) (piece : Piece N) (name : N) : Type 0 where
  pub longer : IsLonger old new piece.entries
  pub name_is : name ≡ piece.name

-- the draft with the tuples of a group more, and the terms that they are of its sum
pub record AddsTerms (old new : Draft) (rows : Piece (List (Option (ℤ × Var)))) (terms : List (ℤ × Var)) : Type 0 where
  pub longer : IsLonger old new rows.entries
  pub terms_are : terms ≡ filter_map (λ term. term) rows.name
