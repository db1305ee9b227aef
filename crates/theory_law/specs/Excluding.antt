-- Sets of atoms that are excluded from the search.
use Rattle.std.specs.Prelude.{ℕ, Bool, List, [], ◌∷◌, ◌++◌, Some}
use Rattle.std.specs.Bool.{beq}
use Rattle.std.specs.List.{list_all, range_with_len}
use Rattle.theory_form.specs.Theories.{TheoryView}
use Rattle.ground_form.specs.declared.atoms.AtomId.{AtomId}
use Rattle.ground_form.specs.Sets.{has}
use Rattle.theory_build.specs.Exclusion.{exclusion}

-- of the first n atoms x has those of the set
abbrev pub is_as : ℕ → (ℕ → Bool) → List AtomId → Bool
is_as n x set = list_all (λ a. beq (x a) (has set a)) (range_with_len 1 n)

-- the theory in which the set is excluded from the search
unfoldable pub with_exclusion : TheoryView → List AtomId → TheoryView
with_exclusion t set = record t { clauses = t.clauses ++ Some (exclusion t set) ∷ [] }
