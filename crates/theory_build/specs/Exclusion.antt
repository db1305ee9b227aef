-- The clause that excludes a set of atoms from the search.
use Rattle.std.specs.Prelude.{ℕ, suc, ◌<◌, ◌≤◌, Bool, true, false, not, List, ◌∷◌, All, map, position, unwrap_or}
use Rattle.std.specs.List.{range_with_len}
use Rattle.theory_form.specs.declared.literals.Lit.{Lit}
use Rattle.theory_form.specs.declared.rows.VarKind.{VarKind}
use Rattle.theory_form.specs.declared.rows.VarKind.TheVariants.{Atom, Sum, Body, Search, Other}
use Rattle.theory_form.specs.Theories.{TheoryView}
use Rattle.ground_form.specs.declared.atoms.AtomId.{AtomId}
use Rattle.ground_form.specs.Ranges.{IsNumberOf}
use Rattle.ground_form.specs.Sets.{has}
use Rattle.theory_build.specs.Entries.{no, clause}
use Rattle.theory_build.specs.Completion.{base_atoms}

abbrev pub is_search : VarKind → Bool
is_search (Atom block supports) = false
is_search (Sum terms bound) = false
is_search (Body lits) = false
is_search Search = true
is_search Other = false

-- the search guard
unfoldable pub search_var : TheoryView → ℕ
search_var t = suc (unwrap_or (position is_search t.variables) 0)

-- that an atom is not as it is in the set: the atoms of the base have the first variables, each its number
abbrev pub differs_at : List AtomId → ℕ → Lit
differs_at set a = record { var = record { 0 = a }; yes = not (has set a) }

-- {-search guard}, with -a for each a in the set, and a for each atom of the base outside
unfoldable pub exclusion : TheoryView → List AtomId → List Lit
exclusion t set = clause (no (search_var t) ∷ map (differs_at set) (range_with_len 1 (base_atoms t)))

-- the members are atoms of the base
abbrev pub AreBaseAtoms : TheoryView → List AtomId → Type 0
AreBaseAtoms t set = All (λ (a : AtomId). IsNumberOf (base_atoms t) a.0) set
