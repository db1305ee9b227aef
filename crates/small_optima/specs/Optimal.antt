-- Optimal answer sets, and their sorted listing.
use Rattle.std.specs.Prelude.{◌≡◌, ℕ, List, All, Any, IsFalse}
use Rattle.std.specs.List.Sorted.{IsStrictlySortedBy}
use Rattle.std.specs.Cmp.Lexicographic.{slice_cmp}
use Rattle.std.specs.Ordering.{nat_cmp}
use Rattle.std.specs.declared.cmp.Ordering.{Ordering}
use Rattle.ap_syntax.specs.declared.small.Program.{Program}
use Rattle.ap_eval.specs.AnswerSets.{IsAnswerSet}
use Rattle.ap_eval.specs.AtomSets.{AtomSet, has}
use Rattle.small_optima.specs.Preferred.{prefers}

-- x is an answer set, and no answer set is preferred to it
pub record IsOptimal (p : Program) (x : AtomSet) : Type 0 where
  pub answer_set : IsAnswerSet p x
  pub unbeaten : (y : AtomSet) → IsAnswerSet p y → IsFalse (prefers p y x)

-- atoms are ordered by the bytes of their names
abbrev pub atom_cmp : List ℕ → List ℕ → Ordering
atom_cmp = slice_cmp nat_cmp

-- lists of atoms are ordered member by member, a proper prefix first
abbrev pub set_cmp : List (List ℕ) → List (List ℕ) → Ordering
set_cmp = slice_cmp atom_cmp

-- These are the optimal answer sets, each once: each is written as the list of its atoms in order, and the lists are in
-- order.
pub record IsSortedListing (p : Program) (sets : List (List (List ℕ))) : Type 0 where
  pub atoms : All (λ (set : List (List ℕ)). IsStrictlySortedBy atom_cmp set) sets
  pub sorted : IsStrictlySortedBy set_cmp sets
  pub optimal : All (λ (set : List (List ℕ)). IsOptimal p (has set)) sets
  pub whole : (x : AtomSet) → IsOptimal p x → Any (λ (set : List (List ℕ)). has set ≡ x) sets
