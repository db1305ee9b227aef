-- All answer sets of a program.
use Rattle.std.specs.Prelude.{◌≡◌, ℕ, List, All, Any}
use Rattle.std.specs.List.Sorted.{IsStrictlySortedBy}
use Rattle.ap_syntax.specs.declared.small.Program.{Program}
use Rattle.ap_eval.specs.AnswerSets.{IsAnswerSet}
use Rattle.ap_eval.specs.AtomSets.{AtomSet, has}
use Rattle.small_optima.specs.Optimal.{atom_cmp, set_cmp}

-- These are the answer sets, each once: each is written as the list of its atoms in order, and the lists are in order.
pub record AreAnswerSets (p : Program) (sets : List (List (List ℕ))) : Type 0 where
  pub atoms : All (λ (set : List (List ℕ)). IsStrictlySortedBy atom_cmp set) sets
  pub sorted : IsStrictlySortedBy set_cmp sets
  pub answers : All (λ (set : List (List ℕ)). IsAnswerSet p (has set)) sets
  pub whole : (x : AtomSet) → IsAnswerSet p x → Any (λ (set : List (List ℕ)). has set ≡ x) sets
