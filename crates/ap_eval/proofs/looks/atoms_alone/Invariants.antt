use Rattle.std.proofs.Common.{◌≡◌, ◌<◌, ◌∷◌, [], ℕ, length, slice_index_or}
use Rattle.definite.specs.declared.Rule.{Rule}
use Rattle.ap_eval.specs.Looks.{looked_by}
use Rattle.ap_eval.proofs.looks.atoms_alone.Given as goal

abbrev pub invariant-loop-atom : goal.invariant-loop-atom
invariant-loop-atom l = record {
  size : length l.looks.items ≡ l.atom;
  looked : (a : ℕ) → looked_by l.looks.items a ≡ [];
  heads : (a : ℕ) (d : Rule) → a < length l.looks.items → (slice_index_or l.looks.items a d).heads ≡ a ∷ [];
}
