use Rattle.std.proofs.Common.{◌≡◌, length, map, take}
use Rattle.std.specs.List.{All}
use Rattle.theory_form.specs.Kept.{AreLists, kept_kind}
use Rattle.theory_form.specs.Kinds.{IsKind}
use Rattle.theory_form.proofs.theories.cut_variables.Given as goal

abbrev pub invariant-loop-variables : goal.invariant-loop-variables
invariant-loop-variables l =
    (length l.blocks.items ≡ length l.initial.blocks.items)
    × (take l.count l.variables.items ≡ take l.count l.initial.variables.items)
    × All (λ x. IsKind (length l.initial.blocks.items) (kept_kind x)) l.variables.items
    × AreLists (map kept_kind l.variables.items) l.blocks.items

abbrev pub decreases-loop-variables : goal.decreases-loop-variables
decreases-loop-variables l = length l.variables.items
