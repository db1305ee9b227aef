use Rattle.std.proofs.Common.{ℕ, ◌+◌, Option, drop}
use Rattle.pref_shapes.specs.Shapes.{IsFirstBad}
use Rattle.pref_shapes.proofs.shaping.first_bad.Given as goal

-- what is found among the rest is found among all
abbrev pub invariant-loop-index : goal.invariant-loop-index
invariant-loop-index l = (found : Option ℕ) → IsFirstBad l.kind (l.index + 1) (drop l.index l.elements) found → IsFirstBad l.kind 1 l.elements found
