use Rattle.std.proofs.Common.{◌≡◌, false, All, take}
use Rattle.theory_form.specs.Literals.{opposite}
use Rattle.agg_nogoods.specs.Known.{has}
use Rattle.agg_nogoods.proofs.tests.is_consistent.Given as goal

abbrev pub invariant-loop-literal : goal.invariant-loop-literal
invariant-loop-literal l = All (λ m. has l.c (opposite m) ≡ false) (take l.literal-index l.literal-items)
