use Rattle.std.proofs.Common.{◌≡◌, take}
use Rattle.std.specs.Prelude.{filter}
use Rattle.theory_form.specs.declared.literals.Var.{Var}
use Rattle.loop_nogoods.specs.Founding.{unfounded_in}
use Rattle.loop_nogoods.proofs.unfounded_sets.members.Given as goal

abbrev pub invariant-loop-v : goal.invariant-loop-v
invariant-loop-v l = l.found.items ≡ filter (λ (v : Var). unfounded_in l.search v.0) (take l.v-index l.vars)
