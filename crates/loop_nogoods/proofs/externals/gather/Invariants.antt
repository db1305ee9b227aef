use Rattle.std.proofs.Common.{◌≡◌, not, take}
use Rattle.std.specs.Prelude.{filter}
use Rattle.std.specs.List.{flat_map}
use Rattle.theory_form.specs.declared.literals.Var.{Var}
use Rattle.theory_model.specs.Loops.{is_internal}
use Rattle.loop_nogoods.specs.Bodies.{marked_set, support_lits}
use Rattle.loop_nogoods.proofs.externals.gather.Given as goal

abbrev pub invariant-loop-v : goal.invariant-loop-v
invariant-loop-v l =
    l.found.items ≡ flat_map (λ (v : Var). filter (λ s. not (is_internal l.t (marked_set l.t l.marks) s)) (support_lits l.t v.0)) (take l.v-index l.u)
