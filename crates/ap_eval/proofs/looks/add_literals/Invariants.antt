use Rattle.std.proofs.Common.{take}
use Rattle.std.specs.List.{list_all}
use Rattle.ap_eval.specs.Looks.{AddsLooked, of_literals}
use Rattle.ap_eval.proofs.looks.add_literals.Given as goal

abbrev pub invariant-loop-literal : goal.invariant-loop-literal
invariant-loop-literal l = AddsLooked l.fn.looked l.looked (λ p. list_all (λ literal. p (Rattle.ground_form.specs.Acyclic.atom_of literal)) (take l.literal-index l.literals))
