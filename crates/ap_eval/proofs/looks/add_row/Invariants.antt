use Rattle.std.proofs.Common.{take}
use Rattle.std.specs.List.{list_all}
use Rattle.ap_eval.specs.Looks.{AddsLooked, of_literals}
use Rattle.ap_eval.proofs.looks.add_row.Given as goal

abbrev pub invariant-loop-condition : goal.invariant-loop-condition
invariant-loop-condition l = AddsLooked l.fn.looked l.looked (λ p. list_all (of_literals p) (take l.condition-index l.row.conditions))
