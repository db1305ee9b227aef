use Rattle.std.proofs.Common.{take}
use Rattle.std.specs.List.{list_all}
use Rattle.ap_eval.specs.Looks.{AddsLooked, of_row}
use Rattle.ap_eval.proofs.looks.add_group.Given as goal

abbrev pub invariant-loop-row : goal.invariant-loop-row
invariant-loop-row l = AddsLooked l.fn.looked l.looked (λ p. list_all (of_row p) (take l.row-index l.group.rows))
