use Rattle.std.proofs.Common.{take}
use Rattle.std.specs.List.{list_all}
use Rattle.ap_eval.specs.Looks.{AddsLooked, of_guard}
use Rattle.ap_eval.proofs.looks.add_guards.Given as goal

abbrev pub invariant-loop-guard : goal.invariant-loop-guard
invariant-loop-guard l = AddsLooked l.fn.looked l.looked (λ p. list_all (of_guard l.groups p) (take l.guard-index l.guards))
