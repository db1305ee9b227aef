use Rattle.std.proofs.Common.{take}
use Rattle.std.specs.List.{list_all}
use Rattle.ap_bindings.specs.Searches.{names_in, Grows, IsListed, has_counted, also}
use Rattle.ap_bindings.proofs.binding.numbers_of.Given as goal

abbrev pub invariant-loop-occurrence : goal.invariant-loop-occurrence
invariant-loop-occurrence l = Grows l.initial.table l.table × IsListed l.table.names l.list (λ z. list_all (has_counted l.fn.all (also (names_in l.given) z)) (take l.occurrence-index l.occurrences))
