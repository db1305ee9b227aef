use Rattle.std.proofs.Common.{take}
use Rattle.std.specs.List.{list_all}
use Rattle.ap_pieces.specs.Bound.{is_closed}
use Rattle.ap_bindings.specs.Searches.{names_in, Grows, AreRules, also}
use Rattle.ap_bindings.proofs.binding.rules_of.Given as goal

abbrev pub invariant-loop-mention : goal.invariant-loop-mention
invariant-loop-mention l = Grows l.initial.table l.table × AreRules l.table.names l.rules.items (λ z. list_all (is_closed (also (names_in l.given) z)) (take l.mention-index l.conjunction))
