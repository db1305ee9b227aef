use Rattle.std.proofs.Common.{sym, subst, Bool, ◌&&◌, OnOk}
use Rattle.ap_pieces.specs.declared.pieces.Side.{Side}
use Rattle.ap_pieces.specs.Bound.{Names, binds_side}
use Rattle.ap_bindings.specs.Searches.{names_in, also, AreRules}
use Rattle.ap_bindings.proofs.binding.push_side.Goals as goal

pub returns-in-Variable-clause-rules : goal.returns-in-Variable-clause-rules
returns-in-Variable-clause-rules c =
    subst (λ (s : Side). OnOk c.push_binding.result ((test : Names → Bool) → AreRules c.args.table.now.names c.args.rules.now.items test → AreRules c.push_binding.new.table.names c.push_binding.new.rules.items (λ z. test z && binds_side (also (names_in c.args.given.now) z) s c.args.other.now)))
    (sym c.in-Variable.is) c.push_binding.ensures.rules
