use Rattle.std.proofs.Common.{sym, ◌∙◌, subst, Bool, not, ◌&&◌, ◌||◌, OnOk}
use Rattle.ap_pieces.specs.Bound.{Names, has_any_name}
use Rattle.ap_bindings.specs.Searches.{names_in, also, IsListed}
use Rattle.ap_bindings.proofs.binding.push_counted.Goals as goal

pub returns-then-counts-clause-listed : goal.returns-then-counts-clause-listed
returns-then-counts-clause-listed c =
    subst (λ (b : Bool). OnOk c.push_any.result ((test : Names → Bool) → IsListed c.args.table.now.names c.args.list.now test → IsListed c.push_any.new.table.names c.push_any.new.list (λ z. test z && (not b || has_any_name (also (names_in c.args.given.now) z) c.args.occurrence.now.name))))
    (sym c.if-counts.true ∙ c.counts.ensures) c.push_any.ensures.listed
