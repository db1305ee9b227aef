use Rattle.std.proofs.Common.{sym, subst, ℕ, Bool, ◌&&◌, List, Option, OnOk}
use Rattle.ap_pieces.specs.Bound.{Names, has_any_name}
use Rattle.ap_bindings.specs.Searches.{names_in, also, IsListed}
use Rattle.ap_bindings.proofs.binding.push_any.Goals as goal

pub returns-in-Some-clause-listed : goal.returns-in-Some-clause-listed
returns-in-Some-clause-listed c =
    subst (λ (name : Option (List ℕ)). OnOk c.push_number.result ((test : Names → Bool) → IsListed c.args.table.now.names c.args.list.now test → IsListed c.push_number.new.table.names c.push_number.new.list (λ z. test z && has_any_name (also (names_in c.args.given.now) z) name)))
    (sym c.in-Some.is) c.push_number.ensures.listed
