use Rattle.std.proofs.Common.{sym, subst, ℕ, true, List}
use Rattle.ap_bindings.specs.Searches.{IsListed}
use Rattle.ap_bindings.proofs.BindingLemmas.{listed_none}
use Rattle.ap_bindings.proofs.binding.number_of.Goals as goal

pub returns-clause-listed : goal.returns-clause-listed
returns-clause-listed c = c.in_ok-push_number.ensures.listed (λ z. true)
    (subst (λ (list : List ℕ). IsListed c.args.table.now.names list (λ z. true)) (sym c.new-list.ensures) (listed_none c.args.table.now.names))
