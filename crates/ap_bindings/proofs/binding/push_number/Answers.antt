use Rattle.std.proofs.Common.{sym, ◌∙◌, subst, ℕ, ◌&&◌, List}
use Rattle.ap_bindings.specs.Searches.{names_in, also, IsListed}
use Rattle.ap_bindings.proofs.BindingLemmas.{listed_push}
use Rattle.ap_bindings.proofs.binding.push_number.Goals as goal

pub returns-clause-listed : goal.returns-clause-listed
returns-clause-listed c = λ test h.
    subst (λ (list : List ℕ). IsListed c.number.new.self.names list (λ z. test z && also (names_in c.args.given.now) z c.args.name.now)) (sym c.in_ok-push.ensures.ok)
    (listed_push (names_in c.args.given.now) c.args.name.now c.args.table.now c.number.new.self c.args.list.now test c.in_ok-number.field-0 (sym c.contains.ensures ∙ c.if-contains.false) c.in_ok-number.ensures.grows c.in_ok-number.ensures.number h)
