use Rattle.std.proofs.Common.{sym, subst, ℕ}
use Rattle.std.specs.Prelude.{All}
use Rattle.definite.specs.Rules.{IsRuleOf}
use Rattle.ap_bindings.proofs.BindingLemmas.{binds}
use Rattle.ap_bindings.proofs.binding.bound_of.Goals as goal

pub least-requires : goal.least-requires
least-requires c = subst (λ (n : ℕ). All (IsRuleOf n) c.args.rules.now) (sym c.len.ensures) c.requires.rules

pub returns : goal.returns
returns c = λ given conjunction h.
    binds given c.args.table c.args.rules.now conjunction c.in_ok-found.found.marks c.requires.table h c.in_ok-found.ensures.least
