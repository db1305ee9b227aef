use Rattle.std.proofs.Common.{◌≡◌, ℕ, None, sym, ◌∙◌, subst}
use Rattle.std.proofs.lemmas.Bool.{false≢true}
use Rattle.opt_core.specs.States.{CoreView, at_chain}
use Rattle.opt_core.specs.Folds.{May}
use Rattle.opt_core.proofs.cores.Core.may.Goals as goal

pub returns-else-are_closed : goal.returns-else-are_closed
returns-else-are_closed c = (
  λ t. absurd (false≢true (sym c.if-are_closed.false ∙ t)),
  λ m. let end = subst (May c.args.self.now) c.in-Dry.is m in
      c.are_closed.ensures.1 (subst (λ (s : CoreView). (k : ℕ) → at_chain s.chains k ≡ None) (sym c.self.view_is) end.0),
)
