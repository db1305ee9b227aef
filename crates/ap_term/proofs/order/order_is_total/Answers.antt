use Rattle.std.proofs.Common.{ap, sym, ◌∙◌}
use Rattle.ap_term.specs.Order.{value_cmp}
use Rattle.ap_term.proofs.OrderLemmas.{value_cmp-total, value_same, value_itself}
use Rattle.ap_term.proofs.order.order_is_total.Goals as goal

pub returns-clause-total : goal.returns-clause-total
returns-clause-total c = value_cmp-total

pub returns-clause-exact : goal.returns-clause-exact
returns-clause-exact c = λ v w. (value_same v w, λ e. ap (value_cmp v) (sym e) ∙ value_itself v)
