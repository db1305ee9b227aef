use Rattle.std.proofs.Common.{◌+◌, length, sym, ap, ◌∙◌, subst}
use Rattle.std.specs.Prelude.{All}
use Rattle.definite.specs.Rules.{IsDerived, IsRuleOf}
use Rattle.ap_eval.proofs.LooksLemmas.{looks_range, order_whole}
use Rattle.ap_eval.specs.Looks.{IsOrder}
use Rattle.ap_eval.proofs.looks.order.Goals as goal

pub least-requires : goal.least-requires
least-requires c =
    subst (λ atoms. All (IsRuleOf (length atoms + 1)) c.deref.result.now) (sym c.atoms.ensures.value)
    (subst (All (IsRuleOf (length c.args.g.now.atoms + 1))) (sym c.deref.ensures.value) (looks_range c.args.g.now c.atoms.ensures.in_range c.in_ok-looks.looks.items c.in_ok-looks.ensures))

pub returns-clause-order : goal.returns-clause-order
returns-clause-order c =
    let g = c.args.g.now in
    let derived = subst (λ atoms. IsDerived c.deref.result.now (length atoms + 1) c.in_ok-found.found) c.atoms.ensures.value c.in_ok-found.ensures in
    let of_looks = subst (λ looks. IsDerived looks (length g.atoms + 1) c.in_ok-found.found) c.deref.ensures.value derived in
    order_whole g c.atoms.ensures.in_range c.in_ok-looks.looks.items c.in_ok-looks.ensures c.in_ok-found.found of_looks

pub returns-clause-marks : goal.returns-clause-marks
returns-clause-marks c = c.in_ok-found.ensures.same

pub returns-clause-size : goal.returns-clause-size
returns-clause-size c = c.in_ok-found.ensures.size ∙ ap (λ atoms. length atoms + 1) c.atoms.ensures.value
