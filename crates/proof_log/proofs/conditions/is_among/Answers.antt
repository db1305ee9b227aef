use Rattle.std.proofs.Common.{sym, ap, ◌∙◌, subst}
use Rattle.theory_form.specs.Literals.{IsAscending}
use Rattle.loop_nogoods.specs.Tests.{is_among}
use Rattle.loop_nogoods.proofs.ValidLemmas.{found_is_among}
use Rattle.proof_log.proofs.conditions.is_among.Goals as goal

pub returns : goal.returns
returns c =
    let ascend = subst IsAscending (sym c.lits.ensures.literals) c.lits.ensures.ascending in
    c.is_ok.ensures.value
    ∙ (found_is_among c.lits.result.now c.args.l c.binary_search.result ascend c.binary_search.ensures.bound c.binary_search.ensures.position
    ∙ ap (λ lits. is_among lits c.args.l) c.lits.ensures.literals)
