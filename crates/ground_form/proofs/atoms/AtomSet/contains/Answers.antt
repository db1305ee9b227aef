use Rattle.std.proofs.Common.{sym, ap, ◌∙◌, subst}
use Rattle.ground_form.specs.Sets.{IsAscending, has}
use Rattle.ground_form.proofs.SetLemmas.{found_is_has}
use Rattle.ground_form.proofs.atoms.AtomSet.contains.Goals as goal

pub returns : goal.returns
returns c =
    let ascend = subst IsAscending (sym c.ids.ensures.value) c.ids.ensures.ascend in
    c.is_ok.ensures.value
    ∙ (found_is_has c.ids.result.now c.args.atom.0 c.binary_search.result ascend c.binary_search.ensures.bound c.binary_search.ensures.position
    ∙ ap (λ ids. has ids c.args.atom.0) c.ids.ensures.value)
