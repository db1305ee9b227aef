-- The sets are the sublists of the atoms.
use Rattle.std.proofs.Common.{◌∙◌, ℕ, List, ap, subst}
use Rattle.ap_eval.specs.AnswerSets.{IsAnswerSet}
use Rattle.ap_eval.specs.AtomSets.{has}
use Rattle.small_optima.specs.Kept.{Kept}
use Rattle.small_optima.specs.Sublists.{sublists}
use Rattle.small_optima.proofs.AnswerLists.{are_answer_sets}
use Rattle.small_optima.proofs.answers.all_answer_sets.Goals as goal

pub returns-clause-found : goal.returns-clause-found
returns-clause-found c =
    let p = c.args.p.now in let atoms = c.in_ok-atoms.atoms.items in let found = c.in_ok-answer_sets.field-0.items in
    let sets = c.in_ok-sets.ensures ∙ ap sublists c.as_slice.ensures.value in
    are_answer_sets p atoms found c.in_ok-atoms.ensures.sorted c.in_ok-atoms.ensures.same
    (subst (λ sets. Kept (λ (set : List (List ℕ)). IsAnswerSet p (has set)) sets found) sets c.in_ok-answer_sets.ensures)
