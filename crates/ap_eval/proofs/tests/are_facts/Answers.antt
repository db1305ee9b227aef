use Rattle.std.proofs.Common.{All, Contains, subst}
use Rattle.ap_eval.proofs.tests.are_facts.Goals as goal

pub returns : goal.returns
returns c = λ t. subst (λ xs. All (Contains xs) c.args.facts.now) c.inputs.ensures.value
    (subst (λ ys. All (Contains c.inputs.result.now) ys) c.ids.ensures.value (c.is_input_alone.ensures t))
