use Rattle.std.proofs.Common.{◌∙◌, sym, subst, ap, get_or, length, arith}
use Rattle.components.specs.declared.search.Status.TheVariants.{New}
use Rattle.components.specs.Searches.{IsSearch}
use Rattle.components.proofs.Steps.{push_step}
use Rattle.components.proofs.search.visit.Goals as goal

pub empty_stack-requires-clause-search : goal.empty_stack-requires-clause-search
empty_stack-requires-clause-search c =
    let s = c.args.search.now in
    let g = c.args.successors.now in
    let e = sym (ap (λ xs. get_or xs c.args.node New) c.as_slice.ensures) ∙ c.in-New.is in
    let step = push_step g s c.args.node c.requires.search c.requires.node e (λ i lt. absurd (let none = ap length c.requires.empty in omega (arith, none, lt))) in
    subst (IsSearch g) (sym c.in_ok-push_node.ensures) step.search
