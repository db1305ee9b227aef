use Rattle.std.proofs.Common.{◌∙◌, subst}
use Rattle.std.specs.List.Sorted.{IsBinarySearchResult, IsSearchInRange}
use Rattle.theory_form.specs.Literals.{lit_cmp}
use Rattle.std.proofs.Common.{length}
use Rattle.agg_nogoods.proofs.Search.{found}
use Rattle.agg_nogoods.proofs.known.has.Goals as goal

pub returns : goal.returns
returns c =
    c.is_ok.ensures.value
    ∙ found c.args.clause.now c.args.literal c.binary_search.result c.lits.ensures.ascending
    (subst (λ xs. IsSearchInRange c.binary_search.result (length xs)) c.lits.ensures.literals c.binary_search.ensures.bound)
    (subst (λ xs. IsBinarySearchResult (λ y. lit_cmp y c.args.literal) xs c.binary_search.result) c.lits.ensures.literals c.binary_search.ensures.position)
