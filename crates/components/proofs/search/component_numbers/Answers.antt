use Rattle.std.proofs.Common.{◌≡◌, ◌∙◌, sym, subst, ap, map}
use Rattle.std.proofs.lemmas.Result.{IfOk-weaker}
use Rattle.components.specs.Graphs.{AreComponentNumbers}
use Rattle.components.specs.Searches.{IsSearch, number_in}
use Rattle.components.proofs.Starts.{start_search}
use Rattle.components.proofs.Numbers.{numbers_are}
use Rattle.components.proofs.search.component_numbers.Goals as goal

pub visit_all-requires-clause-search : goal.visit_all-requires-clause-search
visit_all-requires-clause-search c = subst (IsSearch c.args.successors.now) (sym c.in_ok-search.ensures) (start_search c.args.successors.now)

pub returns : goal.returns
returns c =
    let s = c.visit_all.new.search in
    let run = c.in_ok-visit_all.ensures.run in
    IfOk-weaker c.numbers_in.result (λ numbers. numbers ≡ map number_in c.as_slice.result.now) (AreComponentNumbers c.args.successors.now)
    (λ numbers is. numbers_are c.args.successors.now s numbers run.search run.empty c.in_ok-visit_all.ensures.met (is ∙ ap (map number_in) c.as_slice.ensures))
    c.numbers_in.ensures
