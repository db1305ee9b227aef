use Rattle.std.proofs.Common.{◌∙◌, subst, sym, ap, get_or}
use Rattle.components.specs.Searches.{IsStep, at}
use Rattle.components.proofs.Steps.{finish_step}
use Rattle.components.proofs.search.explore.Goals as goal

pub follow-requires-clause-node : goal.follow-requires-clause-node
follow-requires-clause-node c = record {
  place = c.args.place;
  inside = c.requires.inside;
  node = ap (λ xs. get_or xs c.args.place 0) c.as_slice.ensures;
  upper = c.requires.upper;
  next = c.in-Some.ensures;
}

pub returns-in-None : goal.returns-in-None
returns-in-None c =
    let g = c.args.successors.now in
    let s = c.args.search.now in
    subst (IsStep g s) (sym c.finish.ensures) (finish_step g s c.args.place c.requires.search c.requires.place (ap (λ xs. at s.left (get_or xs c.args.place 0)) (sym c.as_slice.ensures) ∙ c.in-None.ensures))
