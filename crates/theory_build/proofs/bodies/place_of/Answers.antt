use Rattle.std.proofs.Common.{◌∙◌}
use Rattle.theory_build.proofs.PlaceLemmas.{searched_place}
use Rattle.theory_build.proofs.bodies.place_of.Goals as goal

pub returns : goal.returns
returns c =
    c.unwrap_or.ensures
    ∙ searched_place c.args.bodies.now c.args.lits.now c.binary_search.result c.requires c.binary_search.ensures.bound c.binary_search.ensures.position
