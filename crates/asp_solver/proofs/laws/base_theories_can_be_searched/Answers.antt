use Rattle.asp_solver.proofs.BaseLemmas.{skips_none}
use Rattle.asp_solver.proofs.laws.base_theories_can_be_searched.Goals as goal

pub returns : goal.returns
returns c = record {
  can_search = λ g range. (g, range, c.theories_stand.ensures.base g range);
  skips = λ g. skips_none g;
}
