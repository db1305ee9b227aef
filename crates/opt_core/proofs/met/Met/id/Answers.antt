use Rattle.std.proofs.Common.{None, Some}
use Rattle.opt_core.proofs.MetLemmas.{exact, none_exactly, next_place}
use Rattle.opt_core.proofs.met.Met.id.Goals as goal

pub returns-in_err-place-clause-exact : goal.returns-in_err-place-clause-exact
returns-in_err-place-clause-exact c = exact c.self.inside.sets.keys c.args.self.now c.args.set.now None _ c.self.invariant c.self.view_is c.in_err-place.ensures.index c.from_residual.ensures

pub returns-in_err-place-clause-none : goal.returns-in_err-place-clause-none
returns-in_err-place-clause-none c = none_exactly c.self.inside.sets.keys c.args.self.now c.args.set.now None _ c.self.view_is c.in_err-place.ensures.index c.from_residual.ensures

pub returns-clause-exact : goal.returns-clause-exact
returns-clause-exact c = exact c.self.inside.sets.keys c.args.self.now c.args.set.now (Some c.in_ok-place.place) _ c.self.invariant c.self.view_is c.in_ok-place.ensures.index (next_place c.in_ok-place.place)

pub returns-clause-none : goal.returns-clause-none
returns-clause-none c = none_exactly c.self.inside.sets.keys c.args.self.now c.args.set.now (Some c.in_ok-place.place) _ c.self.view_is c.in_ok-place.ensures.index (next_place c.in_ok-place.place)
