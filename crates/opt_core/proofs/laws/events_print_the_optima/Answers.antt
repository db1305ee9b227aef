use Rattle.opt_core.specs.States.{begin}
use Rattle.opt_core.proofs.Keeping.{all_hold, begin_holds}
use Rattle.opt_core.proofs.Listing.{printed_listing, printed_optimal}
use Rattle.opt_core.proofs.laws.events_print_the_optima.Goals as goal

pub returns : goal.returns
returns g c = record {
  holds = λ chains events p. all_hold g.F.Family.IsAnswer g.F.Family.IsPreferred (begin chains) events (begin_holds g.F.Family.IsAnswer g.F.Family.IsPreferred chains) p;
  optima = λ chains events p. printed_optimal g.F.Family.IsAnswer g.F.Family.IsPreferred _ (all_hold g.F.Family.IsAnswer g.F.Family.IsPreferred (begin chains) events (begin_holds g.F.Family.IsAnswer g.F.Family.IsPreferred chains) p);
  listing = λ chains events p ended. printed_listing g.F.Family.IsAnswer g.F.Family.IsPreferred _ (all_hold g.F.Family.IsAnswer g.F.Family.IsPreferred (begin chains) events (begin_holds g.F.Family.IsAnswer g.F.Family.IsPreferred chains) p) ended;
}
