use Rattle.std.proofs.Common.{None, ap}
use Rattle.std.specs.Prelude.{option_map}
use Rattle.std.proofs.Math.Seq.{map-set_same}
use Rattle.asp_store.specs.declared.choices.Kept.{Kept}
use Rattle.asp_store.proofs.visits.set_places.Goals as goal

pub returns-in-Some-clause-same : goal.returns-in-Some-clause-same
returns-in-Some-clause-same c =
    map-set_same (option_map (λ (k : Kept). k.clause)) c.args.clauses.now.slots c.args.id _ None
    (ap (option_map (λ (k : Kept). k.clause)) c.in-Some.ensures.value)
