use Rattle.std.proofs.Common.{◌<◌, length, arith}
use Rattle.std.proofs.lemmas.Option.{slice_get_within}
use Rattle.definite.proofs.Steps.{step_then, settled_below}
use Rattle.definite.proofs.search.settle_each.Goals as goal

pub loop-k-preserved : goal.loop-k-preserved
loop-k-preserved c = record {
  step = step_then c.args.rules.now c.args.waits.now c.loop-k.waits c.settle.new.waits c.args.found.now c.loop-k.found c.settle.new.found c.loop-k.invariant.step c.in_ok-settle.ensures.step;
  settled = settled_below c.args.rules.now c.loop-k.waits c.settle.new.waits c.loop-k.found c.settle.new.found c.loop-k.k c.in_ok-settle.ensures.step.kept c.loop-k.invariant.settled c.in_ok-settle.ensures.settled;
}

pub returns : goal.returns
returns c = (c.loop-k.invariant.step, λ k rule e. let lt : k < length c.args.rules.now = slice_get_within c.args.rules.now k rule e in c.loop-k.invariant.settled k rule (omega arith) e)
