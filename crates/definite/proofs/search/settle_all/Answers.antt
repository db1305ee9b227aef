use Rattle.std.proofs.Common.{sym, subst}
use Rattle.std.specs.Prelude.{Contains}
use Rattle.std.proofs.lemmas.List.{take_all}
use Rattle.definite.proofs.Steps.{step_then, settled_more}
use Rattle.definite.proofs.search.settle_all.Goals as goal

pub loop-k-preserved : goal.loop-k-preserved
loop-k-preserved c = record {
  step = step_then c.args.rules.now c.args.waits.now c.loop-k.waits c.settle.new.waits c.args.found.now c.loop-k.found c.settle.new.found c.loop-k.invariant.step c.in_ok-settle.ensures.step;
  settled = settled_more c.args.rules.now c.loop-k.waits c.settle.new.waits c.loop-k.found c.settle.new.found c.args.list.now c.loop-k.k-index c.loop-k-test.true c.in_ok-settle.ensures.step.kept c.loop-k.invariant.settled c.in_ok-settle.ensures.settled;
}

pub returns : goal.returns
returns c = (c.loop-k.invariant.step, λ k rule m e. c.loop-k.invariant.settled k rule (subst (λ xs. Contains xs k) (sym (take_all c.loop-k.k-index c.args.list.now c.loop-k-test.false)) m) e)
