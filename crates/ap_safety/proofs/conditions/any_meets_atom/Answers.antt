use Rattle.std.proofs.Common.{◌∙◌, sym}
use Rattle.ap_safety.specs.Tests.{meets_atom}
use Rattle.pred_graph.proofs.MemberLemmas.{any_step}
use Rattle.ap_safety.proofs.FaultLemmas.{found_any}
use Rattle.ap_safety.proofs.conditions.any_meets_atom.Goals as goal

pub loop-element-preserved : goal.loop-element-preserved
loop-element-preserved c =
    any_step (meets_atom c.args.safe.now) c.args.elements.now c.loop-element.element-index c.element-item.result c.loop-element-test.true c.element-item.is (sym c.in_ok-meets_atom.ensures ∙ c.if-branch.false) c.loop-element.invariant

pub returns-then-branch : goal.returns-then-branch
returns-then-branch c =
    sym (found_any (meets_atom c.args.safe.now) c.args.elements.now c.element-item.result (c.loop-element.element-index, c.loop-element-test.true, sym c.element-item.is) (sym c.in_ok-meets_atom.ensures ∙ c.if-branch.true))
