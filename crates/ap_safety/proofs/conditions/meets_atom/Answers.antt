use Rattle.std.proofs.Common.{◌∙◌, ap, ap₂}
use Rattle.pred_graph.specs.Known.{component_in}
use Rattle.pred_graph.specs.Predicates.{positives_of}
use Rattle.ap_safety.specs.Tests.{meets}
use Rattle.ap_safety.proofs.conditions.meets_atom.Goals as goal

pub returns : goal.returns
returns c =
    let safe = c.args.safe.now in
    let number = c.component.ensures ∙ ap (component_in safe) c.in_ok-atom.ensures in
    let preds = c.as_slice-2.ensures ∙ (c.in_ok-positives.ensures ∙ ap positives_of c.as_slice.ensures) in
    c.meets.ensures ∙ ap₂ (meets safe) number preds
