use Rattle.std.proofs.Common.{ap, ◌∙◌}
use Rattle.std.specs.Prelude.{slice_set, true}
use Rattle.loop_nogoods.proofs.StampLemmas.{stamped}
use Rattle.loop_nogoods.proofs.stamps.Stamps.set.Goals as goal

pub returns : goal.returns
returns c = stamped c.self.inside.round c.args.v.0 c.self.inside.stamps.items ∙ ap (λ m. slice_set m c.args.v.0 true) c.self.view_is
