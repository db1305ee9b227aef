-- The type has a place, or gets one.
use Rattle.std.proofs.Common.{sym, ◌∙◌}
use Rattle.std.proofs.lemmas.Result.{IfOk-weaker}
use Rattle.program_parts.proofs.TakenLemmas.{has_place, newly_placed}
use Rattle.program_parts.proofs.gather.Taken.place_or_add.Goals as goal

pub returns-in-Some-clause-place : goal.returns-in-Some-clause-place
returns-in-Some-clause-place c = λ ss h. has_place ss c.args.self.now c.args.name.now c.in-Some.place (sym c.place.ensures ∙ c.in-Some.is) h

pub returns-in-None-clause-place : goal.returns-in-None-clause-place
returns-in-None-clause-place c =
    IfOk-weaker c.add.result _ _ (λ place placed ss h. newly_placed ss c.args.self.now c.add.new.self c.args.name.now place (sym c.place.ensures ∙ c.in-None.is) placed h) c.add.ensures
