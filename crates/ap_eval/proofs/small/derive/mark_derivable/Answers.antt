use Rattle.std.proofs.Common.{sym, ◌∙◌}
use Rattle.ap_eval.proofs.Marks.{closed_at_end, place_in_marks, least_kept, fewer}
use Rattle.ap_eval.proofs.small.derive.mark_derivable.Goals as goal

pub bounds-marks-place : goal.bounds-marks-place
bounds-marks-place c = place_in_marks c.args.statements.now c.args.x.now c.loop-place.marks (c.loop-place.auto.marks ∙ c.requires) c.in-Some.place (sym c.next_derivable.ensures ∙ c.in-Some.is)

pub loop-place-smaller : goal.loop-place-smaller
loop-place-smaller c = fewer c.args.statements.now c.args.x.now c.loop-place.marks (c.loop-place.auto.marks ∙ c.requires) c.in-Some.place (sym c.next_derivable.ensures ∙ c.in-Some.is)

pub loop-place-preserved : goal.loop-place-preserved
loop-place-preserved c = λ y within start.
    least_kept c.args.statements.now c.args.x.now c.loop-place.marks (c.loop-place.auto.marks ∙ c.requires) c.in-Some.place (sym c.next_derivable.ensures ∙ c.in-Some.is) y within (c.loop-place.invariant y within start)

pub returns-clause-closed : goal.returns-clause-closed
returns-clause-closed c = closed_at_end c.args.statements.now c.args.x.now c.loop-place.marks (c.loop-place.auto.marks ∙ c.requires) (sym c.next_derivable.ensures ∙ c.in_default.is)
