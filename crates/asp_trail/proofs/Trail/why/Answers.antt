use Rattle.std.proofs.Common.{◌≡◌, ◌∙◌, sym, ap, reverse, length, Some, arith, get_or, ◌<◌}
use Rattle.std.proofs.lemmas.List.{get_or_default}
use Rattle.theory_form.specs.Truth.{value_of}
use Rattle.asp_trail.specs.Trail.{no_reason}
use Rattle.asp_trail.proofs.TrailLemmas.{why_in-free, why_in-recorded, value_within}
use Rattle.asp_trail.proofs.Trail.why.Goals as goal

pub returns-in-None : goal.returns-in-None
returns-in-None c =
    let f = c.self.inside in
    let h = c.self.invariant in
    rw (← c.self.view_is)
    (sym (why_in-free (length f.values) c.args.v.0 (reverse f.entries.items) h.holds.trail (ap (λ a. value_of a c.args.v.0) (sym h.holds.same) ∙ sym c.in-None.ensures)))

pub returns-in-Some : goal.returns-in-Some
returns-in-Some c =
    let f = c.self.inside in
    let h = c.self.invariant in
    let v = c.args.v.0 in
    let value : value_of f.values v ≡ Some c.in-Some.field-0 = sym c.in-Some.ensures in
    let below : v < length f.values = value_within f.values v c.in-Some.field-0 value in
    let room = h.reasons_room in
    let r : c.index-reason.result.now ≡ get_or f.reasons.items v no_reason =
    c.index-reason.ensures ∙ get_or_default f.reasons.items v c.index-reason.result.now no_reason (omega arith)
    in
    rw (← c.self.view_is, r)
    (sym (why_in-recorded (length f.values) v c.in-Some.field-0 f.reasons.items (reverse f.entries.items) h.holds.trail h.recorded (ap (λ a. value_of a v) (sym h.holds.same) ∙ value)))
