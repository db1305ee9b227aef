use Rattle.std.proofs.Common.{◌≡◌, ◌∙◌, sym, Some, None}
use Rattle.theory_form.specs.Numbers.{at_number}
use Rattle.theory_form.proofs.TheoryLemmas.{row_from_kept}
use Rattle.theory_form.proofs.theories.Theory.row.Goals as goal

pub returns-in-Some : goal.returns-in-Some
returns-in-Some c =
    let items = c.self.inside.variables.items in
    let at : at_number items c.args.v.0 ≡ Some c.in-Some.variable.now = sym (rw c.as_slice.ensures.value at c.in-Some.ensures) in
    rw (← c.self.view_is)
    (c.as_sum.ensures ∙ sym (row_from_kept items c.args.v.0 (Some c.in-Some.variable.now) (c.self.invariant.rows c.args.v.0) at))

pub returns-in-None : goal.returns-in-None
returns-in-None c =
    let items = c.self.inside.variables.items in
    let at : at_number items c.args.v.0 ≡ None = sym (rw c.as_slice.ensures.value at c.in-None.ensures) in
    rw (← c.self.view_is) (sym (row_from_kept items c.args.v.0 None (c.self.invariant.rows c.args.v.0) at))
