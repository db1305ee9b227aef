use Rattle.std.proofs.Common.{arith, subst, sym}
use Rattle.theory_form.specs.Theories.{TheoryView, CanAdd}
use Rattle.theory_form.proofs.TheoryLemmas.{HoldsTheory-push}
use Rattle.theory_form.proofs.theories.Theory.add_var.Goals as goal

pub invariant_of-self-2 : goal.invariant_of-self-2
invariant_of-self-2 c =
    let f = c.self.inside in
    rw (c.push_reserved.ensures.items, c.reserve.ensures.items, c.in_ok-list_atom.ensures.ok, c.guard_with-self-inside.ensures)
    (HoldsTheory-push f.variables.items f.clauses.items f.blocks.items f.reserved f.guard _ _ c.args.kind c.kept.result c.self.invariant
    (omega (arith, c.len.ensures, c.reserve.ensures.len, f.variables.ok.0)) c.kept.ensures.number c.kept.ensures.same
    (subst (λ (t : TheoryView). CanAdd t c.args.kind) (sym c.self.view_is) c.requires))
