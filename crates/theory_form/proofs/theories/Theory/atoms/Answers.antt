use Rattle.std.proofs.Common.{[], arith, ◌∙◌, subst}
use Rattle.theory_form.specs.Theories.{AreAtoms, TheoryView}
use Rattle.theory_form.proofs.AtomLemmas.{AreAtoms-from, AreAtoms-none}
use Rattle.theory_form.proofs.theories.Theory.atoms.Goals as goal

pub returns-in-Some : goal.returns-in-Some
returns-in-Some c =
    subst (λ (t : TheoryView). AreAtoms t c.args.block c.as_slice.result.now) c.self.view_is
    (AreAtoms-from _ c.args.block c.as_slice.result.now (c.as_slice.ensures ∙ (grind arith ∙ c.self.invariant.lists_are c.args.block (grind arith))))

pub returns-in-None : goal.returns-in-None
returns-in-None c =
    subst (λ (t : TheoryView). AreAtoms t c.args.block []) c.self.view_is (AreAtoms-none _ c.args.block c.self.invariant.theory (grind arith))
