use Rattle.std.proofs.Common.{◌≡◌, ◌∙◌, ◌≤◌, ◌<◌, [], ◌∷◌, List, ap, sym, subst, length, false, arith}
use Rattle.std.proofs.lemmas.List.Elements.{All-cons, All-nil}
use Rattle.theory_form.specs.declared.literals.Lit.{Lit}
use Rattle.ground_form.specs.declared.atoms.AtomId.{AtomId}
use Rattle.ground_form.specs.Ranges.{IsNumberOf}
use Rattle.theory_build.specs.Completion.{base_atoms}
use Rattle.theory_build.specs.Exclusion.{AreBaseAtoms}
use Rattle.theory_build.proofs.BaseLemmas.{base_atoms_of}
use Rattle.theory_build.proofs.tests.a_set_is_excluded_and_a_program_joined.Goals as goal

pub exclude-requires-clause-atoms : goal.exclude-requires-clause-atoms
exclude-requires-clause-atoms g c =
    let t = c.in_ok-theory.theory in
    let atoms : base_atoms t ≡ length c.in-Some-Some.g.atoms = base_atoms_of t c.in-Some-Some.g c.in_ok-theory.ensures.theory in
    let count = ap length c.atoms.ensures.value in
    let one : AreBaseAtoms t (record { 0 = 1 } ∷ []) =
    All-cons (λ (a : AtomId). IsNumberOf (base_atoms t) a.0) (record { 0 = 1 }) [] (omega arith, omega arith) (All-nil (λ (a : AtomId). IsNumberOf (base_atoms t) a.0))
    in
    subst (AreBaseAtoms t) (sym (c.new.ensures ∙ c.in_ok-ids.ensures.items)) one

pub append-requires-clause-known : goal.append-requires-clause-known
append-requires-clause-known g c =
    let join : Lit = record { var = record { 0 = 1 }; yes = false } in
    let variables = length c.exclude-in-Some-Some.new.t.variables in
    All-cons (λ (l : Lit). IsNumberOf variables l.var.0) join [] (omega arith, omega arith) (All-nil (λ (l : Lit). IsNumberOf variables l.var.0))
