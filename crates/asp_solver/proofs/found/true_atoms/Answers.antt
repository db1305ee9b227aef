use Rattle.std.proofs.Common.{◌≡◌, ◌+◌, ◌-◌, ◌<◌, ◌++◌, [], ◌∷◌, ◌∙◌, List, length, true, false, get_or, ap, sym, subst, arith}
use Rattle.theory_form.specs.declared.rows.VarKind.{VarKind}
use Rattle.theory_form.specs.declared.rows.VarKind.TheVariants.{Other}
use Rattle.ground_form.specs.declared.atoms.AtomId.{AtomId}
use Rattle.theory_build.specs.Completion.{is_atom}
use Rattle.search_law.specs.Closed.{truths}
use Rattle.asp_solver.proofs.FoundLemmas.{AreTrue, all_true, one_false, one_true}
use Rattle.asp_solver.proofs.found.true_atoms.Goals as goal
use Rattle.asp_solver.proofs.found.true_atoms.Goals.{then-is_on+in_ok-push, else-is_on}

pub returns-then-not-is_atom_var-clause-atoms : goal.returns-then-not-is_atom_var-clause-atoms
returns-then-not-is_atom_var-clause-atoms c =
    let t = c.args.t.now in
    let k = c.loop-number.number in
    let place : k + 1 - 1 ≡ k = omega arith in
    let stops : is_atom (get_or c.args.t.now.variables k Other) ≡ false =
    ap (λ i. is_atom (get_or c.args.t.now.variables i Other)) (sym place) ∙ sym (c.is_atom_var.ensures Other) ∙ c.if-not-is_atom_var.true in
    all_true t (truths c.args.a.now) k c.loop-number.ids.items c.loop-number.invariant (λ within. stops)

pub loop-number-preserved : goal.loop-number-preserved
loop-number-preserved c =
    let t = c.args.t.now in
    let f = truths c.args.a.now in
    let k = c.loop-number.number in
    let within : k < length c.args.t.now.variables =
    (let count = c.var_count-number-end.ensures.count in let test = c.loop-number-test.true in omega (arith, count, test)) in
    let place : k + 1 - 1 ≡ k = omega arith in
    let here : (d : VarKind) → is_atom (get_or c.args.t.now.variables k d) ≡ true = λ d.
    ap (λ i. is_atom (get_or c.args.t.now.variables i d)) (sym place) ∙ sym (c.is_atom_var.ensures d) ∙ c.if-not-is_atom_var.false in
    elim c.if-is_on.branch [
      | then-is_on+in_ok-push w ↦
          let more = one_true t (truths c.args.a.now) k c.loop-number.ids.items c.loop-number.invariant within here (sym c.is_on.ensures ∙ w.if-is_on.true) in
          rw w.ids-is (subst (AreTrue c.args.t.now (truths c.args.a.now) (c.loop-number.number + 1)) (sym w.in_ok-push.ensures.items) more)
      | else-is_on w ↦
          let same = one_false t (truths c.args.a.now) k c.loop-number.ids.items c.loop-number.invariant within here (sym c.is_on.ensures ∙ w.if-is_on.false) in
          rw w.ids-is same
    ]

pub returns-clause-atoms : goal.returns-clause-atoms
returns-clause-atoms c =
    let count = c.var_count-number-end.ensures.count in
    let test = c.loop-number-test.false in
    all_true c.args.t.now (truths c.args.a.now) c.loop-number.number c.loop-number.ids.items c.loop-number.invariant
    (λ within. absurd (omega (arith, count, test, within)))
