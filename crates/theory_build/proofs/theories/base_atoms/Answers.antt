use Rattle.std.proofs.Common.{◌≡◌, ◌+◌, ◌-◌, ◌<◌, ◌∙◌, ℕ, ap, sym, arith, get_or, true, false, inl, inr}
use Rattle.std.proofs.lemmas.Bool.{cases_lt}
use Rattle.theory_form.specs.declared.rows.VarKind.{VarKind}
use Rattle.theory_form.specs.declared.rows.VarKind.TheVariants.{Other}
use Rattle.theory_build.specs.Completion.{is_atom}
use Rattle.theory_build.proofs.BaseLemmas.{base_atoms_are}
use Rattle.theory_build.proofs.theories.base_atoms.Goals as goal

pub returns-then-not-is_atom_var-clause-count : goal.returns-then-not-is_atom_var-clause-count
returns-then-not-is_atom_var-clause-count c =
    let n = c.loop-atoms.atoms in
    let place : n + 1 - 1 ≡ n = omega arith in
    let stops : is_atom (get_or c.args.t.now.variables n Other) ≡ false =
    ap (λ (i : ℕ). is_atom (get_or c.args.t.now.variables i Other)) (sym place) ∙ sym (c.is_atom_var.ensures Other) ∙ c.if-not-is_atom_var.true
    in
    base_atoms_are c.args.t.now n Other c.loop-atoms.invariant.0 (λ k below. c.loop-atoms.invariant.1 k Other below) (λ within. stops)

pub loop-atoms-preserved : goal.loop-atoms-preserved
loop-atoms-preserved c =
    let n = c.loop-atoms.atoms in
    let variables = c.args.t.now.variables in
    let count = c.var_count.ensures.count in
    let here : (d : VarKind) → is_atom (get_or variables n d) ≡ true = λ d.
    let place : n + 1 - 1 ≡ n = omega arith in
    ap (λ (i : ℕ). is_atom (get_or variables i d)) (sym place) ∙ sym (c.is_atom_var.ensures d) ∙ c.if-not-is_atom_var.false
    in (
      omega arith,
      λ k d below. elim (cases_lt k n) [
        | inl earlier ↦ c.loop-atoms.invariant.1 k d earlier
        | inr last ↦ let e : k ≡ n = omega arith in ap (λ (i : ℕ). is_atom (get_or variables i d)) e ∙ here d
      ],
    )

pub returns-clause-count : goal.returns-clause-count
returns-clause-count c = base_atoms_are c.args.t.now c.loop-atoms.atoms Other c.loop-atoms.invariant.0 (λ k below. c.loop-atoms.invariant.1 k Other below) (λ within. absurd (omega arith))
