-- The formulas of a statement, as a list.
use Rattle.std.proofs.Common.{◌≡◌, [], Contains, sym, subst, ap, ⊎_elim}
use Rattle.ap_term.specs.Value.{Value}
use Rattle.element_form.specs.Ground.{Statement, Ground, Ranked, Target, For, Name, HasFormula}
use Rattle.element_form.specs.Satisfied.{formula_to, formulas}
use Rattle.rule_form.proofs.Lists.{in_flat, to_flat}
use Rattle.rule_form.proofs.Unfolds.{here, first_or_rest, nothing_in}

in_formula : (t : Target) (f : Value) → Contains (formula_to t) f → t ≡ For f
in_formula (For g) f c = ⊎_elim (λ e. ap For e) (λ r. absurd (nothing_in f r)) (first_or_rest g [] f c)
in_formula (Name q) f c = absurd (nothing_in f c)

pub in_formulas : (st : Statement) (f : Value) → Contains (formulas st) f → HasFormula st f
in_formulas st f c =
    let (e, among, h) = in_flat (λ (e : Ground). _) st.elements f c in
    let (r, rank, q) = in_flat (λ (r : Ranked). formula_to r.target) e.ranks f h in
    (e, r, among, rank, in_formula r.target f q)

pub to_formulas : (st : Statement) (f : Value) → HasFormula st f → Contains (formulas st) f
to_formulas st f (e, r, among, rank, t) = to_flat _ st.elements e f among (to_flat (λ (r : Ranked). formula_to r.target) e.ranks r f rank (subst (λ u. Contains (formula_to u) f) (sym t) (here f [])))
