-- A formula of the table is true where its term is.
use Rattle.std.proofs.Common.{ℕ, Bool, List, sym, subst}
use Rattle.ap_term.specs.Value.{Value}
use Rattle.element_form.specs.declared.ground.GroundFormula.{GroundFormula}
use Rattle.element_form.specs.Formulas.{satisfied_by}
use Rattle.element_form.specs.Specs.{IsTermOf, IsTruthOf, TellAtoms}
use Rattle.element_form.specs.Specs.IsTermOf.{atom, neg, and, or}
use Rattle.element_form.specs.Specs.IsTruthOf.{atom as atom_truth, neg as neg_truth, and as and_truth, or as or_truth}

-- what the terms say is a truth of the table
pub table_truth : (values : List Value) (formulas : List GroundFormula) (x : ℕ → Bool) (atoms : Value → Bool) → TellAtoms values formulas x atoms
    → (f : ℕ) (v : Value) → IsTermOf values formulas f v → IsTruthOf formulas x f (satisfied_by atoms v)
table_truth values formulas x atoms tell f v (atom {t = t} {n = n} e) = subst (IsTruthOf formulas x f) (sym (tell f t n e)) (atom_truth e)
table_truth values formulas x atoms tell f v (neg {g = g} {v = w} e t) = neg_truth e (table_truth values formulas x atoms tell g.0 w t)
table_truth values formulas x atoms tell f v (and {g = g} {h = h} {v = w} {w = u} e t s) = and_truth e (table_truth values formulas x atoms tell g.0 w t) (table_truth values formulas x atoms tell h.0 u s)
table_truth values formulas x atoms tell f v (or {g = g} {h = h} {v = w} {w = u} e t s) = or_truth e (table_truth values formulas x atoms tell g.0 w t) (table_truth values formulas x atoms tell h.0 u s)
