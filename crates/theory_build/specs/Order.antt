-- The order of lists of literals is total, and it tells apart just what `==` does.
use Rattle.std.specs.Prelude.{◌≡◌, Bool, List, refl}
use Rattle.std.specs.Cmp.{IsTotalOrder, IsPartialOrder, IsEquivalence, eq_by_cmp_equiv, po}
use Rattle.std.specs.Cmp.Lexicographic.{lists_total}
use Rattle.std.specs.Ordering.{eq_by_cmp, as_partial_cmp}
use Rattle.theory_form.specs.declared.literals.Lit.{Lit}
use Rattle.theory_form.specs.Order.{lit_total}
use Rattle.theory_build.specs.Ascending.{lits_cmp}

pub lits_total : IsTotalOrder lits_cmp
lits_total = lists_total lit_total

-- what `==` answers
abbrev pub lits_eq : List Lit → List Lit → Bool
lits_eq = eq_by_cmp lits_cmp

pub lits_equivalence : IsEquivalence lits_eq
lits_equivalence = eq_by_cmp_equiv lits_total

pub lits_partial_order : IsPartialOrder lits_eq (as_partial_cmp lits_cmp)
lits_partial_order = po lits_total (λ x y. refl)
