-- The order of literals is total, and it tells apart just what `==` does.
use Rattle.std.specs.Prelude.{◌≡◌, ◌==◌, refl, Bool, true, false, ◌&&◌}
use Rattle.std.specs.Cmp.{IsTotalOrder, IsPartialOrder, on_total, back_total, then_total, nat_cmp_total, bool_cmp_total, both_tied, unsigned_ties, po}
use Rattle.std.specs.Ordering.{eq_by_cmp, as_partial_cmp, bool_cmp, nat_cmp, flip_args}
use Rattle.std.specs.Bool.{beq}
use Rattle.theory_form.specs.declared.literals.Lit.{Lit}
use Rattle.theory_form.specs.Literals.{lit_cmp}

pub lit_total : IsTotalOrder lit_cmp
lit_total =
    then_total (on_total (λ (l : Lit). l.var.0) nat_cmp_total) (on_total (λ (l : Lit). l.yes) (back_total bool_cmp_total))

bool_ties : (x y : Bool) → beq x y ≡ eq_by_cmp (flip_args bool_cmp) x y
bool_ties true true = refl
bool_ties true false = refl
bool_ties false true = refl
bool_ties false false = refl

-- what `==` answers
abbrev pub lit_eq : Lit → Lit → Bool
lit_eq x y = x.var.0 == y.var.0 && beq x.yes y.yes

pub lit_ties : (x y : Lit) → lit_eq x y ≡ eq_by_cmp lit_cmp x y
lit_ties x y =
    both_tied (x.var.0 == y.var.0) (beq x.yes y.yes) (nat_cmp x.var.0 y.var.0) (flip_args bool_cmp x.yes y.yes)
    (unsigned_ties x.var.0 y.var.0) (bool_ties x.yes y.yes)

pub lit_partial_order : IsPartialOrder lit_eq (as_partial_cmp lit_cmp)
lit_partial_order = po lit_total lit_ties
