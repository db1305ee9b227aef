-- The literals of bodies and the supports of atoms, as lists that are empty where there are none.
use Rattle.std.specs.Prelude.{ℕ, ◌&&◌, Bool, List, [], Option, Some, None, length, nat_le, nat_lt, unwrap_or}
use Rattle.std.specs.List.{list_any}
use Rattle.theory_form.specs.declared.literals.Lit.{Lit}
use Rattle.theory_form.specs.declared.literals.Var.{Var}
use Rattle.theory_form.specs.declared.rows.BodyRow.{BodyRow}
use Rattle.theory_form.specs.Order.{lit_eq}
use Rattle.theory_form.specs.Theories.{TheoryView, body_of, supports_of}
use Rattle.loop_nogoods.specs.Marks.{marked}

abbrev pub lits_in : Option BodyRow → List Lit
lits_in None = []
lits_in (Some row) = row.lits

-- the literals of the body that a variable stands for
abbrev pub body_lits : TheoryView → ℕ → List Lit
body_lits t v = lits_in (body_of t v)

-- the supports of an atom
abbrev pub support_lits : TheoryView → ℕ → List Lit
support_lits t v = unwrap_or (supports_of t v) []

-- the literal is a support of a member of the list
abbrev pub is_support : TheoryView → List Var → Lit → Bool
is_support t u l = list_any (λ v. list_any (λ s. lit_eq s l) (support_lits t v.0)) u

-- this is the number of a variable of the theory
abbrev pub is_variable : TheoryView → ℕ → Bool
is_variable t v = nat_lt 0 v && nat_le v (length t.variables)

-- the variables of the theory that are marked
abbrev pub marked_set : TheoryView → List Bool → ℕ → Bool
marked_set t marks v = is_variable t v && marked marks v
