-- What loop_valid tests, one after another.
use Rattle.std.specs.Prelude.{ℕ, not, ◌&&◌, ◌||◌, Bool, if◌then◌else◌, List}
use Rattle.std.specs.Bool.{beq}
use Rattle.std.specs.List.{list_all, list_any}
use Rattle.theory_form.specs.declared.literals.Lit.{Lit}
use Rattle.theory_form.specs.declared.literals.Var.{Var}
use Rattle.theory_form.specs.Order.{lit_eq}
use Rattle.theory_form.specs.Theories.{TheoryView}
use Rattle.theory_model.specs.Loops.{is_internal}
use Rattle.loop_nogoods.specs.Bodies.{is_support, is_variable, support_lits}
use Rattle.loop_nogoods.specs.Marks.{marked}

-- the literal is in the list
abbrev pub is_among : List Lit → Lit → Bool
is_among c l = list_any (λ m. lit_eq m l) c

-- each support in this list that is external to the set is in the clause
abbrev pub is_covered : TheoryView → (ℕ → Bool) → List Lit → List Lit → Bool
is_covered t u c supports = list_all (λ s. is_internal t u s || is_among c s) supports

-- so is each external support of the listed atoms
abbrev pub covers : TheoryView → (ℕ → Bool) → List Lit → List Var → Bool
covers t u c vars = list_all (λ v. is_covered t u c (support_lits t v.0)) vars

-- but for one literal, the clause has none that is internal to the set
abbrev pub stays_outside : TheoryView → (ℕ → Bool) → Lit → List Lit → Bool
stays_outside t u but c = list_all (λ m. lit_eq m but || not (is_internal t u m)) c

-- both
abbrev pub fits_set : TheoryView → List Var → (ℕ → Bool) → Lit → List Lit → Bool
fits_set t vars u but c = covers t u c vars && stays_outside t u but c

-- but for one literal, each literal of this sign is a support of a listed atom
abbrev pub are_supports : TheoryView → List Var → Lit → Bool → List Lit → Bool
are_supports t vars but sign c = list_all (λ m. lit_eq m but || (not (beq m.yes sign) || is_support t vars m)) c

-- the same, where marks tell it for the variables of the theory
abbrev pub is_named : TheoryView → List Bool → List Var → Lit → Bool
is_named t marks vars m = if is_variable t m.var.0 then marked marks m.var.0 else is_support t vars m

abbrev pub are_named : TheoryView → List Bool → List Var → Lit → Bool → List Lit → Bool
are_named t marks vars but sign c = list_all (λ m. lit_eq m but || (not (beq m.yes sign) || is_named t marks vars m)) c
