-- Literals, and their order: by variable, the positive one first.
use Rattle.std.specs.Prelude.{◌≡◌, ◌<◌, not, List}
use Rattle.std.specs.List.{AllPairs}
use Rattle.std.specs.Ordering.{nat_cmp, bool_cmp, on, flip_args, then_cmp}
use Rattle.std.specs.declared.cmp.Ordering.{Ordering}
use Rattle.std.specs.declared.cmp.Ordering.TheVariants.{Less}
use Rattle.theory_form.specs.declared.literals.Lit.{Lit}
use Rattle.theory_form.specs.declared.literals.Var.{Var}

-- the literal that is true exactly where this one is false
abbrev pub opposite : Lit → Lit
opposite l = record { var = l.var; yes = not l.yes }

-- the order of literals
abbrev pub lit_cmp : Lit → Lit → Ordering
lit_cmp = then_cmp (on (λ l. l.var.0) nat_cmp) (on (λ l. l.yes) (flip_args bool_cmp))

-- each literal stands before those that follow it, so none stands twice
abbrev pub IsAscending : List Lit → Type 0
IsAscending c = AllPairs (λ l m. lit_cmp l m ≡ Less) c

-- each variable stands before those of higher numbers, so none stands twice
abbrev pub AreAscending : List Var → Type 0
AreAscending vars = AllPairs (λ v w. v.0 < w.0) vars
