-- Sets of variables. In definitions a set is its test; in calls it is a list.
use Rattle.std.specs.Prelude.{ℕ, ◌==◌, Bool, List}
use Rattle.sets.specs.Sets as sets
use Rattle.theory_form.specs.declared.literals.Var.{Var}
pub use Rattle.theory_form.specs.Literals.{AreAscending}

-- the set of the members of a list
abbrev pub has : List Var → ℕ → Bool
has = sets.has (λ v n. v.0 == n)
