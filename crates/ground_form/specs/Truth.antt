-- Truth in a set of atoms. The set is given by its test.
use Rattle.std.specs.Prelude.{ℕ, suc, ℤ, pos, negsuc, ◌+ℤ◌, Bool, true, false, not, ◌&&◌, ◌==◌, if◌then◌else◌, List, [], fold, Option, Some, None, int_lt}
use Rattle.std.specs.List.{list_all, list_any}
use Rattle.std.specs.Bool.{beq}
use Rattle.std.specs.Ordering.{int_eq}
use Rattle.ground_form.specs.declared.bodies.Body.{Body}
use Rattle.ground_form.specs.declared.bodies.GuardUse.{GuardUse}
use Rattle.ground_form.specs.declared.groups.Group.{Group}
use Rattle.ground_form.specs.declared.groups.GroupRow.{GroupRow}
use Rattle.ground_form.specs.declared.groups.GroupGuard.{GroupGuard}
use Rattle.ground_form.specs.declared.groups.GroupGuard.TheVariants.{Compare, Fixed}
use Rattle.ground_form.specs.declared.groups.GuardRel.{GuardRel}
use Rattle.ground_form.specs.declared.groups.GuardRel.TheVariants.{Eq, Ne, Lt, Le, Gt, Ge}
use Rattle.ground_form.specs.Programs.{Parts, numbered}

-- a literal is an atom's number, or the negative of one under `not`
abbrev pub literal_true : (ℕ → Bool) → ℤ → Bool
literal_true x (pos a) = x a
literal_true x (negsuc k) = not (x (suc k))

-- a condition is a conjunction of literals
abbrev pub literals_true : (ℕ → Bool) → List ℤ → Bool
literals_true x lits = list_all (literal_true x) lits

-- ---- aggregates

-- a tuple counts where one of its conditions is true
abbrev pub row_counts : (ℕ → Bool) → GroupRow → Bool
row_counts x row = list_any (literals_true x) row.conditions

-- what a tuple adds where it counts; a first member that is no integer adds nothing
abbrev pub weight_value : Option ℤ → ℤ
weight_value None = pos 0
weight_value (Some weight) = weight

abbrev pub row_value : (ℕ → Bool) → GroupRow → ℤ
row_value x row = if row_counts x row then weight_value row.weight else pos 0

-- the sum over the tuples that count, each once
abbrev pub rows_sum : (ℕ → Bool) → List GroupRow → ℤ
rows_sum x rows = fold (λ sum row. sum +ℤ row_value x row) (pos 0) rows

abbrev pub compares : GuardRel → ℤ → ℤ → Bool
compares Eq value n = int_eq value n
compares Ne value n = not (int_eq value n)
compares Lt value n = int_lt value n
compares Le value n = not (int_lt n value)
compares Gt value n = int_lt n value
compares Ge value n = not (int_lt value n)

abbrev pub guard_holds : ℤ → GroupGuard → Bool
guard_holds value (Compare rel n) = compares rel value n
guard_holds value (Fixed b) = b

-- a guard that is not there asks for nothing
abbrev pub guard_holds_if_there : ℤ → Option GroupGuard → Bool
guard_holds_if_there value None = true
guard_holds_if_there value (Some guard) = guard_holds value guard

-- the guards of a group by number: 0 is the left one, 1 the right one, and else both
abbrev pub guards_hold : ℤ → ℕ → Group → Bool
guards_hold value k group =
    if k == 0 then guard_holds_if_there value group.left else
    if k == 1 then guard_holds_if_there value group.right else
    (guard_holds_if_there value group.left && guard_holds_if_there value group.right)

abbrev pub group_true : (ℕ → Bool) → ℕ → Group → Bool
group_true x k group = guards_hold (rows_sum x group.rows) k group

abbrev pub group_true_if_there : (ℕ → Bool) → ℕ → Option Group → Bool
group_true_if_there x k None = false
group_true_if_there x k (Some group) = group_true x k group

-- a literal over guards, of the group that is named
abbrev pub guard_true : List Group → (ℕ → Bool) → GuardUse → Bool
guard_true groups x guard = beq guard.yes (group_true_if_there x guard.guard (numbered groups guard.group))

-- ---- bodies

-- what a body has besides literals over atoms is true; `always` is true in every set, and `never` in none
abbrev pub guards_true : List Group → (ℕ → Bool) → Body → Bool
guards_true groups x body = not body.never && list_all (guard_true groups x) body.guards

-- the parts of a body, by its number
abbrev pub guards_in : List Group → (ℕ → Bool) → Option Body → Bool
guards_in groups x None = false
guards_in groups x (Some body) = guards_true groups x body

abbrev pub literals_in : Option Body → List ℤ
literals_in None = []
literals_in (Some body) = body.lits

abbrev pub aggregates_true : Parts → (ℕ → Bool) → ℕ → Bool
aggregates_true g x b = guards_in g.groups x (numbered g.bodies b)

abbrev pub literals_of : Parts → ℕ → List ℤ
literals_of g b = literals_in (numbered g.bodies b)

abbrev pub body_true : Parts → (ℕ → Bool) → ℕ → Bool
body_true g x b = aggregates_true g x b && literals_true x (literals_of g b)
