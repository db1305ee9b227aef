-- The truth of a body rests on the atoms that it looks at.
use Rattle.std.proofs.Common.{◌≡◌, ℕ, suc, ◌<◌, Bool, ◌&&◌, List, [], ◌∷◌, refl, ap, ◌∙◌, Option, Some, None}
use Rattle.std.specs.Prelude.{ℤ, pos, negsuc, ◌+ℤ◌, All, fold, if◌then◌else◌}
use Rattle.std.specs.List.{list_all, list_any, AllByRecursion}
use Rattle.std.proofs.lemmas.List.Elements.{recursion_from_All}
use Rattle.ground_form.specs.Programs.{Parts, numbered}
use Rattle.ground_form.specs.Truth.{literals_true, row_value, weight_value, guards_hold, group_true_if_there, guard_true, guards_in, literals_in, body_true}
use Rattle.ground_form.specs.Acyclic.{atom_of, AreBelow, IsGroupBelow, IsBelowIfThere}
use Rattle.ground_form.specs.declared.bodies.Body.{Body}
use Rattle.ground_form.specs.declared.bodies.GuardUse.{GuardUse}
use Rattle.ground_form.specs.declared.groups.Group.{Group}
use Rattle.ground_form.specs.declared.groups.GroupRow.{GroupRow}

-- x and y agree on the atoms with a level below n
abbrev pub AgreeBelow : (ℕ → ℕ) → ℕ → (ℕ → Bool) → (ℕ → Bool) → Type 0
AgreeBelow level n x y = (a : ℕ) → level a < n → x a ≡ y a

module _ (level : ℕ → ℕ) (n : ℕ) (x y : ℕ → Bool) (agree : AgreeBelow level n x y) where
  literals_each : (lits : List ℤ) → AllByRecursion (λ (l : ℤ). level (atom_of l) < n) lits → literals_true x lits ≡ literals_true y lits
  literals_each [] b = refl
  literals_each (pos a ∷ lits) b = rw (agree a b.0, literals_each lits b.1) refl
  literals_each (negsuc k ∷ lits) b = rw (agree (suc k) b.0, literals_each lits b.1) refl

  literals_same : (lits : List ℤ) → AreBelow level n lits → literals_true x lits ≡ literals_true y lits
  literals_same lits b = literals_each lits (recursion_from_All _ lits b)

  conditions_same : (cs : List (List ℤ)) → AllByRecursion (AreBelow level n) cs → list_any (literals_true x) cs ≡ list_any (literals_true y) cs
  conditions_same [] b = refl
  conditions_same (c ∷ cs) b = rw (literals_same c b.0, conditions_same cs b.1) refl

  row_same : (row : GroupRow) → All (AreBelow level n) row.conditions → row_value x row ≡ row_value y row
  row_same row b = ap (λ t. if t then weight_value row.weight else pos 0) (conditions_same row.conditions (recursion_from_All (AreBelow level n) row.conditions b))

  sums_same : (s : ℤ) (rows : List GroupRow) → AllByRecursion (λ (row : GroupRow). All (AreBelow level n) row.conditions) rows → fold (λ sum row. sum +ℤ row_value x row) s rows ≡ fold (λ sum row. sum +ℤ row_value y row) s rows
  sums_same s [] b = refl
  sums_same s (row ∷ rows) b = ap (λ v. fold (λ sum r. sum +ℤ row_value x r) (s +ℤ v) rows) (row_same row b.0) ∙ sums_same (s +ℤ row_value y row) rows b.1

  group_same : (k : ℕ) (group : Option Group) → IsGroupBelow level n group → group_true_if_there x k group ≡ group_true_if_there y k group
  group_same k None b = refl
  group_same k (Some group) b = ap (λ s. guards_hold s k group) (sums_same (pos 0) group.rows (recursion_from_All (λ (row : GroupRow). All (AreBelow level n) row.conditions) group.rows b))

  uses_same : (groups : List Group) (uses : List GuardUse) → AllByRecursion (λ (guard : GuardUse). IsGroupBelow level n (numbered groups guard.group)) uses → list_all (guard_true groups x) uses ≡ list_all (guard_true groups y) uses
  uses_same groups [] b = refl
  uses_same groups (u ∷ uses) b = rw (group_same u.guard (numbered groups u.group) b.0, uses_same groups uses b.1) refl

  body_same_if_there : (groups : List Group) (body : Option Body) → IsBelowIfThere groups level n body → (guards_in groups x body && literals_true x (literals_in body)) ≡ (guards_in groups y body && literals_true y (literals_in body))
  body_same_if_there groups None b = refl
  body_same_if_there groups (Some body) b =
      rw (uses_same groups body.guards (recursion_from_All (λ (guard : GuardUse). IsGroupBelow level n (numbered groups guard.group)) body.guards b.guards), literals_same body.lits b.lits) refl

  pub body_same : (g : Parts) (b : ℕ) → IsBelowIfThere g.groups level n (numbered g.bodies b) → body_true g x b ≡ body_true g y b
  body_same g b below = body_same_if_there g.groups (numbered g.bodies b) below
