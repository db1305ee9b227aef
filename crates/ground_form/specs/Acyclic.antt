-- Programs in which no atom depends on itself.
use Rattle.std.specs.Prelude.{ℕ, ℤ, pos, negsuc, suc, ◌<◌, ⊤, List, All, Option, Some, None}
use Rattle.ground_form.specs.declared.bodies.Body.{Body}
use Rattle.ground_form.specs.declared.bodies.GuardUse.{GuardUse}
use Rattle.ground_form.specs.declared.groups.Group.{Group}
use Rattle.ground_form.specs.declared.groups.GroupRow.{GroupRow}
use Rattle.ground_form.specs.declared.rules.GroundRule.{GroundRule}
use Rattle.ground_form.specs.declared.rules.Head.{Head}
use Rattle.ground_form.specs.declared.rules.Head.TheVariants.{One, Choice, Nothing}
use Rattle.ground_form.specs.Programs.{Parts, numbered}

abbrev pub atom_of : ℤ → ℕ
atom_of (pos a) = a
atom_of (negsuc k) = suc k

-- each atom of these literals has a level below n
abbrev pub AreBelow : (ℕ → ℕ) → ℕ → List ℤ → Type 0
AreBelow level n lits = All (λ literal. level (atom_of literal) < n) lits

abbrev pub IsGroupBelow : (ℕ → ℕ) → ℕ → Option Group → Type 0
IsGroupBelow level n None = ⊤
IsGroupBelow level n (Some group) = All (λ (row : GroupRow). All (AreBelow level n) row.conditions) group.rows

-- each atom of the body, and of a group that it uses, has a level below n
pub record IsBodyBelow (groups : List Group) (level : ℕ → ℕ) (n : ℕ) (body : Body) : Type 0 where
  pub lits : AreBelow level n body.lits
  pub guards : All (λ (guard : GuardUse). IsGroupBelow level n (numbered groups guard.group)) body.guards

abbrev pub IsBelowIfThere : List Group → (ℕ → ℕ) → ℕ → Option Body → Type 0
IsBelowIfThere groups level n None = ⊤
IsBelowIfThere groups level n (Some body) = IsBodyBelow groups level n body

-- the head of the rule has a level above those of all that its body looks at
abbrev pub Rises : Parts → (ℕ → ℕ) → Head → ℕ → Type 0
Rises g level (One a) b = IsBelowIfThere g.groups level (level a.0) (numbered g.bodies b)
Rises g level (Choice a) b = IsBelowIfThere g.groups level (level a.0) (numbered g.bodies b)
Rises g level Nothing b = ⊤

-- the atoms have levels such that every rule rises
abbrev pub IsAcyclic : Parts → Type 0
IsAcyclic g = (level : ℕ → ℕ) × All (λ (rule : GroundRule). Rises g level rule.head rule.body.0) g.rules

-- each rule derives its atom wherever its body is true: there is no choice, and no constraint
abbrev pub IsOne : Head → Type 0
IsOne (One a) = ⊤
IsOne (Choice a) = ⊥
IsOne Nothing = ⊥

abbrev pub HasOnlyAtomHeads : Parts → Type 0
HasOnlyAtomHeads g = All (λ (rule : GroundRule). IsOne rule.head) g.rules
