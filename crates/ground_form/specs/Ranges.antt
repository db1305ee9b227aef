-- What every ground program meets: its numbers are in range, no atom stands twice, and the sums of its groups are small.
use Rattle.std.specs.Prelude.{◌≢◌, ℕ, suc, ℤ, pos, negsuc, neg_ℤ, ◌<◌, ◌^◌, ◌≤ℤ◌, ◌==◌, ◌&&◌, Bool, false, ⊤, List, All, Option, Some, None, is_some, IsTrue, IfSome, IsSomeAnd, length, sum_by, unsigned_abs, if◌then◌else◌}
use Rattle.std.specs.List.{AllPairs}
pub use Rattle.sets.specs.Lists.{IsNumberOf}
use Rattle.ap_term.specs.declared.shape.TermId.{TermId}
use Rattle.ground_form.specs.declared.atoms.AtomId.{AtomId}
use Rattle.ground_form.specs.declared.bodies.Body.{Body}
use Rattle.ground_form.specs.declared.bodies.GuardUse.{GuardUse}
use Rattle.ground_form.specs.declared.groups.Group.{Group}
use Rattle.ground_form.specs.declared.groups.GroupRow.{GroupRow}
use Rattle.ground_form.specs.declared.groups.GroupGuard.{GroupGuard}
use Rattle.ground_form.specs.declared.groups.GroupGuard.TheVariants.{Compare, Fixed}
use Rattle.ground_form.specs.declared.rules.GroundRule.{GroundRule}
use Rattle.ground_form.specs.declared.rules.Head.{Head}
use Rattle.ground_form.specs.declared.rules.Head.TheVariants.{One, Choice, Nothing}
use Rattle.ground_form.specs.Programs.{Parts, numbered}

-- a literal is the number of one of n atoms, or the negative of one
abbrev pub IsLiteralOf : ℕ → ℤ → Type 0
IsLiteralOf n (pos a) = IsNumberOf n a
IsLiteralOf n (negsuc k) = IsNumberOf n (suc k)

abbrev pub IsHeadOf : ℕ → Head → Type 0
IsHeadOf n (One a) = IsNumberOf n a.0
IsHeadOf n (Choice a) = IsNumberOf n a.0
IsHeadOf n Nothing = ⊤

-- ---- rules and bodies, over so many atoms and bodies and over these groups

pub record IsRuleOf (atoms bodies : ℕ) (rule : GroundRule) : Type 0 where
  pub head : IsHeadOf atoms rule.head
  pub body : IsNumberOf bodies rule.body.0

-- the group has the guards that are named: 0 is the left one, 1 the right one, 2 both
abbrev pub has_guard : ℕ → Group → Bool
has_guard k group =
    if k == 0 then is_some group.left else
    if k == 1 then is_some group.right else
    if k == 2 then is_some group.left && is_some group.right else false

-- the group of this number is there, and has the guards that are named
abbrev pub IsGuardUseOf : List Group → GuardUse → Type 0
IsGuardUseOf groups guard = IsSomeAnd (numbered groups guard.group) (λ group. IsTrue (has_guard guard.guard group))

pub record IsBodyOf (atoms : ℕ) (groups : List Group) (body : Body) : Type 0 where
  pub lits : All (IsLiteralOf atoms) body.lits
  pub guards : All (IsGuardUseOf groups) body.guards

-- ---- groups

abbrev pub IsRowOf : ℕ → GroupRow → Type 0
IsRowOf atoms row = All (λ condition. All (IsLiteralOf atoms) condition) row.conditions

-- the number of a guard is an integer value
abbrev pub IsGuardNumber : GroupGuard → Type 0
IsGuardNumber (Compare rel n) = (neg_ℤ (pos 2147483647) ≤ℤ n) × (n ≤ℤ pos 2147483647)
IsGuardNumber (Fixed b) = ⊤

-- how far a row can move the sum, up or down
abbrev pub weight_size : Option ℤ → ℕ
weight_size None = 0
weight_size (Some weight) = unsigned_abs weight

pub record IsGroupOf (atoms : ℕ) (group : Group) : Type 0 where
  pub rows : All (IsRowOf atoms) group.rows
  pub sums : sum_by (λ (row : GroupRow). weight_size row.weight) group.rows < 2 ^ 52
  pub left : IfSome group.left IsGuardNumber
  pub right : IfSome group.right IsGuardNumber

-- ---- programs

-- no term stands at two places
abbrev pub AreDistinct : List TermId → Type 0
AreDistinct atoms = AllPairs (λ (s t : TermId). s.0 ≢ t.0) atoms

pub record IsInRange (g : Parts) : Type 0 where
  pub atoms : AreDistinct g.atoms
  pub rules : All (IsRuleOf (length g.atoms) (length g.bodies)) g.rules
  pub bodies : All (IsBodyOf (length g.atoms) g.groups) g.bodies
  pub groups : All (IsGroupOf (length g.atoms)) g.groups
  pub inputs : All (λ (a : AtomId). IsNumberOf (length g.atoms) a.0) g.inputs
