-- The reduct of a ground program, gathered by bodies: what the functions that build it do.
use Rattle.std.specs.Prelude.{◌≡◌, ℕ, ◌+◌, ◌-◌, ℤ, Bool, false, true, not, ◌&&◌, ◌||◌, List, [], ◌∷◌, ◌++◌, map, length, Option, None, Some, slice_index_or, All}
use Rattle.std.specs.List.{list_all, filter_map}
use Rattle.std.specs.Bool.{beq, then_some}
use Rattle.definite.specs.Rules.{obeys, IsRuleOf}
use Rattle.definite.specs.declared.Rule.{Rule}
use Rattle.ground_form.specs.Obedience.{body_by}
use Rattle.ground_form.specs.Programs.{Parts, numbered}
use Rattle.ground_form.specs.Reduct.{not_refuted, positive_of}
use Rattle.ground_form.specs.Truth.{guards_hold, rows_sum}
use Rattle.ground_form.specs.declared.bodies.Body.{Body}
use Rattle.ground_form.specs.declared.bodies.GuardUse.{GuardUse}
use Rattle.ground_form.specs.declared.groups.Group.{Group}
use Rattle.ground_form.specs.declared.rules.GroundRule.{GroundRule}
use Rattle.ground_form.specs.declared.rules.Head.{Head}
use Rattle.ground_form.specs.declared.rules.Head.TheVariants.{One, Choice, Nothing}

-- ---- which bodies are kept

abbrev pub group_value : (ℕ → Bool) → Group → ℤ
group_value x group = rows_sum x group.rows

-- whether the guards that are named hold, of a group and its value
abbrev pub value_true : ℕ → Option Group → Option ℤ → Bool
value_true guard None value = false
value_true guard (Some group) None = false
value_true guard (Some group) (Some value) = guards_hold value guard group

abbrev pub guard_by : List Group → List ℤ → GuardUse → Bool
guard_by groups values guard = beq guard.yes (value_true guard.guard (numbered groups guard.group) (numbered values guard.group))

-- the reduct by x keeps the body, where the groups have these values
abbrev pub kept_by : List Group → List ℤ → (ℕ → Bool) → Body → Bool
kept_by groups values x body = (not body.never && list_all (guard_by groups values) body.guards) && list_all (not_refuted x) body.lits

-- ---- rules

abbrev pub positives_in : Body → List ℕ
positives_in body = filter_map positive_of body.lits

-- the atom that the reduct by x gives a head. A choice has it where it is in x; a constraint has 0, which is no atom
abbrev pub head_in : (ℕ → Bool) → Head → Option ℕ
head_in x (One a) = Some a.0
head_in x (Choice a) = then_some (x a.0) a.0
head_in x Nothing = Some 0

-- z has the atom, if there is one
abbrev pub has_it : (ℕ → Bool) → Option ℕ → Bool
has_it z None = true
has_it z (Some a) = z a

-- z has the atom that the reduct by x gives the rule's head, or not its body
abbrev pub obeys_rule : Parts → (ℕ → Bool) → (ℕ → Bool) → GroundRule → Bool
obeys_rule g x z rule = not (body_by g x z rule.body.0) || has_it z (head_in x rule.head)

-- the same by a list of which bodies are kept and by a list of what each body asks for
abbrev pub obeys_by : List Bool → List (List ℕ) → (ℕ → Bool) → (ℕ → Bool) → GroundRule → Bool
obeys_by kept bodies x z rule = not (slice_index_or kept (rule.body.0 - 1) false && list_all z (slice_index_or bodies (rule.body.0 - 1) [])) || has_it z (head_in x rule.head)

abbrev pub body_of : Rule → List ℕ
body_of rule = rule.body

abbrev pub with_head : Rule → ℕ → Rule
with_head rule head = record { body = rule.body; heads = rule.heads ++ head ∷ [] }

-- what a rule of the program adds to the rules without negation
pub record AddsRule (kept : List Bool) (x : ℕ → Bool) (atoms : ℕ) (old new : List Rule) (rule : GroundRule) : Type 0 where
  pub closed : (z : ℕ → Bool) → list_all (obeys z) new ≡ (list_all (obeys z) old && obeys_by kept (map body_of old) x z rule)
  pub bodies : map body_of new ≡ map body_of old
  pub range : All (IsRuleOf atoms) old → All (IsRuleOf atoms) new

-- what some rules of the program add
pub record AddsRules (kept : List Bool) (x : ℕ → Bool) (atoms : ℕ) (old new : List Rule) (rules : List GroundRule) : Type 0 where
  pub closed : (z : ℕ → Bool) → list_all (obeys z) new ≡ (list_all (obeys z) old && list_all (obeys_by kept (map body_of old) x z) rules)
  pub bodies : map body_of new ≡ map body_of old
  pub range : All (IsRuleOf atoms) old → All (IsRuleOf atoms) new

-- the rules without negation are the reduct by x, with 0 as the head of the constraints
pub record IsReduct (g : Parts) (x : ℕ → Bool) (rules : List Rule) : Type 0 where
  pub closed : (z : ℕ → Bool) → list_all (obeys z) rules ≡ list_all (obeys_rule g x z) g.rules
  pub range : All (IsRuleOf (length g.atoms + 1)) rules
