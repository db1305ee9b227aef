-- The atoms that rules look at, and an order of the atoms in which each stands behind those that its rules look at.
use Rattle.std.specs.Prelude.{◌≡◌, ◌≢◌, ℕ, ◌+◌, ◌<◌, ℤ, Bool, true, not, ◌&&◌, ◌||◌, List, [], ◌∷◌, map, length, take, Option, None, Some, slice_index_or, All, Contains, IsTrue}
use Rattle.std.specs.List.{list_all, AllPairs}
use Rattle.definite.specs.declared.Rule.{Rule}
use Rattle.ground_form.specs.Acyclic.{IsAcyclic, atom_of}
use Rattle.ground_form.specs.Programs.{Parts, numbered}
use Rattle.ground_form.specs.declared.bodies.Body.{Body}
use Rattle.ground_form.specs.declared.bodies.GuardUse.{GuardUse}
use Rattle.ground_form.specs.declared.groups.Group.{Group}
use Rattle.ground_form.specs.declared.groups.GroupRow.{GroupRow}
use Rattle.ground_form.specs.declared.rules.GroundRule.{GroundRule}
use Rattle.ap_eval.specs.Supports.{names}

-- ---- whether p holds of each atom that is looked at

abbrev pub of_literals : (ℕ → Bool) → List ℤ → Bool
of_literals p lits = list_all (λ literal. p (atom_of literal)) lits

abbrev pub of_row : (ℕ → Bool) → GroupRow → Bool
of_row p row = list_all (of_literals p) row.conditions

abbrev pub of_group : (ℕ → Bool) → Option Group → Bool
of_group p None = true
of_group p (Some group) = list_all (of_row p) group.rows

abbrev pub of_guard : List Group → (ℕ → Bool) → GuardUse → Bool
of_guard groups p guard = of_group p (numbered groups guard.group)

abbrev pub of_body : List Group → (ℕ → Bool) → Option Body → Bool
of_body groups p None = true
of_body groups p (Some body) = of_literals p body.lits && list_all (of_guard groups p) body.guards

-- p holds of each atom that the rule looks at, if it is one for the atom a
abbrev pub looks_within : Parts → (ℕ → Bool) → ℕ → GroundRule → Bool
looks_within g p a rule = not (names a rule.head) || of_body g.groups p (numbered g.bodies rule.body.0)

-- ---- lists of the atoms that are looked at

-- what is added to the list are the atoms that `looked` tells of
abbrev pub AddsLooked : List ℕ → List ℕ → ((ℕ → Bool) → Bool) → Type 0
AddsLooked old new looked = (p : ℕ → Bool) → list_all p new ≡ (list_all p old && looked p)

-- the atoms that the rules for an atom look at, as a rule without negation for it
abbrev pub looked_by : List Rule → ℕ → List ℕ
looked_by looks a = (slice_index_or looks a (record { body = []; heads = [] })).body

abbrev pub heads_of : Rule → List ℕ
heads_of rule = rule.heads

-- what a rule of the program adds to the rules for the atoms
pub record AddsRule (g : Parts) (old new : List Rule) (rule : GroundRule) : Type 0 where
  pub looked : (p : ℕ → Bool) (a : ℕ) → list_all p (looked_by new a) ≡ (list_all p (looked_by old a) && looks_within g p a rule)
  pub heads : map heads_of new ≡ map heads_of old

-- what some rules of the program add
pub record AddsRules (g : Parts) (old new : List Rule) (rules : List GroundRule) : Type 0 where
  pub looked : (p : ℕ → Bool) (a : ℕ) → list_all p (looked_by new a) ≡ (list_all p (looked_by old a) && list_all (looks_within g p a) rules)
  pub heads : map heads_of new ≡ map heads_of old

-- for each atom a rule without negation: the atom, if those are there that its rules look at
pub record AreLooks (g : Parts) (looks : List Rule) : Type 0 where
  pub looked : (p : ℕ → Bool) (a : ℕ) → list_all p (looked_by looks a) ≡ list_all (looks_within g p a) g.rules
  pub heads : (a : ℕ) (d : Rule) → a < length looks → (slice_index_or looks a d).heads ≡ a ∷ []
  pub size : length looks ≡ length g.atoms + 1

-- ---- orders

-- the rules for each atom of the order look only at atoms that stand before it, no atom stands twice, and in an acyclic
-- program each stands in it
pub record IsOrder (g : Parts) (order : List ℕ) : Type 0 where
  pub before : (i : ℕ) → i < length order → (p : ℕ → Bool) → All (λ a. IsTrue (p a)) (take i order) → IsTrue (list_all (looks_within g p (slice_index_or order i 0)) g.rules)
  pub distinct : AllPairs (λ (a b : ℕ). a ≢ b) order
  pub range : All (λ a. a < length g.atoms + 1) order
  pub whole : IsAcyclic g → (a : ℕ) → a < length g.atoms + 1 → Contains order a
