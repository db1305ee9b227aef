-- The atoms that follow at once from a set.
use Rattle.std.specs.Prelude.{◌≡◌, ℕ, ◌+◌, Bool, false, ◌&&◌, ◌||◌, ◌==◌, Option, None, Some, List, [], length, slice_index_or, Contains}
use Rattle.std.specs.List.{list_any}
use Rattle.definite.specs.Rules.{marked}
use Rattle.ground_form.specs.AnswerSets.{IsAnswerSetWith}
use Rattle.ground_form.specs.Programs.{Parts}
use Rattle.ground_form.specs.Truth.{body_true}
use Rattle.ground_form.specs.declared.atoms.AtomId.{AtomId}
use Rattle.ground_form.specs.declared.bodies.BodyId.{BodyId}
use Rattle.ground_form.specs.declared.rules.GroundRule.{GroundRule}
use Rattle.ground_form.specs.declared.rules.Head.{Head}
use Rattle.ground_form.specs.declared.rules.Head.TheVariants.{One, Choice, Nothing}

-- the atom that a head has
abbrev pub atom_in : Head → Option AtomId
atom_in (One a) = Some a
atom_in (Choice a) = Some a
atom_in Nothing = None

-- the head is this atom
abbrev pub names : ℕ → Head → Bool
names a (One b) = b.0 == a
names a (Choice b) = b.0 == a
names a Nothing = false

-- the rule derives the atom: it is its head, and the body is true in x
abbrev pub derives : Parts → (ℕ → Bool) → ℕ → GroundRule → Bool
derives g x a rule = names a rule.head && body_true g x rule.body.0

-- the atom is a fact, or a rule derives it from x
abbrev pub follows : Parts → (ℕ → Bool) → (ℕ → Bool) → ℕ → Bool
follows g facts x a = facts a || list_any (derives g x a) g.rules

-- x has just the facts and what the rules derive from x
abbrev pub IsSupported : Parts → (ℕ → Bool) → (ℕ → Bool) → Type 0
IsSupported g facts x = (a : ℕ) → x a ≡ follows g facts x a

-- there is an answer set with these facts, and no other one
abbrev pub HasOneAnswerSet : Parts → (ℕ → Bool) → Type 0
HasOneAnswerSet g facts = (x : ℕ → Bool) × IsAnswerSetWith g facts x × ((y : ℕ → Bool) → IsAnswerSetWith g facts y → y ≡ x)

-- ---- the bodies of the rules for each atom

abbrev pub bodies_at : List (List BodyId) → ℕ → List BodyId
bodies_at bodies a = slice_index_or bodies a []

-- whether a rule for the atom has a body that passes the test
abbrev pub has_body : (ℕ → Bool) → ℕ → GroundRule → Bool
has_body test a rule = names a rule.head && test rule.body.0

abbrev pub any_body : (ℕ → Bool) → List BodyId → Bool
any_body test ids = list_any (λ (id : BodyId). test id.0) ids

-- what a rule of the program adds
abbrev pub AddsBody : List (List BodyId) → List (List BodyId) → GroundRule → Type 0
AddsBody old new rule = (test : ℕ → Bool) (a : ℕ) → any_body test (bodies_at new a) ≡ (any_body test (bodies_at old a) || has_body test a rule)

-- what some rules of the program add
abbrev pub AddsBodies : List (List BodyId) → List (List BodyId) → List GroundRule → Type 0
AddsBodies old new rules = (test : ℕ → Bool) (a : ℕ) → any_body test (bodies_at new a) ≡ (any_body test (bodies_at old a) || list_any (has_body test a) rules)

pub record AreBodies (g : Parts) (bodies : List (List BodyId)) : Type 0 where
  pub same : (test : ℕ → Bool) (a : ℕ) → any_body test (bodies_at bodies a) ≡ list_any (has_body test a) g.rules
  pub size : length bodies ≡ length g.atoms + 1

-- ---- a model that is found atom by atom

-- the atoms that are done have just what follows from the marks, and the others what the facts say
pub record AreDecided (g : Parts) (facts : ℕ → Bool) (done : List ℕ) (marks : List Bool) : Type 0 where
  pub here : (a : ℕ) → Contains done a → marked marks a ≡ follows g facts (marked marks) a
  pub others : (a : ℕ) → (Contains done a → ⊥) → marked marks a ≡ facts a
  pub size : length marks ≡ length g.atoms + 1
