-- Rules without negation, and the least set that is closed under them. A set of atoms is given by its test.
use Rattle.std.specs.Prelude.{◌≡◌, ◌≢◌, ℕ, ◌<◌, Bool, false, not, ◌||◌, List, length, take, slice_index_or, All, Contains, IsTrue, ◌↔◌}
use Rattle.std.specs.List.{list_all, Any, AllPairs}
use Rattle.definite.specs.declared.Rule.{Rule}
use Rattle.definite.specs.declared.Derived.{Derived}

-- the set of the numbers whose places in a list are marked
abbrev pub marked : List Bool → ℕ → Bool
marked marks n = slice_index_or marks n false

-- each number of y is one of z
abbrev pub IsWithin : (ℕ → Bool) → (ℕ → Bool) → Type 0
IsWithin y z = (n : ℕ) → IsTrue (y n) → IsTrue (z n)

-- z has the heads of the rule, or not its body
abbrev pub obeys : (ℕ → Bool) → Rule → Bool
obeys z rule = not (list_all z rule.body) || list_all z rule.heads

abbrev pub IsClosed : List Rule → (ℕ → Bool) → Type 0
IsClosed rules z = IsTrue (list_all (obeys z) rules)

-- y is closed, and in each closed set
pub record IsLeast (rules : List Rule) (y : ℕ → Bool) : Type 0 where
  pub closed : IsClosed rules y
  pub least : (z : ℕ → Bool) → IsClosed rules z → IsWithin y z

-- an atom follows at once from these: it is a head of a rule whose body has only these
abbrev pub Follows : List Rule → List ℕ → ℕ → Type 0
Follows rules before a = Any (λ (rule : Rule). Contains rule.heads a × All (Contains before) rule.body) rules

-- each atom follows from those before it, and none stands twice
pub record IsDerivation (rules : List Rule) (order : List ℕ) : Type 0 where
  pub follows : (i d : ℕ) → i < length order → Follows rules (take i order) (slice_index_or order i d)
  pub distinct : AllPairs (λ (a b : ℕ). a ≢ b) order

-- the least set, as marks and in an order in which it can be derived
pub record IsDerived (rules : List Rule) (atoms : ℕ) (found : Derived) : Type 0 where
  pub least : IsLeast rules (marked found.marks)
  pub order : IsDerivation rules found.order
  pub same : (a : ℕ) → IsTrue (marked found.marks a) ↔ Contains found.order a
  pub size : length found.marks ≡ atoms

-- the rule is over so many atoms
pub record IsRuleOf (atoms : ℕ) (rule : Rule) : Type 0 where
  pub body : All (λ a. a < atoms) rule.body
  pub heads : All (λ a. a < atoms) rule.heads
