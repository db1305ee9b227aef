-- What holds while the least set is searched for.
use Rattle.std.specs.Prelude.{◌≡◌, ◌≢◌, ℕ, ◌<◌, ◌≤◌, true, List, [], ◌∷◌, ◌++◌, length, Some, take, slice_get, slice_set, slice_index_or, All, Contains, IsTrue, count_by, ◌⊎◌, if◌then◌else◌}
use Rattle.std.specs.List.{list_all}
use Rattle.definite.specs.declared.Rule.{Rule}
use Rattle.definite.specs.declared.Derived.{Derived}
use Rattle.definite.specs.declared.search.Waits.{Waits}
use Rattle.definite.specs.Rules.{IsDerivation, IsRuleOf}
use Rattle.definite.specs.Rules.{marked}

-- the rules that wait for an atom
abbrev pub waiting_for : Waits → ℕ → List ℕ
waiting_for waits a = slice_index_or waits.waiting.items a []

-- how many atoms of its body the k-th rule has met
abbrev pub met_by : Waits → ℕ → ℕ
met_by waits k = slice_index_or waits.met.items k 0

-- what holds all along: the marked atoms are those of the order, each rule has met only marked atoms, and the sizes of the
-- tables and the numbers in them fit the rules
pub record IsSearch (rules : List Rule) (waits : Waits) (found : Derived) : Type 0 where
  pub range : All (IsRuleOf (length found.marks)) rules
  pub order : IsDerivation rules found.order
  pub in_order : (a : ℕ) → IsTrue (marked found.marks a) → Contains found.order a
  pub in_marks : (a : ℕ) → Contains found.order a → IsTrue (marked found.marks a)
  pub count : length found.order ≡ count_by (λ b. b) found.marks
  pub met : (k : ℕ) (rule : Rule) → slice_get rules k ≡ Some rule → IsTrue (list_all (marked found.marks) (take (met_by waits k) rule.body))
  pub numbers : (a k : ℕ) → Contains (waiting_for waits a) k → k < length rules
  pub waiting_size : length waits.waiting.items ≡ length found.marks
  pub met_size : length waits.met.items ≡ length rules

-- a rule with this number has all its heads marked, or waits for an atom of its body
abbrev pub IsSettled : Waits → Derived → ℕ → Rule → Type 0
IsSettled waits found k rule = IsTrue (list_all (marked found.marks) rule.heads) ⊎ ((a : ℕ) × Contains rule.body a × Contains (waiting_for waits a) k)

abbrev pub AreSettled : List Rule → Waits → Derived → Type 0
AreSettled rules waits found = (k : ℕ) (rule : Rule) → slice_get rules k ≡ Some rule → IsSettled waits found k rule

-- no rule waits for one of the first n atoms of the order
abbrev pub IsDrained : Waits → Derived → ℕ → Type 0
IsDrained waits found n = All (λ a. waiting_for waits a ≡ []) (take n found.order)

-- ---- what the single steps do

-- the atom is marked, and stands at the end of the order if it was not marked before
pub record IsAdded (d0 d1 : Derived) (a : ℕ) : Type 0 where
  pub marks : d1.marks ≡ slice_set d0.marks a true
  pub order : d1.order ≡ (if marked d0.marks a then d0.order else d0.order ++ a ∷ [])

-- the rule of this number waits for the atom too
pub record IsWaiter (w0 w1 : Waits) (a k : ℕ) : Type 0 where
  pub here : waiting_for w1 a ≡ waiting_for w0 a ++ k ∷ []
  pub others : (b : ℕ) → b ≢ a → waiting_for w1 b ≡ waiting_for w0 b
  pub met : w1.met ≡ w0.met
  pub size : length w1.waiting.items ≡ length w0.waiting.items

-- no rule waits for the atom any longer
pub record IsTaken (w0 w1 : Waits) (a : ℕ) : Type 0 where
  pub here : waiting_for w1 a ≡ []
  pub others : (b : ℕ) → b ≢ a → waiting_for w1 b ≡ waiting_for w0 b
  pub met : w1.met ≡ w0.met
  pub size : length w1.waiting.items ≡ length w0.waiting.items

-- what any part of the search does
pub record Step (rules : List Rule) (w0 : Waits) (d0 : Derived) (w1 : Waits) (d1 : Derived) : Type 0 where
  pub search : IsSearch rules w0 d0 → IsSearch rules w1 d1
  pub kept : (k : ℕ) (rule : Rule) → IsSettled w0 d0 k rule → IsSettled w1 d1 k rule
  pub drained : (n : ℕ) → n ≤ length d0.order → IsSearch rules w0 d0 → IsDrained w0 d0 n → IsDrained w1 d1 n
  pub longer : length d0.order ≤ length d1.order
  pub size : length d1.marks ≡ length d0.marks
