-- Optimal sets, in any family of sets with any relation of preference. A set is given by its test.
use Rattle.std.specs.Prelude.{◌≡◌, ◌≢◌, ℕ, Bool, List, All}
use Rattle.std.specs.List.{AllPairs, Contains}
use Rattle.ground_form.specs.declared.atoms.AtomId.{AtomId}
use Rattle.ground_form.specs.Sets.{IsAscending, has}

-- the list of one of the sets: its members, in ascending order
abbrev pub ListsAnswer : ((ℕ → Bool) → Type 0) → List AtomId → Type 0
ListsAnswer IsAnswer set = IsAscending set × IsAnswer (has set)

-- which sets there are, and whether the first of two sets is preferred to the second
module _ (IsAnswer : (ℕ → Bool) → Type 0) (IsPreferred : (ℕ → Bool) → (ℕ → Bool) → Type 0) where
  -- none of the sets is preferred to x
  abbrev pub IsUnbeaten : (ℕ → Bool) → Type 0
  IsUnbeaten x = (y : ℕ → Bool) → IsAnswer y → IsPreferred y x → ⊥

  -- one of the sets, to which none is preferred
  pub record IsOptimal (x : ℕ → Bool) : Type 0 where
    pub answer : IsAnswer x
    pub unbeaten : IsUnbeaten x

  -- some of these, each once
  pub record AreOptimal (sets : List (List AtomId)) : Type 0 where
    pub optimal : All (λ set. IsOptimal (has set)) sets
    pub once : AllPairs (λ x y. has x ≢ has y) sets

  -- exactly these, each once
  pub record IsListing (sets : List (List AtomId)) : Type 0 where
    pub optima : AreOptimal sets
    pub whole : (x : ℕ → Bool) → IsOptimal x → (set : List AtomId) × Contains sets set × (has set ≡ x)
