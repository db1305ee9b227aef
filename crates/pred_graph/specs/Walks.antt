-- Walks along a relation.
use Rattle.std.specs.Prelude.{◌≡◌, List, [], ◌∷◌}

module _ {X : Type 0} (Next : X → X → Type 0) where
  -- a walk from x over these, each of which is next to the one before, to y
  abbrev pub IsWalk : X → List X → X → Type 0
  IsWalk x [] y = x ≡ y
  IsWalk x (next ∷ walk) y = Next x next × IsWalk next walk y

  -- there is a walk from x to y
  abbrev pub Leads : X → X → Type 0
  Leads x y = (walk : List X) × IsWalk x walk y
