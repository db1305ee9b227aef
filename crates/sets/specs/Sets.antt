-- Sets. A set is given by its test: a function that tells of each thing whether it is in the set.
use Rattle.std.specs.Prelude.{Bool, false, List, IsTrue}
use Rattle.std.specs.List.{list_any}

-- the set without members
abbrev pub nothing : {X : Type 0} → X → Bool
nothing x = false

abbrev pub IsSubset : {X : Type 0} → (X → Bool) → (X → Bool) → Type 0
IsSubset {X} y z = (x : X) → IsTrue (y x) → IsTrue (z x)

-- the set of a list's members, where `is` tells whether a member is the thing that is asked about
abbrev pub has : {X Y : Type 0} → (Y → X → Bool) → List Y → X → Bool
has is members x = list_any (λ member. is member x) members
