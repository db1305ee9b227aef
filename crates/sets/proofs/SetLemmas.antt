-- Sets that are given by lists.
use Rattle.std.proofs.Common.{Bool, List, ap, ◌∙◌}
use Rattle.std.specs.Prelude.{Contains, IsTrue}
use Rattle.std.proofs.lemmas.List.Folds.{Any-from_list_any, list_any_at}
use Rattle.sets.specs.Sets.{has, IsSubset}

-- ---- members of a list

pub has-from_Contains : {X Y : Type 0} (is : Y → X → Bool) (ys : List Y) (y : Y) (x : X) → Contains ys y → IsTrue (is y x) → IsTrue (has is ys x)
has-from_Contains is ys y x h same = list_any_at (λ z. is z x) ys h.0 y h.1 (ap (λ z. is z x) h.2 ∙ same)

pub Contains-from_has : {X Y : Type 0} (is : Y → X → Bool) (ys : List Y) (x : X) → IsTrue (has is ys x) → (y : Y) × Contains ys y × IsTrue (is y x)
Contains-from_has is ys x h =
    let some = Any-from_list_any (λ y. is y x) ys h in
    (some.1, (some.0, some.2, some.3), some.4)

-- ---- subsets

pub subset_then : {X : Type 0} (x y z : X → Bool) → IsSubset x y → IsSubset y z → IsSubset x z
subset_then x y z s t a h = t a (s a h)
