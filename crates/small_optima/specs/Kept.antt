-- The members of a list of which something holds.
use Rattle.std.specs.Prelude.{List, [], ◌∷◌}

-- ys are the members of xs of which P holds, in order
pub data Kept {A : Type 0} (P : A → Type 0) : List A → List A → Type 0 where
  none : Kept P [] []
  keep : {x : A} {xs ys : List A} → P x → Kept P xs ys → Kept P (x ∷ xs) (x ∷ ys)
  leave : {x : A} {xs ys : List A} → (P x → ⊥) → Kept P xs ys → Kept P (x ∷ xs) ys
