-- A strict partial order of the members of a family.

pub record IsStrictOn {S : Type 0} (IsMember : S → Type 0) (better : S → S → Type 0) : Type 0 where
  pub irreflexive : (x : S) → IsMember x → better x x → ⊥
  pub transitive : (x y z : S) → IsMember x → IsMember y → IsMember z → better x y → better y z → better x z
