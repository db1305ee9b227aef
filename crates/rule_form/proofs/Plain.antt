-- Conjunctions and options.
use Rattle.std.proofs.Common.{◌≡◌, Bool, true, false, ◌&&◌, IsTrue, refl, subst, Option, Some, None}
use Rattle.std.proofs.lemmas.Bool.{false≢true}

pub left_true : (b c : Bool) → IsTrue (b && c) → IsTrue b
left_true true c e = refl
left_true false c e = absurd (false≢true e)

pub right_true : (b c : Bool) → IsTrue (b && c) → IsTrue c
right_true true c e = e
right_true false c e = absurd (false≢true e)

pub some_same : {X : Type 0} (a b : X) → Some a ≡ Some b → a ≡ b
some_same {X} a b e = subst (λ o. is_it o) e refl
  where
    is_it : Option X → Type 0
    is_it None = ⊥
    is_it (Some c) = a ≡ c

pub none_some : {X : Type 0} (b : X) → None ≡ Some b → ⊥
none_some {X} b e = subst is_none e tt
  where
    is_none : Option X → Type 0
    is_none None = Unit {0}
    is_none (Some c) = ⊥
