-- The first value of a sort.
use Rattle.std.proofs.Common.{◌≡◌, List, [], ◌∷◌, ◌++◌, Option, Some, None, refl}
use Rattle.ap_grammar.specs.Values.{Value, found}

by_pick : {A : Type 0} (o front whole rest : Option A) → (front ≡ None → whole ≡ rest) → ◌≡◌ {A = Option A} (elim o [ None ↦ front | Some x ↦ Some x ]) None → ◌≡◌ {A = Option A} (elim o [ None ↦ whole | Some x ↦ Some x ]) rest
by_pick None front whole rest h e = h e
by_pick (Some x) front whole rest h e = absurd (cc)

-- none before, and then the first one of the rest
pub found-append : {A : Type 0} (pick : Value → Option A) (us vs : List Value) → found pick us ≡ None → found pick (us ++ vs) ≡ found pick vs
found-append pick [] vs e = refl
found-append pick (u ∷ us) vs e = by_pick (pick u) (found pick us) (found pick (us ++ vs)) (found pick vs) (found-append pick us vs) e

-- none before, and none behind
pub none-append : {A : Type 0} (pick : Value → Option A) (us vs : List Value) → found pick us ≡ None → found pick vs ≡ None → found pick (us ++ vs) ≡ None
none-append pick us vs e h = rw (found-append pick us vs e) h
