-- Lists in term order, each member once.
use Rattle.std.proofs.Common.{◌≡◌, List, [], ◌∷◌, Contains, refl, sym, subst, ap, ◌∙◌, ⊎_elim, inl, inr, Ordering, Less, Equal, Greater}
use Rattle.std.specs.Prelude.{◌⊎◌}
use Rattle.std.specs.Ordering.{is_lt, ordering_reverse}
use Rattle.std.proofs.lemmas.Bool.{false≢true}
use Rattle.ap_term.specs.Order.{value_cmp}
use Rattle.ap_term.specs.Value.{Value}
use Rattle.ap_term.proofs.OrderLemmas.{value_cmp-total, value_itself, value_same}
use Rattle.element_form.specs.States.{put_by, put_in, in_order}
use Rattle.rule_form.proofs.Totals.{Apart}
use Rattle.rule_form.proofs.Unfolds.{here, there, first_or_rest, nothing_in}

-- v is below each member
abbrev pub IsBelowAll : Value → List Value → Type 0
IsBelowAll v ws = (w : Value) → Contains ws w → value_cmp v w ≡ Less

-- each member is below those behind it
abbrev pub IsSorted : List Value → Type 0
IsSorted [] = Unit {0}
IsSorted (v ∷ vs) = IsBelowAll v vs × IsSorted vs

-- ---- members

in_put : (v : Value) (ws : List Value) (a : Value) → Contains (put_in v ws) a → (v ≡ a) ⊎ Contains ws a
in_put v [] a c = first_or_rest v [] a c
in_put v (w ∷ ws) a c = by (value_cmp v w) c (in_put v ws a)
  where
    by : (o : Ordering) → Contains (put_by o v w ws (put_in v ws)) a → (Contains (put_in v ws) a → (v ≡ a) ⊎ Contains ws a) → (v ≡ a) ⊎ Contains (w ∷ ws) a
    by Less d rest = first_or_rest v (w ∷ ws) a d
    by Equal d rest = inr d
    by Greater d rest = ⊎_elim (λ e. inr (subst (Contains (w ∷ ws)) e (here w ws))) (λ r. ⊎_elim (λ e. inl e) (λ h. inr (there w ws a h)) (rest r)) (first_or_rest w (put_in v ws) a d)

put_there : (v : Value) (ws : List Value) → Contains (put_in v ws) v
put_there v [] = here v []
put_there v (w ∷ ws) = by (value_cmp v w) refl (put_there v ws)
  where
    by : (o : Ordering) → value_cmp v w ≡ o → Contains (put_in v ws) v → Contains (put_by o v w ws (put_in v ws)) v
    by Less e rest = here v (w ∷ ws)
    by Equal e rest = subst (Contains (w ∷ ws)) (sym (value_same v w e)) (here w ws)
    by Greater e rest = there w (put_in v ws) v rest

put_keeps : (v : Value) (ws : List Value) (a : Value) → Contains ws a → Contains (put_in v ws) a
put_keeps v [] a c = absurd (nothing_in a c)
put_keeps v (w ∷ ws) a c = by (value_cmp v w) (put_keeps v ws a)
  where
    by : (o : Ordering) → (Contains ws a → Contains (put_in v ws) a) → Contains (put_by o v w ws (put_in v ws)) a
    by Less rest = there v (w ∷ ws) a c
    by Equal rest = c
    by Greater rest = ⊎_elim (λ e. subst (Contains (w ∷ put_in v ws)) e (here w (put_in v ws))) (λ r. there w (put_in v ws) a (rest r)) (first_or_rest w ws a c)

pub from_order : (vs : List Value) (a : Value) → Contains (in_order vs) a → Contains vs a
from_order [] a c = c
from_order (v ∷ vs) a c = ⊎_elim (λ e. subst (Contains (v ∷ vs)) e (here v vs)) (λ r. there v vs a (from_order vs a r)) (in_put v (in_order vs) a c)

pub to_order : (vs : List Value) (a : Value) → Contains vs a → Contains (in_order vs) a
to_order [] a c = c
to_order (v ∷ vs) a c = ⊎_elim
    (λ e. subst (Contains (put_in v (in_order vs))) e (put_there v (in_order vs)))
    (λ r. put_keeps v (in_order vs) a (to_order vs a r))
    (first_or_rest v vs a c)

-- ---- order

turned : (v w : Value) → value_cmp v w ≡ Greater → value_cmp w v ≡ Less
turned v w e = value_cmp-total.antisymm w v ∙ ap ordering_reverse e

put_sorted : (v : Value) (ws : List Value) → IsSorted ws → IsSorted (put_in v ws)
put_sorted v [] s = (λ w c. absurd (nothing_in w c), tt)
put_sorted v (w ∷ ws) (low, s) = by (value_cmp v w) refl (put_sorted v ws s)
  where
    by : (o : Ordering) → value_cmp v w ≡ o → IsSorted (put_in v ws) → IsSorted (put_by o v w ws (put_in v ws))
    by Less e rest = (λ u c. ⊎_elim (λ is. subst (λ x. value_cmp v x ≡ Less) is e) (λ r. value_cmp-total.trans v w u e (low u r)) (first_or_rest w ws u c), (low, s))
    by Equal e rest = (low, s)
    by Greater e rest = (λ u c. ⊎_elim (λ is. subst (λ x. value_cmp w x ≡ Less) is (turned v w e)) (low u) (in_put v ws u c), rest)

pub sorted : (vs : List Value) → IsSorted (in_order vs)
sorted [] = tt
sorted (v ∷ vs) = put_sorted v (in_order vs) (sorted vs)

less_differs : (v w : Value) → value_cmp v w ≡ Less → v ≡ w → ⊥
less_differs v w l e = false≢true (sym (ap is_lt (value_itself v)) ∙ ap is_lt (subst (λ u. value_cmp v u ≡ Less) (sym e) l))

apart_sorted : (vs : List Value) → IsSorted vs → Apart vs
apart_sorted [] s = tt
apart_sorted (v ∷ vs) (low, s) = (λ c. less_differs v v (low v c) refl, apart_sorted vs s)

pub apart_in_order : (vs : List Value) → Apart (in_order vs)
apart_in_order vs = apart_sorted (in_order vs) (sorted vs)
