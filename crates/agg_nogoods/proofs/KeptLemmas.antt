-- The ends of a sum where one variable gets another value.
use Rattle.std.proofs.Common.{◌≡◌, ◌≢◌, ℕ, suc, ◌<◌, ◌^◌, ℤ, pos, ◌+ℤ◌, ◌-ℤ◌, neg_ℤ, ◌≤ℤ◌, Bool, true, false, cond, inl, inr, List, [], ◌∷◌, get_or, length, refl, sym, ap, ap₂, subst, ◌∙◌, eq-eqb, arith}
use Rattle.std.specs.Prelude.{Option, Some, None, All, ◌≤◌, unsigned_abs, sum_by}
use Rattle.std.proofs.lemmas.Int.{ints, clamps}
use Rattle.std.proofs.lemmas.List.Sums.{sum_by-cons, get_or-le-sum_by}
use Rattle.std.proofs.lemmas.List.Elements.{Contains-get_or}
use Rattle.theory_form.specs.declared.literals.Var.{Var}
use Rattle.theory_form.specs.declared.rows.SumRow.{SumRow}
use Rattle.theory_form.specs.Kinds.{IsRow}
use Rattle.agg_nogoods.specs.Ends.{least_share, greatest_share, least_end, greatest_end}
use Rattle.agg_nogoods.specs.declared.kept.RowEnds.{RowEnds}
use Rattle.agg_nogoods.specs.Known.{known_with}
use Rattle.agg_nogoods.specs.Slack.{slack, NoneForced}
use Rattle.theory_form.specs.Truth.{value_of}
use Rattle.agg_nogoods.specs.Kept.{AreEndsOf, variable_of, with_value}
use Rattle.agg_nogoods.proofs.EndLemmas.{Fresh, Apart, IsAmong, not_same}
use Rattle.agg_nogoods.proofs.FoundLemmas.{is_among}
use Rattle.agg_nogoods.proofs.RuleLemmas.{apart_from}

pub with_own : (k : ℕ → Option Bool) (v : ℕ) (o : Option Bool) → with_value k v o v ≡ o
with_own k v o = ap (λ q. cond q o (k v)) (eq-eqb v v refl)

pub with_other : (k : ℕ → Option Bool) (v : ℕ) (o : Option Bool) (u : ℕ) → u ≢ v → with_value k v o u ≡ k u
with_other k v o u h = ap (λ q. cond q o (k u)) (not_same u v h)

-- an end, by what each term adds to it
module _ (share : Option Bool → ℤ → ℤ) where
  abbrev pub end_by : (ℕ → Option Bool) → List (ℤ × Var) → ℤ
  end_by k [] = pos 0
  end_by k (t ∷ ts) = share (k t.1.0) t.0 +ℤ end_by k ts

  end_fresh : (k : ℕ → Option Bool) (v : ℕ) (o : Option Bool) (ts : List (ℤ × Var)) → Fresh v ts → end_by (with_value k v o) ts ≡ end_by k ts
  end_fresh k v o [] h = refl
  end_fresh k v o (t ∷ ts) h = ap₂ ◌+ℤ◌ (ap (λ p. share p t.0) (with_other k v o t.1.0 h.0)) (end_fresh k v o ts h.1)

  pub end_changed : (k : ℕ → Option Bool) (o : Option Bool) (t : ℤ × Var) (ts : List (ℤ × Var)) → Apart ts → IsAmong t ts
      → end_by (with_value k t.1.0 o) ts ≡ end_by k ts +ℤ (share o t.0 -ℤ share (k t.1.0) t.0)
  end_changed k o t [] apart i = absurd i
  end_changed k o t (s ∷ ss) apart (inl is) =
      let rest = end_fresh k t.1.0 o ss (subst (λ (q : ℤ × Var). Fresh q.1.0 ss) is apart.0) in
      let here : share (with_value k t.1.0 o s.1.0) s.0 ≡ share o t.0 = ap (λ (q : ℤ × Var). share (with_value k t.1.0 o q.1.0) q.0) is ∙ ap (λ p. share p t.0) (with_own k t.1.0 o) in
      let before : share (k s.1.0) s.0 ≡ share (k t.1.0) t.0 = ap (λ (q : ℤ × Var). share (k q.1.0) q.0) is in
      omega (arith, ints)
  end_changed k o t (s ∷ ss) apart (inr i) =
      let rest = end_changed k o t ss apart.1 i in
      let here : share (with_value k t.1.0 o s.1.0) s.0 ≡ share (k s.1.0) s.0 = ap (λ p. share p s.0) (with_other k t.1.0 o s.1.0 (λ e. other s ss i (subst (λ u. Fresh u ss) e apart.0))) in
      omega (arith, ints)
    where
      other : (r : ℤ × Var) (rs : List (ℤ × Var)) → IsAmong t rs → Fresh t.1.0 rs → ⊥
      other r [] j h = j
      other r (q ∷ qs) (inl is) h = h.0 (ap (λ (q : ℤ × Var). q.1.0) is)
      other r (q ∷ qs) (inr j) h = other r qs j h.1

pub least_by : (k : ℕ → Option Bool) (ts : List (ℤ × Var)) → least_end k ts ≡ end_by least_share k ts
least_by k [] = refl
least_by k (t ∷ ts) = ap (λ n. least_share (k t.1.0) t.0 +ℤ n) (least_by k ts)

pub greatest_by : (k : ℕ → Option Bool) (ts : List (ℤ × Var)) → greatest_end k ts ≡ end_by greatest_share k ts
greatest_by k [] = refl
greatest_by k (t ∷ ts) = ap (λ n. greatest_share (k t.1.0) t.0 +ℤ n) (greatest_by k ts)

-- ---- a row

-- the term at a place is among the terms
at_place : (ts : List (ℤ × Var)) (i : ℕ) → i < length ts → IsAmong (get_or ts i (pos 0, record { 0 = 0 })) ts
at_place ts i low = is_among (get_or ts i (pos 0, record { 0 = 0 })) ts (Contains-get_or ts i (pos 0, record { 0 = 0 }) low)

pub least_changed : (row : SumRow) (k : ℕ → Option Bool) (i : ℕ) (o : Option Bool) → IsRow row.terms row.bound → i < length row.terms
    → least_end (with_value k (variable_of row.terms i) o) row.terms ≡ least_end k row.terms +ℤ (least_share o (get_or row.terms i (pos 0, record { 0 = 0 })).0 -ℤ least_share (k (variable_of row.terms i)) (get_or row.terms i (pos 0, record { 0 = 0 })).0)
least_changed row k i o ok low =
    let t = get_or row.terms i (pos 0, record { 0 = 0 }) in
    let e = end_changed least_share k o t row.terms (apart_from row.terms ok.apart) (at_place row.terms i low) in
    let f = least_by (with_value k t.1.0 o) row.terms in
    let g = least_by k row.terms in
    omega (arith, ints)

pub greatest_changed : (row : SumRow) (k : ℕ → Option Bool) (i : ℕ) (o : Option Bool) → IsRow row.terms row.bound → i < length row.terms
    → greatest_end (with_value k (variable_of row.terms i) o) row.terms ≡ greatest_end k row.terms +ℤ (greatest_share o (get_or row.terms i (pos 0, record { 0 = 0 })).0 -ℤ greatest_share (k (variable_of row.terms i)) (get_or row.terms i (pos 0, record { 0 = 0 })).0)
greatest_changed row k i o ok low =
    let t = get_or row.terms i (pos 0, record { 0 = 0 }) in
    let e = end_changed greatest_share k o t row.terms (apart_from row.terms ok.apart) (at_place row.terms i low) in
    let f = greatest_by (with_value k t.1.0 o) row.terms in
    let g = greatest_by k row.terms in
    omega (arith, ints)

-- ---- ends are small

-- between the sum of the absolute values of the weights and its negative
abbrev pub weights : List (ℤ × Var) → ℕ
weights ts = sum_by (λ (t : ℤ × Var). unsigned_abs t.0) ts

abbrev pub IsSmall : ℤ → ℕ → Type 0
IsSmall n m = (neg_ℤ (pos m) ≤ℤ n) × (n ≤ℤ pos m)

least_share_small : (o : Option Bool) (w : ℤ) → IsSmall (least_share o w) (unsigned_abs w)
least_share_small None w = (grind (arith, ints, clamps), grind (arith, ints, clamps))
least_share_small (Some true) w = (grind (arith, ints), grind (arith, ints))
least_share_small (Some false) w = (grind (arith, ints), grind (arith, ints))

greatest_share_small : (o : Option Bool) (w : ℤ) → IsSmall (greatest_share o w) (unsigned_abs w)
greatest_share_small None w = (grind (arith, ints, clamps), grind (arith, ints, clamps))
greatest_share_small (Some true) w = (grind (arith, ints), grind (arith, ints))
greatest_share_small (Some false) w = (grind (arith, ints), grind (arith, ints))

end_small : (share : Option Bool → ℤ → ℤ) → ((o : Option Bool) (w : ℤ) → IsSmall (share o w) (unsigned_abs w)) → (k : ℕ → Option Bool) (ts : List (ℤ × Var)) → IsSmall (end_by share k ts) (weights ts)
end_small share h k [] = (omega (arith, ints), omega (arith, ints))
end_small share h k (t ∷ ts) =
    let (low, high) = end_small share h k ts in
    let (below, above) = h (k t.1.0) t.0 in
    let all = sum_by-cons (λ (s : ℤ × Var). unsigned_abs s.0) t ts in
    (omega (arith, ints), omega (arith, ints))

pub least_small : (k : ℕ → Option Bool) (ts : List (ℤ × Var)) → IsSmall (least_end k ts) (weights ts)
least_small k ts = subst (λ n. IsSmall n (weights ts)) (sym (least_by k ts)) (end_small least_share least_share_small k ts)

pub greatest_small : (k : ℕ → Option Bool) (ts : List (ℤ × Var)) → IsSmall (greatest_end k ts) (weights ts)
greatest_small k ts = subst (λ n. IsSmall n (weights ts)) (sym (greatest_by k ts)) (end_small greatest_share greatest_share_small k ts)

pub small_of : (row : SumRow) (n : ℤ) → IsRow row.terms row.bound → IsSmall n (weights row.terms) → unsigned_abs n < 2 ^ 52
small_of row n ok (low, high) = let room = ok.weights in grind (arith, ints)

pub small_weight : (row : SumRow) (i : ℕ) → IsRow row.terms row.bound → i < length row.terms → unsigned_abs (get_or row.terms i (pos 0, record { 0 = 0 })).0 < 2 ^ 52
small_weight row i ok low =
    let room = ok.weights in
    let le = get_or-le-sum_by (λ (t : ℤ × Var). unsigned_abs t.0) row.terms i (pos 0, record { 0 = 0 }) low in
    omega (arith, room, le)

pub changed_ends : (row : SumRow) (i : ℕ) (from to : Option Bool) (old new : RowEnds) → IsRow row.terms row.bound → i < length row.terms
    → new.least ≡ old.least +ℤ (least_share to (get_or row.terms i (pos 0, record { 0 = 0 })).0 -ℤ least_share from (get_or row.terms i (pos 0, record { 0 = 0 })).0)
    → new.greatest ≡ old.greatest +ℤ (greatest_share to (get_or row.terms i (pos 0, record { 0 = 0 })).0 -ℤ greatest_share from (get_or row.terms i (pos 0, record { 0 = 0 })).0)
    → new.heaviest ≡ old.heaviest
    → (known : ℕ → Option Bool) → AreEndsOf known row old → known (variable_of row.terms i) ≡ from → AreEndsOf (with_value known (variable_of row.terms i) to) row new
changed_ends row i from to old new ok low least greatest same known ends is = record {
  least =
      let w = (get_or row.terms i (pos 0, record { 0 = 0 })).0 in
      let e = least_changed row known i to ok low in
      let s : least_share (known (variable_of row.terms i)) w ≡ least_share from w = ap (λ o. least_share o w) is in
      let n = ends.least in
      omega (arith, ints);
  greatest =
      let w = (get_or row.terms i (pos 0, record { 0 = 0 })).0 in
      let e = greatest_changed row known i to ok low in
      let s : greatest_share (known (variable_of row.terms i)) w ≡ greatest_share from w = ap (λ o. greatest_share o w) is in
      let n = ends.greatest in
      omega (arith, ints);
  heaviest = subst (λ n. All (λ t. unsigned_abs t.0 ≤ n) row.terms) (sym same) ends.heaviest;
}

pub raised : (n m : ℕ) → n ≤ m → (ts : List (ℤ × Var)) → All (λ (t : ℤ × Var). unsigned_abs t.0 ≤ n) ts → All (λ (t : ℤ × Var). unsigned_abs t.0 ≤ m) ts
raised n m le ts h k d low = let here = h k d low in omega (arith, le, here)

-- ---- the row's own variable is none of its terms'

own_fresh : (v : Var) (ts : List (ℤ × Var)) → All (λ (t : ℤ × Var). t.1 ≢ v) ts → Fresh v.0 ts
own_fresh v [] h = tt
own_fresh v (t ∷ ts) h = (λ e. h 0 t (omega arith) (ap (λ n. record { 0 = n }) e), own_fresh v ts (λ k d low. h (suc k) d (omega (arith, low))))

known_with_is : (a : List (Option Bool)) (v : ℕ) (b : Bool) → known_with a v b ≡ with_value (value_of a) v (Some b)
known_with_is a v b = refl

pub slack_known : (row : SumRow) (a : List (Option Bool)) (h : Bool) → All (λ (t : ℤ × Var). t.1 ≢ row.var) row.terms → slack (value_of a) row h ≡ slack (known_with a row.var.0 h) row h
slack_known row a true own =
    let fresh = own_fresh row.var row.terms own in
    let e = end_fresh greatest_share (value_of a) row.var.0 (Some true) row.terms fresh in
    let f = greatest_by (value_of a) row.terms in
    let g = greatest_by (with_value (value_of a) row.var.0 (Some true)) row.terms in
    omega (arith, ints)
slack_known row a false own =
    let fresh = own_fresh row.var row.terms own in
    let e = end_fresh least_share (value_of a) row.var.0 (Some false) row.terms fresh in
    let f = least_by (value_of a) row.terms in
    let g = least_by (with_value (value_of a) row.var.0 (Some false)) row.terms in
    omega (arith, ints)

pub none_forced : (row : SumRow) (known : ℕ → Option Bool) (n : ℤ) (m : ℕ) → All (λ (t : ℤ × Var). unsigned_abs t.0 ≤ m) row.terms → pos m ≤ℤ n → NoneForced known row n
none_forced row known n m h le k d low free = let here = h k d low in omega (arith, ints)

pub small_least : (row : SumRow) (known : ℕ → Option Bool) (ends : RowEnds) → IsRow row.terms row.bound → AreEndsOf known row ends → unsigned_abs ends.least < 2 ^ 52
small_least row known ends ok are = small_of row ends.least ok (subst (λ n. IsSmall n (weights row.terms)) (sym are.least) (least_small known row.terms))

pub small_greatest : (row : SumRow) (known : ℕ → Option Bool) (ends : RowEnds) → IsRow row.terms row.bound → AreEndsOf known row ends → unsigned_abs ends.greatest < 2 ^ 52
small_greatest row known ends ok are = small_of row ends.greatest ok (subst (λ n. IsSmall n (weights row.terms)) (sym are.greatest) (greatest_small known row.terms))

slack_by_ends : (row : SumRow) (known : ℕ → Option Bool) (ends : RowEnds) (h : Bool) → AreEndsOf known row ends → cond h (ends.greatest -ℤ row.bound) ((row.bound -ℤ pos 1) -ℤ ends.least) ≡ slack known row h
slack_by_ends row known ends true are = ap (λ n. n -ℤ row.bound) are.greatest
slack_by_ends row known ends false are = ap (λ n. (row.bound -ℤ pos 1) -ℤ n) are.least

pub slack_of_ends : (row : SumRow) (a : List (Option Bool)) (ends : RowEnds) (h : Bool) → All (λ (t : ℤ × Var). t.1 ≢ row.var) row.terms → AreEndsOf (value_of a) row ends
    → cond h (ends.greatest -ℤ row.bound) ((row.bound -ℤ pos 1) -ℤ ends.least) ≡ slack (known_with a row.var.0 h) row h
slack_of_ends row a ends h own are = slack_by_ends row (value_of a) ends h are ∙ slack_known row a h own
