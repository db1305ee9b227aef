-- Tables that are emptied at once.
use Rattle.std.proofs.Common.{◌≡◌, ℕ, zero, suc, ◌<◌, ◌≤◌, ◌==◌, Bool, true, if◌then◌else◌, List, [], ◌∷◌, ◌++◌, length, map, take, get_or, slice_set, refl, sym, ap, ◌∙◌, subst, arith}
use Rattle.std.specs.Prelude.{IsTrue, IsFalse, replicate}
use Rattle.std.specs.Global.{Vec}
use Rattle.std.specs.List.{All}
use Rattle.std.proofs.lemmas.Bool.{ne_eqb, eq-eqb}
use Rattle.std.proofs.lemmas.List.{get_or-set_same, get_or-set_other, length-set, map-set}
use Rattle.std.proofs.lemmas.List.Elements.{All-head}
use Rattle.theory_form.specs.Numbers.{grown}
use Rattle.loop_nogoods.specs.declared.waits.Wait.{Wait}
use Rattle.loop_nogoods.specs.Founding.{Appends, Takes, waits}
use Rattle.loop_nogoods.specs.Marks.{marked}
use Rattle.loop_nogoods.specs.Stamps.{lists_in}

-- ---- stamps

pub of_round : ℕ → List ℕ → List Bool
of_round round stamps = map (λ stamp. stamp == round) stamps

-- no stamp is of a round that is yet to come
pub none_of_later : (round : ℕ) (stamps : List ℕ) → All (λ stamp. stamp < round) stamps → (v : ℕ) → IsFalse (marked (map (λ stamp. stamp == round) stamps) v)
none_of_later round [] h v = refl
none_of_later round (x ∷ stamps) h zero = let low = All-head (λ stamp. stamp < round) x stamps h in ne_eqb x round (λ e. omega (arith, e, low))
none_of_later round (x ∷ stamps) h (suc v) = none_of_later round stamps (λ i d lt. h (suc i) d (omega arith)) v

zeros : (round n v : ℕ) → 0 < round → IsFalse (marked (map (λ stamp. stamp == round) (replicate n 0)) v)
zeros round zero v first = refl
zeros round (suc n) zero first = ne_eqb 0 round (λ e. omega (arith, e))
zeros round (suc n) (suc v) first = zeros round n v first

-- nor one of those that come to a table without any of this round
grown_clear : (round : ℕ) (stamps : List ℕ) (n v : ℕ) → 0 < round → ((w : ℕ) → IsFalse (marked (map (λ stamp. stamp == round) stamps) w)) → IsFalse (marked (map (λ stamp. stamp == round) (stamps ++ replicate n 0)) v)
grown_clear round [] n v first h = zeros round n v first
grown_clear round (x ∷ stamps) n zero first h = h 0
grown_clear round (x ∷ stamps) n (suc v) first h = grown_clear round stamps n v first (λ w. h (suc w))

take_clear : (round : ℕ) (stamps : List ℕ) (n v : ℕ) → ((w : ℕ) → IsFalse (marked (map (λ stamp. stamp == round) stamps) w)) → IsFalse (marked (map (λ stamp. stamp == round) (take n stamps)) v)
take_clear round stamps zero v h = refl
take_clear round [] (suc n) v h = refl
take_clear round (x ∷ stamps) (suc n) zero h = h 0
take_clear round (x ∷ stamps) (suc n) (suc v) h = take_clear round stamps n v (λ w. h (suc w))

pub resized_clear : (round : ℕ) (stamps : List ℕ) (places : ℕ) → 0 < round → ((w : ℕ) → IsFalse (marked (map (λ stamp. stamp == round) stamps) w)) → (v : ℕ) → IsFalse (marked (map (λ stamp. stamp == round) (grown (take places stamps) places 0)) v)
resized_clear round stamps places first h v = grown_clear round (take places stamps) _ v first (λ w. take_clear round stamps places w h)

pub stamped : (round v : ℕ) (stamps : List ℕ) → map (λ stamp. stamp == round) (slice_set stamps v round) ≡ slice_set (map (λ stamp. stamp == round) stamps) v true
stamped round v stamps = map-set (λ stamp. stamp == round) stamps v round ∙ ap (slice_set (map (λ stamp. stamp == round) stamps) v) (eq-eqb round round refl)

-- ---- lists

pub lists_within : (marks : List Bool) (lists : List (Vec Wait)) (v : ℕ) → v < length (lists_in marks lists) → (v < length marks) × (v < length lists)
lists_within [] lists v h = absurd (omega arith)
lists_within (on ∷ marks) [] v h = absurd (omega arith)
lists_within (on ∷ marks) (list ∷ lists) zero h = (omega arith, omega arith)
lists_within (on ∷ marks) (list ∷ lists) (suc v) h = let r = lists_within marks lists v (omega arith) in let a = r.0 in let b = r.1 in (omega arith, omega arith)

pub lists_inside : (marks : List Bool) (lists : List (Vec Wait)) (v : ℕ) → v < length marks → v < length lists → v < length (lists_in marks lists)
lists_inside [] lists v h k = absurd (omega arith)
lists_inside (on ∷ marks) [] v h k = absurd (omega arith)
lists_inside (on ∷ marks) (list ∷ lists) zero h k = omega arith
lists_inside (on ∷ marks) (list ∷ lists) (suc v) h k = let r = lists_inside marks lists v (omega arith) (omega arith) in omega arith

pub lists_length : (marks : List Bool) (lists : List (Vec Wait)) → length marks ≡ length lists → length (lists_in marks lists) ≡ length lists
lists_length [] [] h = refl
lists_length [] (list ∷ lists) h = absurd (omega arith)
lists_length (on ∷ marks) [] h = absurd (omega arith)
lists_length (on ∷ marks) (list ∷ lists) h = ap suc (lists_length marks lists (omega arith))

-- nothing waits where no list is begun
pub lists_clear : (marks : List Bool) (lists : List (Vec Wait)) → ((v : ℕ) → IsFalse (marked marks v)) → (v : ℕ) → waits (lists_in marks lists) v ≡ []
lists_clear [] lists h v = refl
lists_clear (on ∷ marks) [] h v = refl
lists_clear (on ∷ marks) (list ∷ lists) h zero = ap (λ b. if b then list.items else []) (h 0)
lists_clear (on ∷ marks) (list ∷ lists) h (suc v) = lists_clear marks lists (λ w. h (suc w)) v

-- what waits for a variable whose list is begun, and for one whose list is not
pub list_begun : (marks : List Bool) (lists : List (Vec Wait)) (v : ℕ) (d : Vec Wait) → v < length lists → IsTrue (marked marks v) → waits (lists_in marks lists) v ≡ (get_or lists v d).items
list_begun [] lists v d lt on = cc
list_begun (m ∷ marks) [] v d lt on = absurd (omega arith)
list_begun (m ∷ marks) (list ∷ lists) zero d lt on = ap (λ b. if b then list.items else []) on
list_begun (m ∷ marks) (list ∷ lists) (suc v) d lt on = list_begun marks lists v d (omega arith) on

pub list_not_begun : (marks : List Bool) (lists : List (Vec Wait)) (v : ℕ) → IsFalse (marked marks v) → waits (lists_in marks lists) v ≡ []
list_not_begun [] lists v off = refl
list_not_begun (m ∷ marks) [] v off = refl
list_not_begun (m ∷ marks) (list ∷ lists) zero off = ap (λ b. if b then list.items else []) off
list_not_begun (m ∷ marks) (list ∷ lists) (suc v) off = list_not_begun marks lists v off

pub list_beyond : (marks : List Bool) (lists : List (Vec Wait)) (v : ℕ) → length lists ≤ v → waits (lists_in marks lists) v ≡ []
list_beyond [] lists v h = refl
list_beyond (m ∷ marks) [] v h = refl
list_beyond (m ∷ marks) (list ∷ lists) zero h = absurd (omega arith)
list_beyond (m ∷ marks) (list ∷ lists) (suc v) h = list_beyond marks lists v (omega arith)

-- a list that is begun without entries
pub begun_empty : (marks : List Bool) (lists : List (Vec Wait)) (v : ℕ) (list : Vec Wait) → list.items ≡ [] → IsFalse (marked marks v) → v < length marks → lists_in (slice_set marks v true) (slice_set lists v list) ≡ lists_in marks lists
begun_empty [] lists v list none off lt = absurd (omega arith)
begun_empty (m ∷ marks) [] v list none off lt = empty (slice_set (m ∷ marks) v true)
  where
    empty : (ms : List Bool) → lists_in ms [] ≡ []
    empty [] = refl
    empty (x ∷ ms) = refl
begun_empty (m ∷ marks) (l ∷ lists) zero list none off lt = ap (λ xs. xs ∷ lists_in marks lists) (none ∙ sym (ap (λ b. if b then l.items else []) off))
begun_empty (m ∷ marks) (l ∷ lists) (suc v) list none off lt = ap (λ rest. (if m then l.items else []) ∷ rest) (begun_empty marks lists v list none off (omega arith))

-- a list that is begun, with other entries
pub begun_set : (marks : List Bool) (lists : List (Vec Wait)) (v : ℕ) (list : Vec Wait) → IsTrue (marked marks v) → lists_in marks (slice_set lists v list) ≡ slice_set (lists_in marks lists) v list.items
begun_set [] lists v list on = cc
begun_set (m ∷ marks) [] v list on = refl
begun_set (m ∷ marks) (l ∷ lists) zero list on = ap (λ b. (if b then list.items else []) ∷ lists_in marks lists) on
begun_set (m ∷ marks) (l ∷ lists) (suc v) list on = ap (λ rest. (if m then l.items else []) ∷ rest) (begun_set marks lists v list on)

pub Appends-from : (old new : List (List Wait)) (v : ℕ) (e : Wait) → v < length old → new ≡ slice_set old v (waits old v ++ e ∷ []) → Appends old new v e
Appends-from old new v e lt is = subst (λ xs. Appends old xs v e) (sym is) (record {
  size = length-set old v (waits old v ++ e ∷ []);
  here = get_or-set_same old v (waits old v ++ e ∷ []) [] lt;
  others = λ x ne. get_or-set_other old v x (waits old v ++ e ∷ []) [] ne;
})

pub Takes-from : (old new : List (List Wait)) (v : ℕ) (list : List Wait) → v < length old → list ≡ waits old v → new ≡ slice_set old v [] → Takes old new v list
Takes-from old new v list lt taken is = subst (λ xs. Takes old xs v list) (sym is) (record {
  size = length-set old v [];
  taken = taken;
  here = get_or-set_same old v [] [] lt;
  others = λ x ne. get_or-set_other old v x [] [] ne;
})

pub Takes-nothing : (old : List (List Wait)) (v : ℕ) (list : List Wait) → list ≡ [] → waits old v ≡ [] → Takes old old v list
Takes-nothing old v list none nothing = record { size = refl; taken = none ∙ sym nothing; here = nothing; others = λ x ne. refl }
