-- Numbers of states: each set has one state.
use Rattle.std.proofs.Common.{◌≡◌, ◌≢◌, ℕ, zero, suc, ◌+◌, ◌*◌, ◌/◌, ◌%◌, ◌<◌, ◌^◌, pos, negsuc, Bool, true, false, List, [], ◌∷◌, map, length, Contains, IsTrue, IsFalse, refl, sym, subst, ap, ap₂, ◌∙◌, ⊎_elim, arith, if◌then◌else◌}
use Rattle.std.specs.Prelude.{◌==◌, flat_map, nat_lt}
use Rattle.std.proofs.Math.Nat.{pow-suc}
use Rattle.std.proofs.lemmas.Bool.{false≢true}
use Rattle.std.proofs.lemmas.Bool.Decides.{nat_tests}
use Rattle.std.proofs.lemmas.List.Folds.{list_any_at}
use Rattle.std.proofs.lemmas.Map.Views.{Contains-from_any}
use Rattle.ap_term.specs.Value.{Value, integer, constant, string, compound}
use Rattle.rule_form.proofs.Rules.{same_decides, same_itself}
use Rattle.rule_form.proofs.Totals.{Apart}
use Rattle.rule_form.proofs.Unfolds.{here, there, first_or_rest, nothing_in}
use Rattle.element_form.specs.Ground.{Statement}
use Rattle.element_form.specs.States.{element_atoms, IsStateOf, net_atoms, number_of, digits, at_place, is_net_of, is_state_of, has_bit_of, is_net, has_bit, state_of}
use Rattle.element_form.specs.Satisfied.{same_value}
use Rattle.element_form.proofs.InOrder.{apart_in_order}

low_digit : (b : Bool) (n : ℕ) → ((if b then 1 else 0) + 2 * n) % 2 == 1 ≡ b
low_digit true n = let e : (1 + 2 * n) % 2 ≡ 1 = omega arith in grind (arith, nat_tests)
low_digit false n = let e : (0 + 2 * n) % 2 ≡ 0 = omega arith in grind (arith, nat_tests)

high_digits : (b : Bool) (n : ℕ) → ((if b then 1 else 0) + 2 * n) / 2 ≡ n
high_digits true n = omega arith
high_digits false n = omega arith

-- a number has the digits that it is made of, and is made of its digits
digits_of : (bs : List Bool) → digits (length bs) (number_of bs) ≡ bs
digits_of [] = refl
digits_of (b ∷ bs) = ap₂ (λ c cs. c ∷ cs) (low_digit b (number_of bs)) (ap (digits (length bs)) (high_digits b (number_of bs)) ∙ digits_of bs)

by_digit : (b : Bool) (u : ℕ) → (u % 2 == 1) ≡ b → (if b then 1 else 0) + 2 * (u / 2) ≡ u
by_digit true u e = let h : u % 2 ≡ 1 = grind (arith, nat_tests) in omega arith
by_digit false u e = let h : u % 2 ≢ 1 = grind (arith, nat_tests) in omega arith

number_back : (n u : ℕ) → u < 2 ^ n → number_of (digits n u) ≡ u
number_back zero u lt = omega arith
number_back (suc n) u lt =
    let p : 2 ^ suc n ≡ 2 ^ n * 2 = pow-suc 2 n in
    let half : u / 2 < 2 ^ n = omega (arith, p, lt) in
    let ih : number_of (digits n (u / 2)) ≡ u / 2 = number_back n (u / 2) half in
    ap (λ k. (if u % 2 == 1 then 1 else 0) + 2 * k) ih ∙ by_digit (u % 2 == 1) u refl

low_one : (b : Bool) (n m p : ℕ) → p ≡ m * 2 → n < m → (if b then 1 else 0) + 2 * n < p
low_one true n m p e h = omega arith
low_one false n m p e h = omega arith

number_low : (bs : List Bool) → number_of bs < 2 ^ length bs
number_low [] = omega arith
number_low (b ∷ bs) = let ih : number_of bs < 2 ^ length bs = number_low bs in let p : 2 ^ suc (length bs) ≡ 2 ^ length bs * 2 = pow-suc 2 (length bs) in low_one b (number_of bs) (2 ^ length bs) (2 ^ suc (length bs)) p ih

below_from : (m n : ℕ) → IsTrue (nat_lt m n) → m < n
below_from m n e = grind (arith, nat_tests)

below_to : (m n : ℕ) → m < n → IsTrue (nat_lt m n)
below_to m n h = grind (arith, nat_tests)

digits_length : (n u : ℕ) → length (digits n u) ≡ n
digits_length zero u = refl
digits_length (suc n) u = ap suc (digits_length n (u / 2))

map_length : (sat : Value → Bool) (net : List Value) → length (map sat net) ≡ length net
map_length sat [] = refl
map_length sat (v ∷ net) = ap suc (map_length sat net)

-- ---- what stands at the place of an atom

if_same : (t : Bool) (b c d : Bool) → (IsTrue t → b ≡ d) → (IsFalse t → c ≡ d) → (if t then b else c) ≡ d
if_same true b c d f g = f refl
if_same false b c d f g = g refl

at_map : (sat : Value → Bool) (net : List Value) (a : Value) → Contains net a → at_place net (map sat net) a ≡ sat a
at_map sat [] a c = absurd (nothing_in a c)
at_map sat (v ∷ net) a c = if_same (same_value v a) (sat v) (at_place net (map sat net) a) (sat a)
    (λ e. ap sat (same_decides v a e))
    (λ e. ⊎_elim (λ s. absurd (false≢true (sym e ∙ subst (λ w. IsTrue (same_value v w)) s (same_itself v)))) (at_map sat net a) (first_or_rest v net a c))

when_same : (t b c : Bool) → IsTrue t → (if t then b else c) ≡ b
when_same true b c e = refl
when_same false b c e = absurd (false≢true e)

when_other : (t b c : Bool) → (IsTrue t → ⊥) → (if t then b else c) ≡ c
when_other true b c n = absurd (n refl)
when_other false b c n = refl

from_places : (sat : Value → Bool) (net : List Value) (bs : List Bool) → Apart net → length bs ≡ length net → ((a : Value) → Contains net a → at_place net bs a ≡ sat a) → bs ≡ map sat net
from_places sat [] [] p e h = refl
from_places sat [] (b ∷ bs) p e h = let n : ⊥ = omega (arith, e) in absurd n
from_places sat (v ∷ net) [] p e h = let n : ⊥ = omega (arith, e) in absurd n
from_places sat (v ∷ net) (b ∷ bs) p e h = ap₂ (λ c cs. c ∷ cs)
    (sym (when_same (same_value v v) b (at_place net bs v) (same_itself v)) ∙ h v (here v net))
    (from_places sat net bs p.1 (omega (arith, e)) (λ a c. sym (when_other (same_value v a) b (at_place net bs a) (λ s. p.0 (subst (Contains net) (sym (same_decides v a s)) c))) ∙ h a (there v net a c)))

by_place : (v : Value) (net : List Value) (a : Value) (b c t : Bool) → same_value v a ≡ t → (IsTrue c → Contains net a) → IsTrue (if t then b else c) → Contains (v ∷ net) a
by_place v net a b c true s f h = subst (Contains (v ∷ net)) (same_decides v a s) (here v net)
by_place v net a b c false s f h = there v net a (f h)

place_in : (net : List Value) (bs : List Bool) (a : Value) → IsTrue (at_place net bs a) → Contains net a
place_in [] bs a e = absurd (false≢true e)
place_in (v ∷ net) [] a e = absurd (false≢true e)
place_in (v ∷ net) (b ∷ bs) a e = by_place v net a b (at_place net bs a) (same_value v a) refl (place_in net bs a) e

net_in : (net : List Value) (a : Value) → IsTrue (is_net_of net a) → Contains net a
net_in net a e = let c = Contains-from_any (λ v w s. same_decides v w s) a net e in c

in_net : (net : List Value) (a : Value) → Contains net a → IsTrue (is_net_of net a)
in_net net a (k, lt, e) = list_any_at (same_value a) net k a lt (subst (λ v. IsTrue (same_value a v)) (sym e) (same_itself a))

-- ---- the law

state_at : (net : List Value) (u : Value) → IsTrue (is_state_of net u) → (k : ℕ) × (u ≡ integer (pos k)) × (k < 2 ^ length net)
state_at net (integer (pos k)) e = (k, refl, below_from k (2 ^ length net) e)
state_at net (integer (negsuc k)) e = absurd (false≢true e)
state_at net (constant n) e = absurd (false≢true e)
state_at net (string n) e = absurd (false≢true e)
state_at net (compound n vs) e = absurd (false≢true e)

bit_in : (net : List Value) (u a : Value) → IsTrue (has_bit_of net u a) → Contains net a
bit_in net (integer (pos k)) a e = place_in net (digits (length net) k) a e
bit_in net (integer (negsuc k)) a e = absurd (false≢true e)
bit_in net (constant n) a e = absurd (false≢true e)
bit_in net (string n) a e = absurd (false≢true e)
bit_in net (compound n vs) a e = absurd (false≢true e)

-- ---- of a statement

module _ (st : Statement) where
  distinct : Apart (net_atoms st)
  distinct = apart_in_order (flat_map element_atoms st.elements)

  -- what a state has is a net atom
  pub bit_is_net : (u a : Value) → IsTrue (has_bit st u a) → IsTrue (is_net st a)
  bit_is_net u a e = in_net (net_atoms st) a (bit_in (net_atoms st) u a e)

  -- each set has a state
  pub state_there : (sat : Value → Bool) → IsStateOf st sat (state_of st sat)
  state_there sat = let net : List Value = net_atoms st in (
    below_to (number_of (map sat net)) (2 ^ length net) (subst (λ n. number_of (map sat net) < 2 ^ n) (map_length sat net) (number_low (map sat net))),
    λ a e. ap (λ bs. at_place net bs a) (ap (λ n. digits n (number_of (map sat net))) (sym (map_length sat net)) ∙ digits_of (map sat net)) ∙ at_map sat net a (net_in net a e),
  )

  -- and only one
  pub state_one : (sat : Value → Bool) (u : Value) → IsStateOf st sat u → u ≡ state_of st sat
  state_one sat u (is, same) =
      let net : List Value = net_atoms st in
      let (k, e, low) = state_at net u is in
      let bs : digits (length net) k ≡ map sat net = from_places sat net (digits (length net) k) distinct (digits_length (length net) k)
      (λ a c. subst (λ v. has_bit_of net v a ≡ sat a) e (same a (in_net net a c))) in
      e ∙ ap (λ n. integer (pos n)) (sym (number_back (length net) k low) ∙ ap number_of bs)
