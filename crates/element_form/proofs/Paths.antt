-- The paths of `cp`: one or more flips.
use Rattle.std.proofs.Common.{◌≡◌, ℕ, zero, suc, ◌<◌, ◌^◌, pos, negsuc, Bool, true, false, not, List, [], ◌∷◌, length, Contains, IsTrue, refl, sym, subst, ⊎_elim, inl, inr, arith}
use Rattle.std.specs.Prelude.{◌⊎◌, ◌↔◌, flat_map, ◌==◌}
use Rattle.std.proofs.lemmas.Bool.{false≢true}
use Rattle.std.proofs.lemmas.Bool.Decides.{nat_tests}
use Rattle.ap_term.specs.Value.{Value, integer, constant, string, compound, none, also}
use Rattle.element_form.specs.Closures.{IsAmong}
use Rattle.element_form.specs.Closures.Leads.{one, more}
use Rattle.element_form.specs.Flips.{put, IsSwitch, FlipsBy, Flips, IsPath}
use Rattle.element_form.specs.Formulas.{truth, atom_formula, neg_formula}
use Rattle.element_form.proofs.Testing.{decide_target, decide_bool, leads_test, leads_test_is}
use Rattle.rule_form.proofs.Decided.{IsDecided, decide_true, decide_same, decide_both, decide_either, decide_some, decide_as}
use Rattle.rule_form.proofs.Lists.{to_flat}
use Rattle.rule_form.proofs.Unfolds.{here, there}
use Rattle.element_form.specs.Degrees.{condition_true}
use Rattle.element_form.specs.Ground.{Statement, Ground, Ranked, Target, For, Name}
use Rattle.element_form.specs.States.{net_atoms, is_state_of, is_state, has_bit, state_of}
use Rattle.element_form.proofs.StateLaw.{state_there}

-- an atom that is switched stands in one of the ranks
abbrev argument_of : Value → List Value
argument_of (compound name (also a vs)) = a ∷ []
argument_of (compound name none) = []
argument_of (integer n) = []
argument_of (constant name) = []
argument_of (string bytes) = []

abbrev argument_in : Target → List Value
argument_in (For f) = argument_of f
argument_in (Name q) = []

abbrev arguments : List Ranked → List Value
arguments ranks = flat_map (λ (r : Ranked). argument_in r.target) ranks

switched : (ranks : List Ranked) (a : Value) (b : Bool) → IsSwitch ranks a b → Contains (arguments ranks) a
switched [] a b h = absurd h
switched (q ∷ []) a b h = absurd h
switched (q ∷ r ∷ []) a true (e, f) = to_flat (λ (s : Ranked). argument_in s.target) (q ∷ r ∷ []) q a (here q (r ∷ [])) (subst (λ t. Contains (argument_in t) a) (sym e) (here a []))
switched (q ∷ r ∷ []) a false (e, f) = to_flat (λ (s : Ranked). argument_in s.target) (q ∷ r ∷ []) r a (there q (r ∷ []) r (here r [])) (subst (λ t. Contains (argument_in t) a) (sym f) (here a []))
switched (q ∷ r ∷ s ∷ rs) a b h = absurd h

switch_decided : (ranks : List Ranked) (a : Value) (b : Bool) → IsDecided (IsSwitch ranks a b)
switch_decided [] a b = inr (λ h. h)
switch_decided (q ∷ []) a b = inr (λ h. h)
switch_decided (q ∷ r ∷ []) a true = decide_both _ _ (decide_target q.target (atom_formula a)) (decide_target r.target (neg_formula (atom_formula a)))
switch_decided (q ∷ r ∷ []) a false = decide_both _ _ (decide_target q.target (neg_formula (atom_formula a))) (decide_target r.target (atom_formula a))
switch_decided (q ∷ r ∷ s ∷ rs) a b = inr (λ h. h)

module _ (st : Statement) where
  by_decided : (e : Ground) (a : Value) (b : Bool) (u v : Value) → IsDecided (FlipsBy st e a b u v)
  by_decided e a b u v = decide_as _ _ (λ (s, (c, (o, t))). (s, c, o, t)) (λ (s, c, o, t). (s, (c, (o, t))))
      (decide_both _ _ (switch_decided e.ranks a b) (decide_both _ _ (decide_true (condition_true (truth (has_bit st u)) e.given))
      (decide_both _ _ (decide_bool (has_bit st u (atom_formula a)) (not b)) (decide_same v (state_of st (put (has_bit st u) (atom_formula a) b))))))

  pub flips_decided : (u v : Value) → IsDecided (Flips st u v)
  flips_decided u v = decide_as _ _
      (λ (s, (e, among, (a, c, h))). ⊎_elim (λ f. (e, a, true, among, s, f)) (λ f. (e, a, false, among, s, f)) h)
      (λ (e, a, b, among, s, f). (s, (e, among, (a, switched e.ranks a b f.0, which e a b u v f))))
      (decide_both _ _ (decide_true (is_state st u))
      (decide_some st.elements (λ (e : Ground). (a : Value) × Contains (arguments e.ranks) a × (FlipsBy st e a true u v ⊎ FlipsBy st e a false u v))
      (λ e. decide_some (arguments e.ranks) (λ a. FlipsBy st e a true u v ⊎ FlipsBy st e a false u v) (λ a. decide_either _ _ (by_decided e a true u v) (by_decided e a false u v)))))
    where
      which : (e : Ground) (a : Value) (b : Bool) (u v : Value) → FlipsBy st e a b u v → FlipsBy st e a true u v ⊎ FlipsBy st e a false u v
      which e a true u v f = inl f
      which e a false u v f = inr f

-- ---- states as numbers

abbrev pub numbers_below : ℕ → List Value
numbers_below zero = []
numbers_below (suc n) = integer (pos n) ∷ numbers_below n

in_numbers : (n k : ℕ) → k < n → Contains (numbers_below n) (integer (pos k))
in_numbers zero k lt = absurd (omega (arith, lt))
in_numbers (suc n) k lt = by (k == n) refl (λ low. in_numbers n k low)
  where
    by : (b : Bool) → (k == n) ≡ b → (k < n → Contains (numbers_below n) (integer (pos k))) → Contains (numbers_below (suc n)) (integer (pos k))
    by true e rest = let same : n ≡ k = grind (arith, nat_tests) in subst (λ m. Contains (numbers_below (suc n)) (integer (pos m))) same (here (integer (pos n)) (numbers_below n))
    by false e rest = let low : k < n = grind (arith, nat_tests) in there (integer (pos n)) (numbers_below n) (integer (pos k)) (rest low)

pub all_numbers : (net : List Value) (u : Value) → IsTrue (is_state_of net u) → Contains (numbers_below (2 ^ length net)) u
all_numbers net (integer (pos k)) e = let lt : k < 2 ^ length net = grind (arith, nat_tests) in in_numbers (2 ^ length net) k lt
all_numbers net (integer (negsuc k)) e = absurd (false≢true e)
all_numbers net (constant name) e = absurd (false≢true e)
all_numbers net (string bytes) e = absurd (false≢true e)
all_numbers net (compound name vs) e = absurd (false≢true e)

-- ---- the paths of a statement

module _ (st : Statement) where
  -- both ends of a flip are states
  flip_ends : (u v : Value) → Flips st u v → IsTrue (is_state st u) × IsTrue (is_state st v)
  flip_ends u v (e, a, b, among, s, f) = (s, subst (λ w. IsTrue (is_state st w)) (sym f.3) (state_there st (put (has_bit st u) (atom_formula a) b)).0)

  pub path_ends : (u v : Value) → IsPath st u v → IsTrue (is_state st u) × IsTrue (is_state st v)
  path_ends u v (one s) = flip_ends u v s
  path_ends u v (more {b = m} p s) = ((path_ends u m p).0, (flip_ends m v s).1)

  abbrev pub states : List Value
  states = numbers_below (2 ^ length (net_atoms st))

  pub flips_among : IsAmong states (Flips st)
  flips_among u v f = let (s, t) = flip_ends u v f in (all_numbers (net_atoms st) u s, all_numbers (net_atoms st) v t)

  abbrev pub path_test : Value → Value → Bool
  path_test = leads_test (Flips st) states flips_among (flips_decided st)

  pub path_test_is : (u v : Value) → IsTrue (path_test u v) ↔ IsPath st u v
  path_test_is = leads_test_is (Flips st) states flips_among (flips_decided st)

  pub path_decided : (u v : Value) → IsDecided (IsPath st u v)
  path_decided u v = decide_as _ _ (path_test_is u v).0 (path_test_is u v).1 (decide_true (path_test u v))
