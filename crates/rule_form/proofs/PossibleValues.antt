-- Bound variables have values in a list, so a rule whose variables are bound has finitely many instances over finitely many atoms.
use Rattle.std.proofs.Common.{◌≡◌, ◌+◌, ℕ, zero, suc, Bool, true, false, ◌||◌, List, [], ◌∷◌, ◌++◌, map, flat_map, Contains, IsTrue, refl, sym, subst, ap, ◌∙◌, ⊎_elim, arith}
use Rattle.std.specs.Prelude.{ℤ, pos, negsuc, ◌+ℤ◌, ◌≤ℤ◌, int_lt}
use Rattle.std.specs.Str.{bytes_eq}
use Rattle.std.proofs.lemmas.Bool.{false≢true}
use Rattle.std.proofs.lemmas.Int.{ints}
use Rattle.ap_syntax.specs.declared.terms.Rel.TheVariants.{Eq}
use Rattle.ap_term.specs.Arithmetic.{compute}
use Rattle.ap_term.specs.Order.{value_cmp}
use Rattle.ap_term.specs.Value.{Value, integer, constant, string, compound, Values, none, also}
use Rattle.rule_form.specs.Depths.{has_name, is_bound, are_bound}
use Rattle.rule_form.specs.PossibleValues.{integers, integers_from, magnitude, if_some, values_in, lists_in, Equation, IsEquation, AreEquations, names_after, grown, parts, parts_of}
use Rattle.rule_form.specs.Arguments.{arguments, arguments_of}
use Rattle.rule_form.proofs.Matching.{by_equal}
use Rattle.rule_form.specs.Trees.{Term, Variable, Anything, Fixed, Compound, Operation, Interval, Terms, nothing, more, Compare, Item, Plain}
use Rattle.rule_form.specs.Truth.{Holds}
use Rattle.rule_form.specs.Values.{Substitution, IsValue, AreValues}
use Rattle.rule_form.proofs.Lists.{to_map, to_flat, to_left, to_right, in_append}
use Rattle.rule_form.proofs.Unfolds.{here, there, first_or_rest, nothing_in, bytes_from}
use Rattle.rule_form.proofs.Plain.{left_true, right_true}

abbrev is_integer_ : Value → Type 0
is_integer_ (integer n) = Unit {0}
is_integer_ (constant c) = ⊥
is_integer_ (string c) = ⊥
is_integer_ (compound f vs) = ⊥

abbrev number : Value → ℤ
number (integer n) = n
number (constant c) = pos 0
number (string c) = pos 0
number (compound f vs) = pos 0

in_integers : (vs : List Value) (n : ℤ) → Contains vs (integer n) → Contains (integers vs) n
in_integers [] n m = absurd (nothing_in (integer n) m)
in_integers (integer k ∷ vs) n m = ⊎_elim (λ e. subst (Contains (k ∷ integers vs)) (ap number e) (here k (integers vs))) (λ r. there k (integers vs) n (in_integers vs n r)) (first_or_rest (integer k) vs (integer n) m)
in_integers (constant c ∷ vs) n m = ⊎_elim (λ e. absurd (subst is_integer_ (sym e) tt)) (λ r. in_integers vs n r) (first_or_rest (constant c) vs (integer n) m)
in_integers (string c ∷ vs) n m = ⊎_elim (λ e. absurd (subst is_integer_ (sym e) tt)) (λ r. in_integers vs n r) (first_or_rest (string c) vs (integer n) m)
in_integers (compound f ws ∷ vs) n m = ⊎_elim (λ e. absurd (subst is_integer_ (sym e) tt)) (λ r. in_integers vs n r) (first_or_rest (compound f ws) vs (integer n) m)

in_range : (n : ℕ) (i k : ℤ) → i ≤ℤ k → k ≤ℤ (i +ℤ pos n) → Contains (integers_from i n) k
in_range zero i k low high = let e : i ≡ k = omega (arith, ints, low, high) in subst (Contains (i ∷ [])) e (here i [])
in_range (suc n) i k low high = by (int_lt i k) refl (λ l h. in_range n (i +ℤ pos 1) k l h)
  where
    by : (t : Bool) → int_lt i k ≡ t → ((i +ℤ pos 1) ≤ℤ k → k ≤ℤ ((i +ℤ pos 1) +ℤ pos n) → Contains (integers_from (i +ℤ pos 1) n) k) → Contains (i ∷ integers_from (i +ℤ pos 1) n) k
    by true e ih = let l : (i +ℤ pos 1) ≤ℤ k = omega (arith, ints, e) in let h : k ≤ℤ ((i +ℤ pos 1) +ℤ pos n) = omega (arith, ints, high) in there i (integers_from (i +ℤ pos 1) n) k (ih l h)
    by false e ih = let q : i ≡ k = omega (arith, ints, e, low) in subst (Contains (i ∷ integers_from (i +ℤ pos 1) n)) q (here i (integers_from (i +ℤ pos 1) n))

far_enough : (i j : ℤ) → j ≤ℤ (i +ℤ pos (magnitude i + magnitude j + 2))
far_enough (pos m) (pos n) = omega (arith, ints)
far_enough (pos m) (negsuc n) = omega (arith, ints)
far_enough (negsuc m) (pos n) = omega (arith, ints)
far_enough (negsuc m) (negsuc n) = omega (arith, ints)

module _ (s : Substitution) (names : List (List ℕ)) (vs : List Value) (within : (name : List ℕ) → IsTrue (has_name names name) → Contains vs (s name)) where
  mutual
    pub value_in : (t : Term) (v : Value) → IsTrue (is_bound names t) → IsValue s t v → Contains (values_in vs t) v
    value_in (Variable name) v bound e = subst (Contains vs) (sym e) (within name bound)
    value_in Anything v bound e = absurd (false≢true bound)
    value_in (Fixed w) v bound e = subst (Contains (w ∷ [])) (sym e) (here w [])
    value_in (Compound name ps) v bound (ws, are, e) = subst (Contains (values_in vs (Compound name ps))) (sym e) (to_map (λ us. compound name us) (lists_in vs ps) ws (list_in ps ws bound are))
    value_in (Operation op left right) v bound (i, j, k, is_l, is_r, c, e) =
        let l = in_integers (values_in vs left) i (value_in left (integer i) (left_true (is_bound names left) (is_bound names right) bound) is_l) in
        let r = in_integers (values_in vs right) j (value_in right (integer j) (right_true (is_bound names left) (is_bound names right) bound) is_r) in
        subst (Contains (values_in vs (Operation op left right))) (sym e)
        (to_flat (λ m. flat_map (λ n. if_some (compute op m n)) (integers (values_in vs right))) (integers (values_in vs left)) i (integer k) l
        (to_flat (λ n. if_some (compute op i n)) (integers (values_in vs right)) j (integer k) r (subst (λ o. Contains (if_some o) (integer k)) (sym c) (here (integer k) []))))
    value_in (Interval low high) v bound (i, j, k, is_l, is_h, le, le', e) =
        let l = in_integers (values_in vs low) i (value_in low (integer i) (left_true (is_bound names low) (is_bound names high) bound) is_l) in
        let r = in_integers (values_in vs high) j (value_in high (integer j) (right_true (is_bound names low) (is_bound names high) bound) is_h) in
        let far = far_enough i j in
        let up : k ≤ℤ (i +ℤ pos (magnitude i + magnitude j + 2)) = omega (arith, ints, le', far) in
        subst (Contains (values_in vs (Interval low high))) (sym e)
        (to_flat (λ m. flat_map (λ n. map (λ q. integer q) (integers_from m (magnitude m + magnitude n + 2))) (integers (values_in vs high))) (integers (values_in vs low)) i (integer k) l
        (to_flat (λ n. map (λ q. integer q) (integers_from i (magnitude i + magnitude n + 2))) (integers (values_in vs high)) j (integer k) r
        (to_map (λ q. integer q) (integers_from i (magnitude i + magnitude j + 2)) k (in_range (magnitude i + magnitude j + 2) i k le up))))

    pub list_in : (ts : Terms) (ws : Values) → IsTrue (are_bound names ts) → AreValues s ts ws → Contains (lists_in vs ts) ws
    list_in nothing ws bound e = subst (Contains (none ∷ [])) (sym e) (here none [])
    list_in (more t ts) ws bound (w, us, is, are, e) = subst (Contains (lists_in vs (more t ts))) (sym e)
        (to_flat (λ v. map (λ xs. also v xs) (lists_in vs ts)) (values_in vs t) w (also w us) (value_in t w (left_true (is_bound names t) (are_bound names ts) bound) is)
        (to_map (λ xs. also w xs) (lists_in vs ts) us (list_in ts us (right_true (is_bound names t) (are_bound names ts) bound) are)))

-- ---- variables that get their values one after the other

wider : (vs : List Value) (steps : List Equation) (v : Value) → Contains vs v → Contains (grown vs steps) v
wider vs [] v m = m
wider vs (step ∷ steps) v m = wider (values_in vs step.from ++ vs) steps v (to_right (values_in vs step.from) vs v m)

or_cases : (p q : Bool) (R : Type 0) → (IsTrue p → R) → (IsTrue q → R) → IsTrue (p || q) → R
or_cases true q R f g h = f refl
or_cases false q R f g h = g h

module _ (s : Substitution) (body : List Item) (holds : (l r : Term) → Contains body (Plain (Compare l Eq r)) → Holds (λ b. Unit {0}) (λ b. Unit {0}) s (Compare l Eq r)) where
  step_in : (names : List (List ℕ)) (vs : List Value) → ((name : List ℕ) → IsTrue (has_name names name) → Contains vs (s name)) → (step : Equation) → IsEquation body step → IsTrue (is_bound names step.from) → Contains (values_in vs step.from) (s step.name)
  step_in names vs within step is bound = ⊎_elim
      (λ m. let (v, w, e, is_w, t) = holds (Variable step.name) step.from m in
      value_in s names vs within step.from (s step.name) bound (subst (IsValue s step.from) (sym (by_equal v w (value_cmp v w) refl t) ∙ e) is_w))
      (λ m. let (v, w, is_v, e, t) = holds step.from (Variable step.name) m in
      value_in s names vs within step.from (s step.name) bound (subst (IsValue s step.from) (by_equal v w (value_cmp v w) refl t ∙ e) is_v))
      is

  -- all variables that are bound have values in the list
  pub bound_in : (names : List (List ℕ)) (vs : List Value) → ((name : List ℕ) → IsTrue (has_name names name) → Contains vs (s name)) → (steps : List Equation) → AreEquations body names steps
      → (name : List ℕ) → IsTrue (has_name (names_after names steps) name) → Contains (grown vs steps) (s name)
  bound_in names vs within [] are name h = within name h
  bound_in names vs within (step ∷ steps) (is, bound, are) name h = bound_in (step.name ∷ names) (values_in vs step.from ++ vs) more_within steps are name h
    where
      more_within : (other : List ℕ) → IsTrue (has_name (step.name ∷ names) other) → Contains (values_in vs step.from ++ vs) (s other)
      more_within other q = or_cases (bytes_eq other step.name) (has_name names other) (Contains (values_in vs step.from ++ vs) (s other))
          (λ e. to_left (values_in vs step.from) vs (s other) (subst (λ n. Contains (values_in vs step.from) (s n)) (sym (bytes_from other step.name e)) (step_in names vs within step is bound)))
          (λ r. to_right (values_in vs step.from) vs (s other) (within other r)) q

-- ---- arguments of positive atoms have values among the parts of the atoms

itself : (v : Value) → Contains (parts v) v
itself (integer n) = here (integer n) []
itself (constant c) = here (constant c) []
itself (string c) = here (string c) []
itself (compound f vs) = here (compound f vs) (parts_of vs)

mutual
  pub argument_in : (s : Substitution) (t : Term) (v : Value) → IsValue s t v → (name : List ℕ) → Contains (arguments t) name → Contains (parts v) (s name)
  argument_in s (Variable other) v e name m = ⊎_elim (λ q. subst (λ n. Contains (parts v) (s n)) q (subst (Contains (parts v)) e (itself v))) (λ r. absurd (nothing_in name r)) (first_or_rest other [] name m)
  argument_in s Anything v e name m = absurd (nothing_in name m)
  argument_in s (Fixed w) v e name m = absurd (nothing_in name m)
  argument_in s (Compound f ps) v (ws, are, e) name m = subst (λ u. Contains (parts u) (s name)) (sym e) (there (compound f ws) (parts_of ws) (s name) (arguments_in s ps ws are name m))
  argument_in s (Operation op l r) v e name m = absurd (nothing_in name m)
  argument_in s (Interval l r) v e name m = absurd (nothing_in name m)

  pub arguments_in : (s : Substitution) (ts : Terms) (ws : Values) → AreValues s ts ws → (name : List ℕ) → Contains (arguments_of ts) name → Contains (parts_of ws) (s name)
  arguments_in s nothing ws e name m = absurd (nothing_in name m)
  arguments_in s (more t ts) ws (w, us, is, are, e) name m = subst (λ u. Contains (parts_of u) (s name)) (sym e) (⊎_elim
      (λ l. to_left (parts w) (parts_of us) (s name) (argument_in s t w is name l))
      (λ r. to_right (parts w) (parts_of us) (s name) (arguments_in s ts us are name r))
      (in_append (arguments t) (arguments_of ts) name m))
