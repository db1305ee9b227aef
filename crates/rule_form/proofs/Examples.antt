-- Odd cases of the definitions, worked out.
use Rattle.std.proofs.Common.{◌≡◌, ℕ, zero, suc, List, [], ◌∷◌, Contains, IsTrue, refl, sym, subst, ap, ◌∙◌, inl, inr, ⊎_elim, Some, arith}
use Rattle.std.specs.Prelude.{◌↔◌, ◌⊎◌, ℤ, pos, negsuc, ◌≤ℤ◌, codes}
use Rattle.std.proofs.lemmas.Int.{ints}
use Rattle.std.proofs.lemmas.List.Elements.{All-from_recursion}
use Rattle.ap_syntax.specs.declared.rules.Function.TheVariants.{Count}
use Rattle.ap_syntax.specs.declared.terms.Rel.{Rel}
use Rattle.ap_syntax.specs.declared.terms.Rel.TheVariants.{Lt}
use Rattle.ap_term.specs.Arithmetic.{compute}
use Rattle.ap_term.specs.declared.arithmetic.ArithOp.TheVariants.{Add, Div}
use Rattle.ap_term.specs.Value.{Value, integer, constant, string, compound, Values, none, also}
use Rattle.rule_form.specs.Instances.{right_holds}
use Rattle.rule_form.specs.Trees.{Term, Anything, Fixed, Operation, Interval, nothing, more, Atom, Pos, Not, Compare, Element}
use Rattle.rule_form.specs.Truth.{AtomSet, In, Out, Holds, HoldsForAll, IsAggregateNumber, IsCounted}
use Rattle.rule_form.specs.Values.{Substitution, IsValue, AreValues, IsAtom}
use Rattle.rule_form.proofs.Plain.{none_some}
use Rattle.rule_form.proofs.Lists.{apart_back}
use Rattle.rule_form.proofs.Unfolds.{here, first_or_rest, nothing_in}

-- ---- terms without a value

abbrev number : ℤ → Term
number n = Fixed (integer n)

-- 1/0
abbrev quotient : Term
quotient = Operation Div (number (pos 1)) (number (pos 0))

integer_of : Value → ℤ
integer_of (integer n) = n
integer_of (constant name) = pos 0
integer_of (string bytes) = pos 0
integer_of (compound name vs) = pos 0

same_integer : (m n : ℤ) → integer m ≡ integer n → m ≡ n
unfolding integer_of
same_integer m n e = ap integer_of e

-- 1/0 has no value
pub no_quotient : (s : Substitution) (v : Value) → IsValue s quotient v → ⊥
no_quotient s v (i, j, k, l, r, e, f) =
    none_some k (subst (λ n. compute Div (pos 1) n ≡ Some k) (same_integer j (pos 0) r) (subst (λ n. compute Div n j ≡ Some k) (same_integer i (pos 1) l) e))

-- nor has a sum that is out of range
pub no_sum : (s : Substitution) (v : Value) → IsValue s (Operation Add (number (pos 2147483647)) (number (pos 1))) v → ⊥
no_sum s v (i, j, k, l, r, e, f) =
    none_some k (subst (λ n. compute Add (pos 2147483647) n ≡ Some k) (same_integer j (pos 1) r) (subst (λ n. compute Add n j ≡ Some k) (same_integer i (pos 2147483647) l) e))

-- a comparison with it holds in no instance, whatever the relation
pub no_comparison : (has lacks : Value → Type 0) (s : Substitution) (rel : Rel) → Holds has lacks s (Compare quotient rel (number (pos 1))) → ⊥
no_comparison has lacks s rel (v, w, is, is_w, t) = no_quotient s v is

-- d(1/0)
abbrev over_quotient : Atom
over_quotient = record { name = codes "d"; terms = more quotient nothing }

no_atom : (s : Substitution) (a : Value) → IsAtom s over_quotient a → ⊥
no_atom s a (vs, (w, ws, is, are, e), f) = no_quotient s w is

-- in a body, d(1/0) and its negation hold in no instance
pub not_in_body : (has lacks : Value → Type 0) (s : Substitution) → (Holds has lacks s (Pos over_quotient) → ⊥) × (Holds has lacks s (Not over_quotient) → ⊥)
not_in_body has lacks s = (λ (a, is, h). no_atom s a is, λ (a, is, h). no_atom s a is)

-- as the literal of a conditional literal it holds in each instance of the condition
pub in_conditional : (has lacks : Value → Type 0) (s : Substitution) → HoldsForAll has lacks s (Pos over_quotient)
in_conditional has lacks s a is = absurd (no_atom s a is)

-- ---- intervals

-- 1..2
abbrev interval : Term
interval = Interval (number (pos 1)) (number (pos 2))

-- the ends belong to it, and there is no other value
pub interval_values : (s : Substitution) (v : Value) → IsValue s interval v ↔ ((v ≡ integer (pos 1)) ⊎ (v ≡ integer (pos 2)))
interval_values s v = (
  λ (i, j, k, l, r, low, high, e).
      let from : i ≡ pos 1 = same_integer i (pos 1) l in
      let upto : j ≡ pos 2 = same_integer j (pos 2) r in
      ⊎_elim (λ q. inl (e ∙ ap integer q)) (λ q. inr (e ∙ ap integer q)) (one_or_two k (subst (λ n. n ≤ℤ k) from low) (subst (λ n. k ≤ℤ n) upto high)),
  ⊎_elim (λ e. (pos 1, pos 2, pos 1, refl, refl, omega (arith, ints), omega (arith, ints), e)) (λ e. (pos 1, pos 2, pos 2, refl, refl, omega (arith, ints), omega (arith, ints), e)),
)
  where
    one_or_two : (k : ℤ) → pos 1 ≤ℤ k → k ≤ℤ pos 2 → (k ≡ pos 1) ⊎ (k ≡ pos 2)
    one_or_two (pos zero) low high = let none : ⊥ = omega (arith, ints, low) in absurd none
    one_or_two (pos (suc zero)) low high = inl refl
    one_or_two (pos (suc (suc zero))) low high = inr refl
    one_or_two (pos (suc (suc (suc k)))) low high = let none : ⊥ = omega (arith, ints, high) in absurd none
    one_or_two (negsuc k) low high = let none : ⊥ = omega (arith, ints, low) in absurd none

-- `_` has each value at each of its places
pub anything : (s : Substitution) (v w : Value) → AreValues s (more Anything (more Anything nothing)) (also v (also w none))
anything s v w = (v, also w none, tt, (w, none, tt, refl, refl), refl)

-- ---- guards and tuples

-- each number is below a guard that is a string
pub below_string : (bytes : List ℕ) (n : ℤ) → IsTrue (right_holds (Some (record { rel = Lt; term = Fixed (string bytes) })) (Some (string bytes)) n)
below_string bytes n = refl

-- a and b
abbrev atom_of : List ℕ → Atom
atom_of name = record { name = name; terms = nothing }

is_constant : (x : AtomSet) (s : Substitution) (name : List ℕ) → IsTrue (x (constant name)) → Holds (In x) (Out x) s (Pos (atom_of name))
is_constant x s name e = (constant name, (none, refl, refl), e)

-- `1 : a`
abbrev one_if : List ℕ → Element
one_if name = record { terms = more (number (pos 1)) nothing; condition = Pos (atom_of name) ∷ [] }

-- #count{1 : a; 1 : b} is 1 where both hold: two elements give one tuple
pub counted_once : (x : AtomSet) (s : Substitution) → IsTrue (x (constant (codes "a"))) → IsAggregateNumber [] (In x) (Out x) s Count (one_if (codes "a") ∷ one_if (codes "b") ∷ []) (pos 1)
counted_once x s has_a = record {
  tuples = tuple ∷ [];
  distinct = apart_back (tuple ∷ []) (λ m. nothing_in tuple m, tt);
  counts = λ t. (
    λ m. ⊎_elim (λ e. subst (IsCounted [] (In x) (Out x) s elements) e counted) (λ r. absurd (nothing_in t r)) (first_or_rest tuple [] t m),
    λ (e, u, among, agrees, are, holds). ⊎_elim (λ q. subst (Contains (tuple ∷ [])) (same_tuple u t (subst (λ f. AreValues u f.terms t) (sym q) are)) (here tuple [])) (λ r. ⊎_elim
        (λ q. subst (Contains (tuple ∷ [])) (same_tuple u t (subst (λ f. AreValues u f.terms t) (sym q) are)) (here tuple [])) (λ r. absurd (nothing_in e r)) (first_or_rest (one_if (codes "b")) [] e r))
        (first_or_rest (one_if (codes "a")) (one_if (codes "b") ∷ []) e among),
  );
  number = refl;
}
  where
    tuple : Values
    tuple = also (integer (pos 1)) none

    elements : List Element
    elements = one_if (codes "a") ∷ one_if (codes "b") ∷ []

    same_tuple : (u : Substitution) (t : Values) → AreValues u (more (number (pos 1)) nothing) t → tuple ≡ t
    same_tuple u t (w, ws, is, e, f) = sym (f ∙ (ap (λ v. also v ws) is ∙ ap (λ vs. also (integer (pos 1)) vs) e))

    counted : IsCounted [] (In x) (Out x) s elements tuple
    counted = (
      one_if (codes "a"),
      s,
      here (one_if (codes "a")) (one_if (codes "b") ∷ []),
      All-from_recursion (λ name. s name ≡ s name) [] tt,
      (integer (pos 1), none, refl, refl, refl),
      All-from_recursion (Holds (In x) (Out x) s) (Pos (atom_of (codes "a")) ∷ []) (is_constant x s (codes "a") has_a, tt),
    )
