-- Lists with each member once, and parts of values.
use Rattle.std.proofs.Common.{◌≡◌, ℤ, pos, List, [], ◌∷◌, Bool, true, false, IsTrue, refl, sym, subst, ap, ◌∙◌, ⊎_elim, inl, inr, Contains, if◌then◌else◌}
use Rattle.std.specs.Prelude.{◌⊎◌}
use Rattle.std.specs.List.{list_any}
use Rattle.std.proofs.lemmas.Bool.{false≢true}
use Rattle.std.proofs.lemmas.List.Folds.{list_any_at}
use Rattle.std.proofs.lemmas.Map.Views.{Contains-from_any}
use Rattle.ap_term.specs.Value.{Value, Values, integer, constant, string, compound, none, also}
use Rattle.rule_form.proofs.Decided.{decide_true}
use Rattle.rule_form.proofs.Rules.{same, same_decides, same_itself}
use Rattle.rule_form.proofs.Totals.{Apart}
use Rattle.rule_form.proofs.Unfolds.{here, there, first_or_rest}
use Rattle.element_form.specs.Satisfied.{distinct}

-- ---- parts of values

abbrev pub arguments_of : Value → Values
arguments_of (integer n) = none
arguments_of (constant n) = none
arguments_of (string n) = none
arguments_of (compound n vs) = vs

abbrev pub first_of : Values → Value
first_of none = integer (pos 0)
first_of (also v vs) = v

abbrev pub rest_of : Values → Values
rest_of none = none
rest_of (also v vs) = vs

abbrev pub number_of : Value → ℤ
number_of (integer n) = n
number_of (constant n) = pos 0
number_of (string n) = pos 0
number_of (compound n vs) = pos 0

pub same_values : (a b : Values) → (a ≡ b) ⊎ (a ≡ b → ⊥)
same_values a b = ⊎_elim
    (λ e. inl (ap arguments_of (same_decides (compound [] a) (compound [] b) e)))
    (λ n. inr (λ s. n (subst (λ c. IsTrue (same (compound [] a) (compound [] c))) s (same_itself (compound [] a)))))
    (decide_true (same (compound [] a) (compound [] b)))

-- ---- each once

module _ {X : Type 0} (test : X → X → Bool) (decides : (x y : X) → IsTrue (test x y) → x ≡ y) (itself : (x : X) → IsTrue (test x x)) where
  any_there : (p : X) (ps : List X) → Contains ps p → IsTrue (list_any (test p) ps)
  any_there p ps (k, lt, e) = list_any_at (test p) ps k p lt (subst (λ q. IsTrue (test p q)) (sym e) (itself p))

  in_if : (b : Bool) (p : X) (ps qs : List X) (t : X) → ((u : X) → Contains qs u → Contains ps u) → Contains (if b then qs else p ∷ qs) t → Contains (p ∷ ps) t
  in_if true p ps qs t sub c = there p ps t (sub t c)
  in_if false p ps qs t sub c = ⊎_elim (λ e. subst (Contains (p ∷ ps)) e (here p ps)) (λ r. there p ps t (sub t r)) (first_or_rest p qs t c)

  pub in_distinct : (ps : List X) (t : X) → Contains (distinct test ps) t → Contains ps t
  in_distinct [] t c = c
  in_distinct (p ∷ ps) t c = in_if (list_any (test p) ps) p ps (distinct test ps) t (in_distinct ps) c

  to_if : (b : Bool) (p : X) (ps qs : List X) (t : X) → (IsTrue b → Contains ps p) → ((u : X) → Contains ps u → Contains qs u) → Contains (p ∷ ps) t → Contains (if b then qs else p ∷ qs) t
  to_if true p ps qs t h sub c = ⊎_elim (λ e. subst (Contains qs) e (sub p (h refl))) (sub t) (first_or_rest p ps t c)
  to_if false p ps qs t h sub c = ⊎_elim (λ e. subst (Contains (p ∷ qs)) e (here p qs)) (λ r. there p qs t (sub t r)) (first_or_rest p ps t c)

  pub to_distinct : (ps : List X) (t : X) → Contains ps t → Contains (distinct test ps) t
  to_distinct [] t c = c
  to_distinct (p ∷ ps) t c = to_if (list_any (test p) ps) p ps (distinct test ps) t (Contains-from_any decides p ps) (to_distinct ps) c

  apart_if : (b : Bool) (p : X) (ps qs : List X) → b ≡ list_any (test p) ps → ((u : X) → Contains qs u → Contains ps u) → Apart qs → Apart (if b then qs else p ∷ qs)
  apart_if true p ps qs e sub h = h
  apart_if false p ps qs e sub h = (λ c. false≢true (e ∙ any_there p ps (sub p c)), h)

  pub apart_distinct : (ps : List X) → Apart (distinct test ps)
  apart_distinct [] = tt
  apart_distinct (p ∷ ps) = apart_if (list_any (test p) ps) p ps (distinct test ps) refl (in_distinct ps) (apart_distinct ps)
