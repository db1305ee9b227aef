-- Clauses that are false, and the values that they give to variables.
use Rattle.std.proofs.Common.{◌≡◌, ℕ, ◌==◌, Bool, true, false, not, cond, List, get_or, refl, sym, ap, ap₂, subst, ◌∙◌}
use Rattle.std.specs.Prelude.{Option, Some, None, Contains}
use Rattle.std.specs.Bool.{beq}
use Rattle.std.specs.Cmp.{IsEquivalence, and_equiv, on_equiv, nat_eq_equiv, bool_eq_equiv, booleans_Decides, first_so, second_so}
use Rattle.std.proofs.lemmas.Bool.{eqb-true}
use Rattle.std.proofs.lemmas.List.Folds.{list_any_at, list_any_none}
use Rattle.std.proofs.lemmas.List.Elements.{Contains-get_or}
use Rattle.std.proofs.lemmas.Map.Views.{Contains-from_any, list_any-from_Contains}
use Rattle.theory_form.specs.declared.literals.Lit.{Lit}
use Rattle.theory_form.specs.Literals.{opposite}
use Rattle.theory_form.specs.Order.{lit_eq}
use Rattle.theory_model.specs.Truth.{literal_true, clause_true}
use Rattle.agg_nogoods.specs.Implied.{IsConsistent}
use Rattle.agg_nogoods.specs.Known.{has, known_where_false}

-- every literal of the clause is false
abbrev pub AllFalse : (ℕ → Bool) → List Lit → Type 0
AllFalse f c = (l : Lit) → Contains c l → f l.var.0 ≡ not l.yes

-- the values are as they are known
abbrev pub Extends : (ℕ → Bool) → (ℕ → Option Bool) → Type 0
Extends f k = (v : ℕ) (b : Bool) → k v ≡ Some b → f v ≡ b

-- each literal is false by a known value
abbrev pub AllKnownFalse : (ℕ → Option Bool) → List Lit → Type 0
AllKnownFalse k c = (l : Lit) → Contains c l → k l.var.0 ≡ Some (not l.yes)

pub all_false_extends : (f : ℕ → Bool) (k : ℕ → Option Bool) (c : List Lit) → Extends f k → AllKnownFalse k c → AllFalse f c
all_false_extends f k c e h l i = e l.var.0 (not l.yes) (h l i)

other_value : (x y : Bool) → x ≡ not y → beq x y ≡ false
other_value true true h = absurd (cc)
other_value true false h = refl
other_value false true h = refl
other_value false false h = absurd (cc)

value_other : (x y : Bool) → beq x y ≡ false → x ≡ not y
value_other true true h = absurd (cc)
value_other true false h = refl
value_other false true h = refl
value_other false false h = absurd (cc)

pub clause_false : (f : ℕ → Bool) (c : List Lit) → AllFalse f c → clause_true f c ≡ false
clause_false f c h =
    list_any_none (literal_true f) c (λ k d low. other_value (f (get_or c k d).var.0) (get_or c k d).yes (h (get_or c k d) (Contains-get_or c k d low)))

pub false_clause : (f : ℕ → Bool) (c : List Lit) → clause_true f c ≡ false → AllFalse f c
false_clause f c none l (k, low, is) = by_case (literal_true f l) refl
  where
    by_case : (b : Bool) → literal_true f l ≡ b → f l.var.0 ≡ not l.yes
    by_case true e = absurd (let some : clause_true f c ≡ true = list_any_at (literal_true f) c k l low (ap (literal_true f) is ∙ e) in cc)
    by_case false e = value_other (f l.var.0) l.yes e

-- a clause that is not false is true
pub clause_true_from : (f : ℕ → Bool) (c : List Lit) → (AllFalse f c → ⊥) → clause_true f c ≡ true
clause_true_from f c h = by_case (clause_true f c) refl
  where
    by_case : (b : Bool) → clause_true f c ≡ b → clause_true f c ≡ true
    by_case true e = e
    by_case false e = absurd (h (false_clause f c e))

-- ---- membership

lit_equiv : IsEquivalence lit_eq
lit_equiv = and_equiv (on_equiv (λ (l : Lit). l.var.0) nat_eq_equiv) (on_equiv (λ (l : Lit). l.yes) bool_eq_equiv)

lit_eq-true : (x y : Lit) → lit_eq x y ≡ true → x ≡ y
lit_eq-true x y h =
    let v = eqb-true x.var.0 y.var.0 (first_so (x.var.0 == y.var.0) (beq x.yes y.yes) h) in
    let b = (booleans_Decides x.yes y.yes).0 (second_so (x.var.0 == y.var.0) (beq x.yes y.yes) h) in
    λ i. record { var = record { 0 = v i }; yes = b i }

pub has_it : (c : List Lit) (l : Lit) → Contains c l → has c l ≡ true
has_it c l i = list_any-from_Contains lit_equiv l c i

pub from_has : (c : List Lit) (l : Lit) → has c l ≡ true → Contains c l
from_has c l h = Contains-from_any lit_eq-true l c h

-- ---- the values that a false clause gives

-- what a clause makes known of the variable of a literal of its own
pub known_at : (c : List Lit) → IsConsistent c → (l : Lit) → Contains c l → known_where_false c l.var.0 ≡ Some (not l.yes)
known_at c apart l i = by_sign l.yes refl
  where
    by_sign : (b : Bool) → l.yes ≡ b → known_where_false c l.var.0 ≡ Some (not l.yes)
    by_sign true e =
        let here : has c (record { var = l.var; yes = true }) ≡ true = has_it c (record { var = l.var; yes = true }) (subst (λ y. Contains c (record { var = l.var; yes = y })) e i) in
        ap (λ h. cond h (Some false) (cond (has c (record { var = l.var; yes = false })) (Some true) None)) here ∙ ap (λ y. Some (not y)) (sym e)
    by_sign false e =
        let there : has c (record { var = l.var; yes = false }) ≡ true = has_it c (record { var = l.var; yes = false }) (subst (λ y. Contains c (record { var = l.var; yes = y })) e i) in
        absent (has c (record { var = l.var; yes = true })) refl there ∙ ap (λ y. Some (not y)) (sym e)
      where
        absent : (b : Bool) → has c (record { var = l.var; yes = true }) ≡ b → has c (record { var = l.var; yes = false }) ≡ true → known_where_false c l.var.0 ≡ Some true
        absent true h there = absurd (apart (record { var = l.var; yes = true }) (from_has c (record { var = l.var; yes = true }) h) (from_has c (record { var = l.var; yes = false }) there))
        absent false h there = ap₂ (λ p q. cond p (Some false) (cond q (Some true) None)) h there

pub known_false : (c : List Lit) → IsConsistent c → AllKnownFalse (known_where_false c) c
known_false c apart = known_at c apart

-- values for which the clause is false are as it makes them known
pub extends_known : (f : ℕ → Bool) (c : List Lit) → AllFalse f c → Extends f (known_where_false c)
extends_known f c h v b e = by_case (has c (record { var = record { 0 = v }; yes = true })) (has c (record { var = record { 0 = v }; yes = false })) refl refl e
  where
    by_case : (p q : Bool) → has c (record { var = record { 0 = v }; yes = true }) ≡ p → has c (record { var = record { 0 = v }; yes = false }) ≡ q
        → cond p (Some false) (cond q (Some true) None) ≡ Some b → f v ≡ b
    by_case true q ep eq is = h (record { var = record { 0 = v }; yes = true }) (from_has c (record { var = record { 0 = v }; yes = true }) ep) ∙ cc
    by_case false true ep eq is = h (record { var = record { 0 = v }; yes = false }) (from_has c (record { var = record { 0 = v }; yes = false }) eq) ∙ cc
    by_case false false ep eq is = absurd (cc)

-- a clause that can be false holds no literal with its opposite
pub consistent : (f : ℕ → Bool) (c : List Lit) → AllFalse f c → IsConsistent c
consistent f c h l i o = differ (f l.var.0) l.yes (h l i) (h (opposite l) o)
  where
    differ : (x y : Bool) → x ≡ not y → x ≡ not (not y) → ⊥
    differ true true p q = absurd (cc)
    differ true false p q = absurd (cc)
    differ false true p q = absurd (cc)
    differ false false p q = absurd (cc)
