-- Lists of literals by number are true where their atoms are.
use Rattle.std.proofs.Common.{◌≡◌, ℕ, zero, suc, Bool, true, false, not, ◌&&◌, ◌||◌, List, [], ◌∷◌, Contains, IsTrue, IsFalse, refl, sym, subst, ap, ◌∙◌, ⊎_elim, Option, Some, None}
use Rattle.std.specs.Prelude.{ℤ, pos, negsuc}
use Rattle.std.specs.List.{list_all, list_any}
use Rattle.std.proofs.lemmas.Bool.{false≢true, false_from_ne_true}
use Rattle.ap_term.specs.Value.{Value}
use Rattle.ground_law.specs.Literals.{IsAtomNumber, AreGroundLiterals}
use Rattle.ground_law.specs.Numbers.{at_value, numbers}
use Rattle.ground_form.specs.Obedience.{literal_by}
use Rattle.ground_form.specs.Truth.{literals_true}
use Rattle.rule_form.specs.Truth.{AtomSet}
use Rattle.rule_form.proofs.Unfolds.{here, there, first_or_rest, nothing_in}
use Rattle.rule_form.proofs.Plain.{left_true, right_true}

-- ---- tests of all and of some

pub and_true : (b c : Bool) → IsTrue b → IsTrue c → IsTrue (b && c)
and_true b c e f = subst (λ d. IsTrue (d && c)) (sym e) f

pub all_true : {X : Type 0} (p : X → Bool) (xs : List X) → ((c : X) → Contains xs c → IsTrue (p c)) → IsTrue (list_all p xs)
all_true p [] f = refl
all_true p (x ∷ xs) f = and_true (p x) (list_all p xs) (f x (here x xs)) (all_true p xs (λ c m. f c (there x xs c m)))

pub true_in : {X : Type 0} (p : X → Bool) (xs : List X) (c : X) → IsTrue (list_all p xs) → Contains xs c → IsTrue (p c)
true_in p [] c h m = absurd (nothing_in c m)
true_in p (x ∷ xs) c h m = ⊎_elim (λ e. subst (λ d. IsTrue (p d)) e (left_true (p x) (list_all p xs) h)) (λ r. true_in p xs c (right_true (p x) (list_all p xs) h) r) (first_or_rest x xs c m)

or_first : (b c : Bool) → IsTrue b → IsTrue (b || c)
or_first b c e = subst (λ d. IsTrue (d || c)) (sym e) refl

or_second : (b c : Bool) → IsTrue c → IsTrue (b || c)
or_second true c e = refl
or_second false c e = e

pub any_true : {X : Type 0} (p : X → Bool) (xs : List X) (c : X) → Contains xs c → IsTrue (p c) → IsTrue (list_any p xs)
any_true p [] c m h = absurd (nothing_in c m)
any_true p (x ∷ xs) c m h = ⊎_elim (λ e. or_first (p x) (list_any p xs) (subst (λ d. IsTrue (p d)) (sym e) h)) (λ r. or_second (p x) (list_any p xs) (any_true p xs c r h)) (first_or_rest x xs c m)

pub some_true : {X : Type 0} (p : X → Bool) (xs : List X) → IsTrue (list_any p xs) → (c : X) × Contains xs c × IsTrue (p c)
some_true p [] h = absurd (false≢true h)
some_true {X} p (x ∷ xs) h = by (p x) refl (some_true p xs) h
  where
    by : (b : Bool) → p x ≡ b → (IsTrue (list_any p xs) → (c : X) × Contains xs c × IsTrue (p c)) → IsTrue (b || list_any p xs) → (c : X) × Contains (x ∷ xs) c × IsTrue (p c)
    by true e ih g = (x, here x xs, e)
    by false e ih g = let (c, m, t) = ih g in (c, there x xs c m, t)

-- ---- literals

pub literal_same : (x : ℕ → Bool) (cs : List ℤ) → literals_true x cs ≡ list_all (literal_by x x) cs
literal_same x [] = refl
literal_same x (pos k ∷ cs) = ap (λ b. x k && b) (literal_same x cs)
literal_same x (negsuc k ∷ cs) = ap (λ b. not (x (suc k)) && b) (literal_same x cs)

not_true : (b : Bool) → IsTrue (not b) → IsTrue b → ⊥
not_true true e f = false≢true e
not_true false e f = false≢true f

not_false : (b : Bool) → IsFalse b → IsTrue (not b)
not_false true e = absurd (false≢true (sym e))
not_false false e = refl

pub number_in : (atoms : List Value) (x : AtomSet) (k : ℕ) (b : Value) → IsAtomNumber atoms k b → numbers atoms x k ≡ x b
number_in atoms x k b e = ap (at_value x) e

no_zero : (atoms : List Value) (b : Value) → IsAtomNumber atoms zero b → ⊥
no_zero atoms b e = subst is_none e tt
  where
    is_none : Option Value → Type 0
    is_none None = Unit {0}
    is_none (Some c) = ⊥

module _ (atoms : List Value) (asked barred : Value → Type 0) (cs : List ℤ) (are : AreGroundLiterals atoms asked barred cs) (x y : AtomSet) where
  pub asked_true : IsTrue (list_all (literal_by (numbers atoms x) (numbers atoms y)) cs) → (b : Value) → asked b → (k : ℕ) × IsAtomNumber atoms k b → IsTrue (y b)
  asked_true h b a (k, e) = sym (number_in atoms y k b e) ∙ true_in (literal_by (numbers atoms x) (numbers atoms y)) cs (pos k) h ((are.positive k).1 (b, a, e))

  barred_at : IsTrue (list_all (literal_by (numbers atoms x) (numbers atoms y)) cs) → (b : Value) → barred b → (k : ℕ) → IsAtomNumber atoms k b → IsTrue (x b) → ⊥
  barred_at h b bar zero e t = no_zero atoms b e
  barred_at h b bar (suc k) e t = not_true (numbers atoms x (suc k)) (true_in (literal_by (numbers atoms x) (numbers atoms y)) cs (negsuc k) h ((are.negative k).1 (b, bar, e))) (number_in atoms x (suc k) b e ∙ t)

  pub barred_false : IsTrue (list_all (literal_by (numbers atoms x) (numbers atoms y)) cs) → (b : Value) → barred b → (IsTrue (x b) → (k : ℕ) × IsAtomNumber atoms k b) → IsFalse (x b)
  barred_false h b bar place = false_from_ne_true (x b) (λ t. let (k, e) = place t in barred_at h b bar k e t)

  pub literals_hold : ((b : Value) → asked b → IsTrue (y b)) → ((b : Value) → barred b → IsFalse (x b)) → IsTrue (list_all (literal_by (numbers atoms x) (numbers atoms y)) cs)
  literals_hold f g = all_true (literal_by (numbers atoms x) (numbers atoms y)) cs at
    where
      at : (c : ℤ) → Contains cs c → IsTrue (literal_by (numbers atoms x) (numbers atoms y) c)
      at (pos k) m = let (b, a, e) = (are.positive k).0 m in number_in atoms y k b e ∙ f b a
      at (negsuc k) m = let (b, bar, e) = (are.negative k).0 m in not_false (numbers atoms x (suc k)) (number_in atoms x (suc k) b e ∙ g b bar)
