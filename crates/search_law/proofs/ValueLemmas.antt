-- What a total assignment says of literals and clauses.
use Rattle.std.proofs.Common.{◌≡◌, ℕ, zero, suc, ◌+◌, ◌<◌, ◌≤◌, ◌⊎◌, inl, inr, Bool, true, false, not, ◌&&◌, ◌||◌, List, [], ◌∷◌, length, Option, Some, None, get_or, refl, ap, sym, ◌∙◌, arith}
use Rattle.std.specs.Bool.{beq}
use Rattle.std.specs.List.{All}
use Rattle.std.proofs.lemmas.List.Folds.{list_any_at}
use Rattle.theory_form.specs.declared.literals.Lit.{Lit}
use Rattle.theory_form.specs.Truth.{value_of, IsFalseClause, IsFalseIn, IsSettled, IsTrueIn}
use Rattle.theory_model.specs.Truth.{clause_true, literal_true}
use Rattle.theory_model.specs.Whole.{AreOver}
use Rattle.search_law.specs.Closed.{IsTotal, truth_of, truths}

-- ---- truth values

pub bool_cases : (b : Bool) → (b ≡ true) ⊎ (b ≡ false)
bool_cases true = inl refl
bool_cases false = inr refl

pub both_true : (x y : Bool) → x ≡ true → y ≡ true → (x && y) ≡ true
both_true x y p q = rw (p, q) refl

pub first_true : (x y : Bool) → (x && y) ≡ true → x ≡ true
first_true true y h = refl
first_true false y h = h

pub second_true : (x y : Bool) → (x && y) ≡ true → y ≡ true
second_true true y h = h
second_true false y h = absurd cc

pub both_false : (x y : Bool) → x ≡ false → y ≡ false → (x || y) ≡ false
both_false x y p q = rw (p, q) refl

pub first_false : (x y : Bool) → (x || y) ≡ false → x ≡ false
first_false true y h = absurd cc
first_false false y h = refl

pub second_false : (x y : Bool) → (x || y) ≡ false → y ≡ false
second_false true y h = absurd cc
second_false false y h = h

pub beq_same : (b : Bool) → beq b b ≡ true
beq_same true = refl
beq_same false = refl

pub beq_not : (b : Bool) → beq (not b) b ≡ false
beq_not true = refl
beq_not false = refl

pub beq_true : (x y : Bool) → beq x y ≡ true → x ≡ y
beq_true true true h = refl
beq_true true false h = absurd cc
beq_true false true h = absurd cc
beq_true false false h = refl

pub beq_false : (x y : Bool) → beq x y ≡ false → x ≡ not y
beq_false true true h = absurd cc
beq_false true false h = refl
beq_false false true h = refl
beq_false false false h = absurd cc

-- ---- literals and clauses

pub literal_on : (a : List (Option Bool)) (l : Lit) → IsTrueIn a l → literal_true (truths a) l ≡ true
literal_on a l h = ap (λ o. beq (truth_of o) l.yes) h ∙ beq_same l.yes

pub literal_off : (a : List (Option Bool)) (l : Lit) → IsFalseIn a l → literal_true (truths a) l ≡ false
literal_off a l h = ap (λ o. beq (truth_of o) l.yes) h ∙ beq_not l.yes

-- a literal that is not true is false, where its variable has a value
pub literal_false : (a : List (Option Bool)) (l : Lit) → IsTotal a → 0 < l.var.0 → l.var.0 < length a → literal_true (truths a) l ≡ false → IsFalseIn a l
literal_false a l total up within off = go (value_of a l.var.0) refl where
  go : (o : Option Bool) → value_of a l.var.0 ≡ o → IsFalseIn a l
  go None e = absurd (total l.var.0 up within e)
  go (Some b) e =
      let x : beq b l.yes ≡ false = sym (ap (λ o. beq (truth_of o) l.yes) e) ∙ off in
      e ∙ ap Some (beq_false b l.yes x)

pub clause_off : (a : List (Option Bool)) (c : List Lit) → IsFalseClause a c → clause_true (truths a) c ≡ false
clause_off a [] h = refl
clause_off a (l ∷ c) h =
    both_false (literal_true (truths a) l) (clause_true (truths a) c) (literal_off a l (h 0 l (omega arith)))
    (clause_off a c (λ k d w. h (suc k) d (omega arith)))

any_lit : Lit
any_lit = record { var = record { 0 = 0 }; yes = true }

-- the variables of the clause have places
abbrev pub HasPlaces : List (Option Bool) → List Lit → Type 0
HasPlaces a c = All (λ l. (0 < l.var.0) × (l.var.0 < length a)) c

pub places_over : (a : List (Option Bool)) (n : ℕ) (c : List Lit) → length a ≡ n + 1 → AreOver n c → HasPlaces a c
places_over a n c places over = λ k d w. let x = over k d w in let le = x.1 in (x.0, omega (arith, le, places))

-- a settled clause is true
pub settled_true : (a : List (Option Bool)) (c : List Lit) → IsTotal a → HasPlaces a c → IsSettled a c → clause_true (truths a) c ≡ true
settled_true a c total within s = elim s [
  | inl t ↦ list_any_at (literal_true (truths a)) c t.0 any_lit t.1.within (literal_on a (get_or c t.0 any_lit) (t.1.holds any_lit))
  | inr t ↦
      let i : ℕ = t.0 in
      let x = within i any_lit t.2.first.within in
      absurd (total (get_or c i any_lit).var.0 x.0 x.1 (t.2.first.holds any_lit))
]

-- a variable without a place counts as false
pub beyond_false : (a : List (Option Bool)) (w : ℕ) → length a ≤ w → truths a w ≡ false
beyond_false [] w h = refl
beyond_false (x ∷ a) zero h = absurd (omega arith)
beyond_false (x ∷ a) (suc w) h = beyond_false a w (omega arith)
