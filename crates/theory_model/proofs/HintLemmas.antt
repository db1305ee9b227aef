-- Why a clause that follows by hints is true. Where it is false under f, the partial assignment that the hints make says
-- only what f says, from the start to the last hint; but f makes each hint true.
use Rattle.std.proofs.Common.{◌≡◌, ℕ, ◌<◌, ◌≤◌, Bool, true, false, not, List, [], ◌∷◌, length, Option, Some, None, get_or, replicate, refl, sym, ap, ◌∙◌, subst, ⊎_elim}
use Rattle.std.specs.Prelude.{IsTrue, IsFalse, slice_set}
use Rattle.std.specs.Bool.{beq}
use Rattle.std.proofs.lemmas.Bool.{false≢true, cases_eq, cases_lt, or_parts}
use Rattle.std.proofs.lemmas.Option.{same_Some, none-some}
use Rattle.std.proofs.lemmas.List.{get_or-set_same, get_or-set_other, get_or-replicate, get_or_past, set_past, length-replicate}
use Rattle.std.proofs.lemmas.List.Folds.{Any-from_list_any}
use Rattle.theory_form.specs.declared.literals.Lit.{Lit}
use Rattle.theory_form.specs.declared.literals.ClauseId.{ClauseId}
use Rattle.theory_form.specs.Truth.{value_of, IsFalseIn}
use Rattle.theory_form.specs.Hints.{all_false, made_true, Follows}
use Rattle.theory_model.specs.Truth.{literal_true, clause_true}

-- f has each value of the assignment
abbrev pub Agrees : List (Option Bool) → (ℕ → Bool) → Type 0
Agrees a f = (v : ℕ) (b : Bool) → value_of a v ≡ Some b → f v ≡ b

Agrees-none : (places : ℕ) (f : ℕ → Bool) → Agrees (replicate places None) f
Agrees-none places f v b h = absurd (none-some b (sym none ∙ h))
  where
    none : value_of (replicate places None) v ≡ None
    none = ⊎_elim
        (λ (lt : v < places). get_or-replicate places v None None lt)
        (λ (past : places ≤ v). get_or_past (replicate places None) v None (rw length-replicate past))
        (cases_lt v places)

Agrees-set : (a : List (Option Bool)) (f : ℕ → Bool) (v : ℕ) (b : Bool) → Agrees a f → f v ≡ b → Agrees (slice_set a v (Some b)) f
Agrees-set a f v b agrees here w c h = ⊎_elim
    (λ (same : w ≡ v). ⊎_elim
    (λ (lt : v < length a).
    let value : Some b ≡ Some c = sym (get_or-set_same a v (Some b) None lt) ∙ (ap (value_of (slice_set a v (Some b))) (sym same) ∙ h) in
    ap f same ∙ (here ∙ same_Some b c value))
    (λ (past : length a ≤ v). agrees w c (ap (λ t. value_of t w) (sym (set_past a v (Some b) past)) ∙ h))
    (cases_lt v (length a)))
    (λ (apart : w ≡ v → ⊥). agrees w c (sym (get_or-set_other a v w (Some b) None apart) ∙ h))
    (cases_eq w v)

beq_not : (b : Bool) → beq (not b) b ≡ false
beq_not true = refl
beq_not false = refl

value_if_true : (x y : Bool) → beq x y ≡ true → x ≡ y
value_if_true true true h = refl
value_if_true true false h = absurd (false≢true h)
value_if_true false true h = absurd (false≢true h)
value_if_true false false h = refl

value_if_false : (x y : Bool) → beq x y ≡ false → x ≡ not y
value_if_false true true h = absurd (false≢true (sym h))
value_if_false true false h = refl
value_if_false false true h = refl
value_if_false false false h = absurd (false≢true (sym h))

false_under : (a : List (Option Bool)) (f : ℕ → Bool) (l : Lit) → Agrees a f → IsFalseIn a l → IsFalse (literal_true f l)
false_under a f l agrees h = ap (λ b. beq b l.yes) (agrees l.var.0 (not l.yes) h) ∙ beq_not l.yes

pub Agrees-all_false : (places : ℕ) (f : ℕ → Bool) (c : List Lit) → IsFalse (clause_true f c) → Agrees (all_false places c) f
Agrees-all_false places f [] h = Agrees-none places f
Agrees-all_false places f (l ∷ c) h =
    let parts = or_parts (literal_true f l) (clause_true f c) h in
    Agrees-set (all_false places c) f l.var.0 (not l.yes) (Agrees-all_false places f c parts.1) (value_if_false (f l.var.0) l.yes parts.0)

module _ (look : ℕ → Option (List Lit)) (f : ℕ → Bool) (clauses : (id : ℕ) (d : List Lit) → look id ≡ Some d → IsTrue (clause_true f d)) where
  -- hints that end in a false clause start from an assignment that says something else than f
  pub no_conflict : (hints : List ClauseId) (a : List (Option Bool)) → Agrees a f → Follows look a hints → ⊥
  no_conflict [] a agrees h = h
  no_conflict (id ∷ []) a agrees h =
      let some = Any-from_list_any (literal_true f) h.0 (clauses id.0 h.0 h.1) in
      let l : Lit = some.1 in
      let is_false = subst (λ (m : Lit). IsFalseIn a m) some.3 (h.2 some.0 l some.2) in
      false≢true (sym (false_under a f l agrees is_false) ∙ some.4)
  no_conflict (id ∷ next ∷ rest) a agrees h =
      let some = Any-from_list_any (literal_true f) h.0 (clauses id.0 h.0 h.1) in
      let l : Lit = some.1 in
      let unit = h.2.1 in
      let m : Lit = h.2.0 in
      ⊎_elim
      (λ (at : some.0 ≡ unit.place).
      let same : l ≡ m = sym some.3 ∙ (ap (λ k. get_or h.0 k l) at ∙ unit.lit_is l) in
      let value : f m.var.0 ≡ m.yes = value_if_true (f m.var.0) m.yes (subst (λ (n : Lit). IsTrue (literal_true f n)) same some.4) in
      no_conflict (next ∷ rest) (made_true a m) (Agrees-set a f m.var.0 m.yes agrees value) h.2.2)
      (λ (apart : some.0 ≡ unit.place → ⊥).
      let is_false = subst (λ (n : Lit). IsFalseIn a n) some.3 ((unit.unit.rest some.0 some.2 apart).holds l) in
      false≢true (sym (false_under a f l agrees is_false) ∙ some.4))
      (cases_eq some.0 unit.place)
