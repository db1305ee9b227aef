-- Which clauses are true in every model of a state's theory.
use Rattle.std.proofs.Common.{◌≡◌, ℕ, zero, suc, ◌+◌, ◌⊎◌, inl, inr, ⊎_elim, Bool, List, [], ◌∷◌, ◌++◌, length, Option, Some, None, set, replicate, refl, sym, ap, subst}
use Rattle.std.specs.Prelude.{IsSomeAnd, IsTrue, slice_get}
use Rattle.std.specs.Option.{option_and_then}
use Rattle.std.proofs.lemmas.Option.{none-some, same_Some}
use Rattle.theory_form.specs.declared.literals.Lit.{Lit}
use Rattle.theory_form.specs.declared.literals.Var.{Var}
use Rattle.theory_form.specs.declared.rows.SumRow.{SumRow}
use Rattle.theory_form.specs.Numbers.{at_number, grown}
use Rattle.theory_form.specs.Theories.{TheoryView, clause_of, row_of}
use Rattle.theory_form.proofs.NumberLemmas.{at_number-more}
use Rattle.theory_model.specs.Truth.{clause_true}
use Rattle.theory_model.specs.Models.{IsModel}
use Rattle.agg_nogoods.specs.Implied.{IsImplied}
use Rattle.agg_nogoods.proofs.RuleLemmas.{implied_holds}
use Rattle.proof_log.specs.States.{StateView, AddedAreTrue, added_of, clause_in, either, entry_of, put, taken, with_clause, without_clause}
use Rattle.proof_log.specs.Valid.{IsSumClause}

abbrev pub Slots : Type 0
Slots = List (Option (List Lit))

-- ---- entries of a list by number

entry_from : (o : Option (Option (List Lit))) (c : List Lit) → option_and_then (λ slot. slot) o ≡ Some c → o ≡ Some (Some c)
entry_from None c h = absurd (none-some c h)
entry_from (Some slot) c h = ap (λ (x : Option (List Lit)). Some x) h

at_entry : (slots : Slots) (id : ℕ) (c : List Lit) → entry_of slots id ≡ Some c → at_number slots id ≡ Some (Some c)
at_entry slots id c = entry_from (at_number slots id) c

entry_at : (slots : Slots) (id : ℕ) (c : List Lit) → at_number slots id ≡ Some (Some c) → entry_of slots id ≡ Some c
entry_at slots id c h = ap (option_and_then (λ (slot : Option (List Lit)). slot)) h

entry_more : (slots more : Slots) (id : ℕ) (c : List Lit) → entry_of slots id ≡ Some c → entry_of (slots ++ more) id ≡ Some c
entry_more slots more id c h = entry_at (slots ++ more) id c (at_number-more slots more id (Some c) (at_entry slots id c h))

get_set : (slots : Slots) (place k : ℕ) (slot : Option (List Lit)) (c : List Lit) → slice_get (set slots place slot) k ≡ Some (Some c) → ((k ≡ place) × (slot ≡ Some c)) ⊎ (slice_get slots k ≡ Some (Some c))
get_set [] place k slot c h = inr h
get_set (x ∷ slots) zero zero slot c h = inl (refl, same_Some slot (Some c) h)
get_set (x ∷ slots) zero (suc k) slot c h = inr h
get_set (x ∷ slots) (suc place) zero slot c h = inr h
get_set (x ∷ slots) (suc place) (suc k) slot c h = elim (get_set slots place k slot c h) [
  | inl own ↦ inl (ap suc own.0, own.1)
  | inr old ↦ inr old
]

get_nothing : (n k : ℕ) (c : List Lit) → slice_get (replicate n None) k ≡ Some (Some c) → ⊥
get_nothing zero k c h = none-some (Some c) h
get_nothing (suc n) zero c h = none-some c (same_Some None (Some c) h)
get_nothing (suc n) (suc k) c h = get_nothing n k c h

get_grown : (slots : Slots) (n k : ℕ) (c : List Lit) → slice_get (slots ++ replicate n None) k ≡ Some (Some c) → slice_get slots k ≡ Some (Some c)
get_grown [] n k c h = absurd (get_nothing n k c h)
get_grown (x ∷ slots) n zero c h = h
get_grown (x ∷ slots) n (suc k) c h = get_grown slots n k c h

pub entry_put : (slots : Slots) (place : ℕ) (c : List Lit) (id : ℕ) (d : List Lit) → entry_of (put slots place c) id ≡ Some d → ((id ≡ suc place) × (c ≡ d)) ⊎ (entry_of slots id ≡ Some d)
entry_put slots place c zero d h = absurd (none-some d h)
entry_put slots place c (suc k) d h = elim (get_set (grown slots (place + 1) None) place k (Some c) d (at_entry (put slots place c) (suc k) d h)) [
  | inl new ↦ inl (ap suc new.0, same_Some c d new.1)
  | inr old ↦ inr (entry_at slots (suc k) d (get_grown slots _ k d old))
]

pub entry_taken : (slots : Slots) (taken_id id : ℕ) (d : List Lit) → entry_of (taken slots taken_id) id ≡ Some d → entry_of slots id ≡ Some d
entry_taken slots zero id d h = h
entry_taken slots (suc place) zero d h = h
entry_taken slots (suc place) (suc k) d h = elim (get_set slots place k None d (at_entry (set slots place None) (suc k) d h)) [
  | inl none ↦ absurd (none-some d none.1)
  | inr old ↦ entry_at slots (suc k) d old
]

-- ---- models

-- a model of the theory with one more number is one of the theory
model_before : (s : StateView) (c : List Lit) (f : ℕ → Bool) → IsModel (with_clause s c).theory f → IsModel s.theory f
model_before s c f m = record {
  clauses = λ id d h. m.clauses id d (entry_more s.theory.clauses (None ∷ []) id d h);
  sums = m.sums;
  loops = m.loops;
}

-- the clause is true in each model of the theory
abbrev pub IsTrueInModels : TheoryView → List Lit → Type 0
IsTrueInModels t c = (f : ℕ → Bool) → IsModel t f → IsTrue (clause_true f c)

pub with_true : (s after : StateView) (c : List Lit) → AddedAreTrue s → IsTrueInModels s.theory c → after ≡ with_clause s c → AddedAreTrue after
with_true s after c h here is = subst AddedAreTrue (sym is) (λ f m id d entry.
    let before = model_before s c f m in
    ⊎_elim
    (λ (own : (id ≡ suc (length s.theory.clauses)) × (c ≡ d)). subst (λ (x : List Lit). IsTrue (clause_true f x)) own.1 (here f before))
    (λ (old : entry_of s.added id ≡ Some d). h f before id d old)
    (entry_put s.added (length s.theory.clauses) c id d entry))

pub without_true : (s after : StateView) (id : ℕ) → AddedAreTrue s → after ≡ without_clause s id → AddedAreTrue after
without_true s after id h is = subst AddedAreTrue (sym is) (λ f m k d entry. h f m k d (entry_taken s.added id k d entry))

pub true_of_either : (f : ℕ → Bool) (o p : Option (List Lit)) (d : List Lit) → ((c : List Lit) → o ≡ Some c → IsTrue (clause_true f c)) → ((c : List Lit) → p ≡ Some c → IsTrue (clause_true f c)) → either o p ≡ Some d → IsTrue (clause_true f d)
true_of_either f None p d first second h = second d h
true_of_either f (Some c) p d first second h = first d h

-- each clause of the state is true in a model
pub clauses_true : (s : StateView) → AddedAreTrue s → (f : ℕ → Bool) → IsModel s.theory f → (id : ℕ) (d : List Lit) → clause_in s id ≡ Some d → IsTrue (clause_true f d)
clauses_true s h f m id d = true_of_either f (clause_of s.theory id) (added_of s id) d (m.clauses id) (h f m id)

sum_true_of : (f : ℕ → Bool) (t : TheoryView) (guard : ℕ) (lits : List Lit) (o : Option SumRow) → row_of t guard ≡ o → IsModel t f → IsSomeAnd o (λ row. IsImplied row lits) → IsTrue (clause_true f lits)
sum_true_of f t guard lits None is m h = absurd h
sum_true_of f t guard lits (Some row) is m h = implied_holds row lits h f (m.sums guard row is)

pub sum_clause_true : (t : TheoryView) (guard : Var) (lits : List Lit) → IsSumClause t guard lits → IsTrueInModels t lits
sum_clause_true t guard lits h f m = sum_true_of f t guard.0 lits (row_of t guard.0) refl m h
