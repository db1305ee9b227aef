-- Adding a clause and taking one out.
use Rattle.std.proofs.Common.{◌≡◌, ℕ, zero, suc, ◌*◌, ◌<◌, ◌≤◌, ◌≢◌, List, [], ◌∷◌, length, Option, Some, None, get_or, refl, ap, sym, ◌∙◌, arith}
use Rattle.std.specs.Prelude.{option_map}
use Rattle.theory_form.specs.declared.literals.Lit.{Lit}
use Rattle.asp_store.specs.Store.{clause_at, IsWithin, Adds, Removes}
use Rattle.asp_store.specs.declared.choices.Kept.{Kept}
use Rattle.asp_store.specs.declared.watches.Watcher.{Watcher}
use Rattle.asp_store.specs.Watch.{kept_at, clauses_of, IsInserted, code, list_at, HasWatcher, Listed}
use Rattle.asp_store.proofs.ExamineLemmas.{code-le, HasWatcher-place}

pub clause_of : (slots : List (Option Kept)) (id : ℕ) → clause_at (clauses_of slots) id ≡ option_map (λ (k : Kept). k.clause) (kept_at slots id)
clause_of [] id = refl
clause_of (s ∷ ss) zero = refl
clause_of (s ∷ ss) (suc id) = clause_of ss id

pub clause_same : (slots next : List (Option Kept)) (id : ℕ) → kept_at next id ≡ kept_at slots id → clause_at (clauses_of next) id ≡ clause_at (clauses_of slots) id
clause_same slots next id e = clause_of next id ∙ (ap (option_map (λ (k : Kept). k.clause)) e ∙ sym (clause_of slots id))

pub clause_gone : (slots : List (Option Kept)) (id : ℕ) → kept_at slots id ≡ None → clause_at (clauses_of slots) id ≡ None
clause_gone slots id e = clause_of slots id ∙ ap (option_map (λ (k : Kept). k.clause)) e

pub Removes-kept : (slots next : List (Option Kept)) (id : ℕ) → kept_at next id ≡ None → ((j : ℕ) → j ≢ id → kept_at next j ≡ kept_at slots j) → Removes (clauses_of slots) (clauses_of next) id
Removes-kept slots next id gone others = record { gone = clause_gone next id gone; others = λ j ne. clause_same slots next j (others j ne) }

pub Adds-inserted : (slots next : List (Option Kept)) (lists : List (List Watcher)) (id : ℕ) (c : List Lit) → IsInserted slots next lists id c → Adds (clauses_of slots) (clauses_of next) id c
Adds-inserted slots next lists id c h = record {
  fresh = clause_gone slots id h.fresh;
  added = clause_of next id ∙ (ap (option_map (λ (k : Kept). k.clause)) h.is_now ∙ ap Some h.clause);
  others = λ k ne. clause_same slots next k (h.others k ne);
}

pub code-below : (c : List Lit) (n i : ℕ) (d : Lit) (lists : List (List Watcher)) → IsWithin n c → 2 * n ≤ length lists → i < length c → code (get_or c i d) < length lists
code-below c n i d lists w room within = let low = w i d within in let q = code-le (get_or c i d) in omega (arith, low, q)

pub Listed-new : (lists : List (List Watcher)) (id : ℕ) (c : List Lit) (i j : ℕ) (d e : Lit) → i < length c → j < length c → HasWatcher (list_at lists (code (get_or c i d))) id c → HasWatcher (list_at lists (code (get_or c j e))) id c → Listed lists id (record { first = i; second = j; clause = c })
Listed-new lists id c i j d e some within f s = record {
  first = λ x h. HasWatcher-place lists c i id c d x some f;
  second = λ x h. HasWatcher-place lists c j id c e x within s;
}
