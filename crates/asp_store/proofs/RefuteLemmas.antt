-- Which clauses are refuted by assumptions.
use Rattle.std.proofs.Common.{◌≡◌, ℕ, ◌+◌, ◌*◌, ◌<◌, ◌≤◌, inl, inr, true, false, not, List, length, Option, Some, None, get_or, refl, sym, subst, arith}
use Rattle.std.specs.Prelude.{MatchOption}
use Rattle.std.specs.List.{All, Contains}
use Rattle.std.proofs.lemmas.Bool.{cases_lt}
use Rattle.std.proofs.lemmas.List.{get_or_default}
use Rattle.std.proofs.lemmas.List.Elements.{All-contains}
use Rattle.theory_form.specs.declared.literals.Lit.{Lit}
use Rattle.theory_form.specs.Literals.{opposite}
use Rattle.asp_store.specs.Store.{AllWithin, IsNegated, IsRefuting, NoneRefuting}
use Rattle.asp_store.proofs.HeadLemmas.{kept_from_clause}
use Rattle.asp_store.specs.declared.choices.Kept.{Kept}
use Rattle.asp_store.specs.declared.watches.Watcher.{Watcher}
use Rattle.asp_store.specs.Watch.{clauses_of, list_at, code, HasWatcher, AllListed, AreEmptiesIn, IsRefutingAt}
use Rattle.asp_store.proofs.ExamineLemmas.{clause_from_kept, zero_lit}

-- one element more
pub each_more : {X : Type 0} (Q : X → Type 0) (xs : List X) (i : ℕ) (e : X) → i < length xs → ((k : ℕ) (d : X) → k < i → Q (get_or xs k d)) → Q (get_or xs i e) → (k : ℕ) (d : X) → k < i + 1 → Q (get_or xs k d)
each_more Q xs i e within before here k d below = elim (cases_lt k i) [
  | inl low ↦ before k d low
  | inr at ↦
      let same : k ≡ i = omega (arith, at, below) in
      subst (λ m. Q (get_or xs m d)) (sym same) (subst Q (get_or_default xs i e d within) here)
]

pub match_weaker : {X : Type 0} (o : Option X) (A B : Type 0) (P : X → Type 0) → (A → B) → MatchOption o A P → MatchOption o B P
match_weaker None A B P f h = f h
match_weaker (Some x) A B P f h = h

twice : (l : Lit) → opposite (opposite l) ≡ l
twice l = elim l.yes as (λ b. record { var = l.var; yes = not (not b) } ≡ record { var = l.var; yes = b }) [ true ↦ refl | false ↦ refl ]

-- a clause that is refuted stands in one of the lists that are gone through
module _ (slots : List (Option Kept)) (lists : List (List Watcher)) (empties : List ℕ) (assume : List Lit) (places : ℕ) (listed : AllListed slots lists) (empty : AreEmptiesIn slots empties) (within : AllWithin (clauses_of slots) places) (room : 2 * places ≤ length lists) where
  pub none_refuting : All (λ key. IsRefutingAt slots assume key → ⊥) empties → All (λ l. 2 * l.var.0 + 2 ≤ length lists → All (λ (w : Watcher). IsRefutingAt slots assume w.key → ⊥) (list_at lists (code (opposite l)))) assume → (id : ℕ) → IsRefutingAt slots assume id → ⊥
  none_refuting no_empty no_watcher id r =
      let k : Kept = r.0 in
      let at = r.1 in
      elim (cases_lt 0 (length k.clause)) [
        | inr none ↦
            let there = empty id k at (omega (arith, none)) in
            no_empty there.0 0 there.2 (subst (IsRefutingAt slots assume) (sym there.3) r)
        | inl some ↦
            let x = listed id k at in
            let first = (x.0 some).0 in
            let l : Lit = get_or k.clause k.first zero_lit in
            let has : Contains assume (opposite l) = r.2 k.first zero_lit first in
            let low : l.var.0 < places = within id k.clause (clause_from_kept slots id k at) k.first zero_lit first in
            let w : HasWatcher (list_at lists (code l)) id k.clause = x.1.first zero_lit first in
            let w' : HasWatcher (list_at lists (code (opposite (opposite l)))) id k.clause = subst (λ y. HasWatcher (list_at lists (code y)) id k.clause) (sym (twice l)) w in
            let all = All-contains (λ (y : Lit). 2 * y.var.0 + 2 ≤ length lists → All (λ (v : Watcher). IsRefutingAt slots assume v.key → ⊥) (list_at lists (code (opposite y)))) assume (opposite l) no_watcher has in
            let none = all (omega (arith, low, room)) in
            let d : Watcher = record { key = id; blocker = l } in
            none w'.0 d w'.1.within (subst (IsRefutingAt slots assume) (sym (w'.1.key d)) r)
      ]

pub refuting_stored : (slots : List (Option Kept)) (assume : List Lit) (id : ℕ) → IsRefutingAt slots assume id → IsRefuting (clauses_of slots) assume id
refuting_stored slots assume id r = record { clause = r.0.clause; stored = clause_from_kept slots id r.0 r.1; negated = r.2 }

pub none_stored : (slots : List (Option Kept)) (assume : List Lit) → ((id : ℕ) → IsRefutingAt slots assume id → ⊥) → NoneRefuting (clauses_of slots) assume
none_stored slots assume none id c at negated =
    let x = kept_from_clause slots id c at in
    none id (x.0, x.1, subst (IsNegated assume) (sym x.2) negated)
