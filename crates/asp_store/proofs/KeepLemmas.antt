-- What keeps the facts that are true of the fields of every store.
use Rattle.std.proofs.Common.{◌≡◌, ℕ, ◌+◌, ◌*◌, ◌<◌, ◌≤◌, ◌≢◌, ◌++◌, List, [], ◌∷◌, length, Option, Some, None, get_or, inl, inr, max, take, refl, ap, sym, ◌∙◌, subst, arith}
use Rattle.std.proofs.lemmas.Bool.{cases_eq}
use Rattle.theory_form.specs.declared.literals.Lit.{Lit}
use Rattle.theory_form.specs.Literals.{IsAscending}
use Rattle.theory_form.specs.Truth.{IsFreeIn}
use Rattle.asp_trail.specs.declared.Entry.{Entry}
use Rattle.asp_trail.specs.declared.Why.{Why}
use Rattle.asp_trail.specs.declared.Why.TheVariants.{Decision, Clause}
use Rattle.asp_trail.specs.Trail.{values_of, level_of, back, IsTrail}
use Rattle.asp_store.specs.Store.{clause_at, IsWithin, IsImpliedBy, IsReasonOfSome}
use Rattle.asp_store.proofs.ExamineLemmas.{clause_from_kept}
use Rattle.asp_store.proofs.HeadLemmas.{kept_from_clause}
use Rattle.asp_store.proofs.StoreLemmas.{IsStore-implied, IsStore-decided, IsStore-back, IsStore-adds, IsStore-removes, free_from_reason}
use Rattle.asp_store.specs.declared.choices.Kept.{Kept}
use Rattle.asp_store.specs.declared.visits.Mark.{Mark}
use Rattle.asp_store.specs.declared.watches.Watcher.{Watcher}
use Rattle.asp_store.specs.Watch.{kept_at, clauses_of, Grows, InFrom, IsInserted, IsLonger, IsWatched, IsWatchStore, IsDroppedOrSame, Moved}
use Rattle.asp_store.proofs.WatchLemmas.{IsWatched-implied, IsWatched-decided, IsWatched-back, IsWatched-add, IsWatched-forget}
use Rattle.asp_store.proofs.LevelLemmas.{IsWatched-grows}
use Rattle.asp_store.proofs.EditLemmas.{Adds-inserted, Removes-kept}
use Rattle.asp_store.proofs.PlaceLemmas.{IsWatchStore-longer, IsWatchStore-grown}

pub IsWatchStore-made : (slots : List (Option Kept)) (lists lists' : List (List Watcher)) (empties pending : List ℕ) (n m : ℕ) (es : List Entry) (marks : List Mark) (top : Mark) (room room' : ℕ) → IsTrail n es → IsLonger lists lists' → room ≤ room' → 2 * m ≤ length lists' → m ≤ room' → IsWatchStore slots lists empties pending n es marks top room → IsWatchStore slots lists' empties pending (max n m) es marks top room'
IsWatchStore-made slots lists lists' empties pending n m es marks top room room' t h wider fit levels s =
    IsWatchStore-grown slots lists' empties pending n m es marks top room' t fit levels (IsWatchStore-longer slots lists lists' empties pending n es marks top room room' h wider s)

pub IsWatchStore-assigned : (slots : List (Option Kept)) (lists : List (List Watcher)) (empties pending : List ℕ) (n : ℕ) (es : List Entry) (marks : List Mark) (top : Mark) (room : ℕ) (l : Lit) (w : Why) → IsImpliedBy (clauses_of slots) (values_of n es) l w → IsWatchStore slots lists empties pending n es marks top room → IsWatchStore slots lists empties pending n (record { lit = l; why = w } ∷ es) marks top room
IsWatchStore-assigned slots lists empties pending n es marks top room l Decision h s = absurd h
IsWatchStore-assigned slots lists empties pending n es marks top room l (Clause id) h s =
    let e : Entry = record { lit = l; why = Clause id } in
    record {
      store = IsStore-implied e id.0 s.store refl h;
      watched = IsWatched-implied slots lists pending n es marks top e (free_from_reason h) refl s.watched;
      room = s.room;
      levels_fit = s.levels_fit;
      empties_in = s.empties_in;
    }

pub IsWatchStore-decided : (slots : List (Option Kept)) (lists : List (List Watcher)) (empties pending : List ℕ) (n : ℕ) (es : List Entry) (marks : List Mark) (top : Mark) (room : ℕ) (l : Lit) → IsFreeIn (values_of n es) l → IsWatchStore slots lists empties pending n es marks top room → IsWatchStore slots lists empties pending n (record { lit = l; why = Decision } ∷ es) (marks ++ top ∷ []) top room
IsWatchStore-decided slots lists empties pending n es marks top room l free s =
    let e : Entry = record { lit = l; why = Decision } in
    let up : level_of (e ∷ es) ≡ level_of es + 1 = omega arith in
    record {
      store = IsStore-decided _ es n l s.store;
      watched = IsWatched-decided slots lists pending n es marks top e free up s.watched;
      room = s.room;
      levels_fit = s.levels_fit;
      empties_in = s.empties_in;
    }

pub IsWatchStore-back : (slots : List (Option Kept)) (lists : List (List Watcher)) (empties pending : List ℕ) (n : ℕ) (es : List Entry) (marks : List Mark) (top : Mark) (room k : ℕ) (d : Mark) → k < length marks → IsWatchStore slots lists empties pending n es marks top room → IsWatchStore slots lists empties pending n (back k es) (take k marks) (get_or marks k d) room
IsWatchStore-back slots lists empties pending n es marks top room k d below s = record {
  store = IsStore-back (clauses_of slots) es n k s.store;
  watched = IsWatched-back slots lists pending n es marks top k d below s.watched;
  room = s.room;
  levels_fit = s.levels_fit;
  empties_in = s.empties_in;
}

pub IsWatchStore-grows : (slots : List (Option Kept)) (lists more : List (List Watcher)) (empties pending : List ℕ) (n : ℕ) (es : List Entry) (marks : List Mark) (top : Mark) (room : ℕ) → Grows lists more → IsWatchStore slots lists empties pending n es marks top room → IsWatchStore slots more empties pending n es marks top room
IsWatchStore-grows slots lists more empties pending n es marks top room g s = record {
  store = s.store;
  watched = IsWatched-grows slots lists more pending n es marks top g s.watched;
  room = let p = g.len in let q = s.room in omega (arith, p, q);
  levels_fit = s.levels_fit;
  empties_in = s.empties_in;
}

pub IsWatchStore-inserted : (slots next : List (Option Kept)) (lists lists' : List (List Watcher)) (empties empties' pending : List ℕ) (n : ℕ) (es : List Entry) (marks : List Mark) (top : Mark) (room id : ℕ) (c : List Lit) → IsInserted slots next lists' id c → Grows lists lists' → IsWithin n c → IsAscending c → ((i : ℕ) → InFrom empties 0 i → InFrom empties' 0 i) → (length c ≡ 0 → InFrom empties' 0 id) → IsWatchStore slots lists empties pending n es marks top room → IsWatchStore next lists' empties' (pending ++ id ∷ []) n es marks top room
IsWatchStore-inserted slots next lists lists' empties empties' pending n es marks top room id c x g within up kept noted s = record {
  store = IsStore-adds (clauses_of slots) _ es id n c (Adds-inserted slots next lists' id c x) within up s.store;
  watched = IsWatched-add slots next lists pending n es marks top lists' id x.kept x.is_now x.others g x.placed x.listed s.watched;
  room = let p = g.len in let q = s.room in omega (arith, p, q);
  levels_fit = s.levels_fit;
  empties_in = λ j k at none. elim (cases_eq j id) [
    | inl same ↦
        let e : Some x.kept ≡ Some k = sym x.is_now ∙ (ap (kept_at next) (sym same) ∙ at) in
        let f : x.kept ≡ k = cc in
        subst (InFrom empties' 0) (sym same) (noted (ap length (sym x.clause) ∙ (ap (λ (q : Kept). length q.clause) f ∙ none)))
    | inr other ↦ kept j (s.empties_in j k (sym (x.others j other) ∙ at) none)
  ];
}

pub IsWatchStore-removes : (slots next : List (Option Kept)) (lists : List (List Watcher)) (empties pending : List ℕ) (n : ℕ) (es : List Entry) (marks : List Mark) (top : Mark) (room id : ℕ) → kept_at next id ≡ None → ((j : ℕ) → j ≢ id → kept_at next j ≡ kept_at slots j) → (IsReasonOfSome es id → ⊥) → IsWatchStore slots lists empties pending n es marks top room → IsWatchStore next lists empties pending n es marks top room
IsWatchStore-removes slots next lists empties pending n es marks top room id gone others none s = record {
  store = IsStore-removes (clauses_of slots) (clauses_of next) id n es (Removes-kept slots next id gone others) none s.store;
  watched = IsWatched-forget slots next lists pending n es marks top id gone others s.watched;
  room = s.room;
  levels_fit = s.levels_fit;
  empties_in = λ j k at none'. elim (cases_eq j id) [
    | inl same ↦ absurd (let e : None ≡ Some k = sym gone ∙ (ap (kept_at next) (sym same) ∙ at) in cc)
    | inr other ↦ s.empties_in j k (sym (others j other) ∙ at) none'
  ];
}

pub IsWatchStore-dropped : (slots : List (Option Kept)) (lists : List (List Watcher)) (empties pending pending' : List ℕ) (n : ℕ) (es : List Entry) (marks : List Mark) (top top' : Mark) (room level : ℕ) → level ≡ length marks → IsDroppedOrSame pending top level pending' top' → IsWatchStore slots lists empties pending n es marks top room → IsWatchStore slots lists empties pending' n es marks top' room
IsWatchStore-dropped slots lists empties pending pending' n es marks top top' room level e d s = elim d [
  | inl same ↦
      subst (λ p. IsWatchStore slots lists empties p n es marks top' room) (sym same.0) (subst (λ m. IsWatchStore slots lists empties pending n es marks m room) (sym same.1) s)
  | inr x ↦
      let none : length marks ≡ 0 = sym e ∙ x.level_is in
      let h = s.watched in
      subst (λ p. IsWatchStore slots lists empties p n es marks top' room) (sym x.none_left)
      (subst (λ m. IsWatchStore slots lists empties [] n es marks m room) (sym x.mark_is)
      (record {
        store = s.store;
        watched = record {
          now = record {
            guard = λ id k at. elim (h.now.guard id k at) [
              | inl waits ↦ absurd (let a = waits.1 in let b = waits.2 in let c = x.all_done in omega arith)
              | inr w ↦ inr w
            ];
            head_in = h.now.head_in;
            done_in = omega arith;
          };
          below = record {
            levels = h.below.levels;
            lower = λ i m below. absurd (omega arith);
            order = λ i m below. absurd (omega arith);
            rising = λ i j m before below. absurd (omega arith);
          };
          listed = h.listed;
        };
        room = s.room;
        levels_fit = s.levels_fit;
        empties_in = s.empties_in;
      }))
]

-- clauses were looked at
pub IsWatchStore-ran : (slots slots' : List (Option Kept)) (lists lists' : List (List Watcher)) (empties pending : List ℕ) (n : ℕ) (es es' : List Entry) (marks : List Mark) (top top' : Mark) (room : ℕ) → Moved slots slots' lists lists' n es es' → IsWatched slots' lists' pending n es' marks top' → IsWatchStore slots lists empties pending n es marks top room → IsWatchStore slots' lists' empties pending n es' marks top' room
IsWatchStore-ran slots slots' lists lists' empties pending n es es' marks top top' room m w s = record {
  store = m.store;
  watched = w;
  room = let p = m.len in let q = s.room in omega (arith, p, q);
  levels_fit = s.levels_fit;
  empties_in = λ id k at none.
      let stored : clause_at (clauses_of slots) id ≡ Some k.clause = ap (λ cs. clause_at cs id) (sym m.same_clauses) ∙ clause_from_kept slots' id k at in
      let x = kept_from_clause slots id k.clause stored in
      s.empties_in id x.0 x.1 (ap length x.2 ∙ none);
}
