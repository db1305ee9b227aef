-- More places for variables, and the empty store.
use Rattle.std.proofs.Common.{◌≡◌, ℕ, zero, suc, ◌+◌, ◌-◌, ◌*◌, ◌<◌, ◌≤◌, inl, inr, ◌++◌, Bool, List, [], ◌∷◌, length, Option, get_or, drop, max, refl, ap, sym, ◌∙◌, subst, arith, length-append}
use Rattle.std.proofs.lemmas.Bool.{cases_eq, cases_lt}
use Rattle.std.proofs.lemmas.List.{get_or_append_left, get_or-append_right, get_or_past}
use Rattle.theory_form.specs.declared.literals.Lit.{Lit}
use Rattle.theory_form.specs.Truth.{TrueAt}
use Rattle.asp_trail.specs.declared.Entry.{Entry}
use Rattle.asp_trail.specs.Trail.{back, IsTrail}
use Rattle.asp_store.specs.Store.{IsWithin}
use Rattle.asp_store.proofs.StoreLemmas.{SameValues, FalseAt-same, SameValues-grown, IsStore-grown}
use Rattle.asp_store.specs.declared.choices.Kept.{Kept}
use Rattle.asp_store.specs.declared.visits.Mark.{Mark}
use Rattle.asp_store.specs.declared.watches.Watcher.{Watcher}
use Rattle.asp_store.specs.Watch.{clauses_of, list_at, code, HasTrue, HasWatcher, older, WatchOk, LevelOk, IsWatched, AllListed, IsLonger, IsWatchStore}
use Rattle.asp_store.proofs.LevelLemmas.{IsTrail-back}
use Rattle.asp_store.proofs.ExamineLemmas.{code-le}

pub IsLonger-same : (lists : List (List Watcher)) → IsLonger lists lists
IsLonger-same lists = record { len = omega arith; same = λ c. refl }

pub IsLonger-push : (first lists : List (List Watcher)) → IsLonger first lists → IsLonger first (lists ++ [] ∷ [])
IsLonger-push first lists h =
    let len = length-append lists ([] ∷ []) in
    record {
      len = let q = h.len in omega (arith, len);
      same = λ c. elim (cases_lt c (length lists)) [
        | inl below ↦ get_or_append_left lists ([] ∷ []) [] c below ∙ h.same c
        | inr above ↦ elim (cases_eq c (length lists)) [
          | inl last ↦
              get_or-append_right lists ([] ∷ []) (length lists) c [] refl above
              ∙ (ap (λ k. list_at ([] ∷ []) k) (let e : c - length lists ≡ 0 = omega arith in e) ∙ (sym (get_or_past lists c [] above) ∙ h.same c))
          | inr past ↦ get_or_past (lists ++ [] ∷ []) c [] (omega (arith, len)) ∙ (sym (get_or_past lists c [] above) ∙ h.same c)
        ]
      ];
    }

longer_from : (lists lists' : List (List Watcher)) → IsLonger lists lists' → (x id : ℕ) (c : List Lit) → HasWatcher (list_at lists x) id c → HasWatcher (list_at lists' x) id c
longer_from lists lists' h x id c = subst (λ xs. HasWatcher xs id c) (sym (h.same x))

pub AllListed-longer : (slots : List (Option Kept)) (lists lists' : List (List Watcher)) → IsLonger lists lists' → AllListed slots lists → AllListed slots lists'
AllListed-longer slots lists lists' h all id k at =
    let w = all id k at in (
      w.0,
      record {
        first = λ d within. longer_from lists lists' h _ id k.clause (w.1.first d within);
        second = λ d within. longer_from lists lists' h _ id k.clause (w.1.second d within);
      },
    )

pub IsWatchStore-longer : (slots : List (Option Kept)) (lists lists' : List (List Watcher)) (empties pending : List ℕ) (n : ℕ) (es : List Entry) (marks : List Mark) (top : Mark) (room room' : ℕ) → IsLonger lists lists' → room ≤ room' → IsWatchStore slots lists empties pending n es marks top room → IsWatchStore slots lists' empties pending n es marks top room'
IsWatchStore-longer slots lists lists' empties pending n es marks top room room' h wider s = record {
  store = s.store;
  watched = record { now = s.watched.now; below = s.watched.below; listed = AllListed-longer slots lists lists' h s.watched.listed };
  room = let p = s.room in let q = h.len in omega arith;
  levels_fit = let p = s.levels_fit in omega arith;
  empties_in = s.empties_in;
}

-- more places, the lists and the marks for which are there

TrueAt-same : {a b : List (Option Bool)} {c : List Lit} {i : ℕ} → SameValues a b → TrueAt a c i → TrueAt b c i
TrueAt-same {c = c} {i = i} s h = record { within = h.within; holds = λ d. s (get_or c i d).var.0 ∙ h.holds d }

HasTrue-same : {a b : List (Option Bool)} {c : List Lit} → SameValues a b → HasTrue a c → HasTrue b c
HasTrue-same s h = (h.0, TrueAt-same s h.1)

WatchOk-same : {p p' t t' : List (Option Bool)} {k : Kept} → SameValues p p' → SameValues t t' → WatchOk p t k → WatchOk p' t' k
WatchOk-same sp st h = record {
  within_first = h.within_first;
  within_second = h.within_second;
  apart = elim h.apart [ inl a ↦ inl a | inr b ↦ inr (HasTrue-same st b) ];
  first = λ f. HasTrue-same st (h.first (FalseAt-same (λ v. sym (sp v)) f));
  second = λ f. HasTrue-same st (h.second (FalseAt-same (λ v. sym (sp v)) f));
}

IsTrail-drop : (n j : ℕ) (es : List Entry) → IsTrail n es → IsTrail n (drop j es)
IsTrail-drop n zero es t = t
IsTrail-drop n (suc j) [] t = t
IsTrail-drop n (suc j) (e ∷ es) t = IsTrail-drop n j es t.2

LevelOk-grown : (slots : List (Option Kept)) (pending : List ℕ) (n m : ℕ) (es : List Entry) (mark : Mark) → IsTrail n es → LevelOk slots pending n es mark → LevelOk slots pending (n + m) es mark
LevelOk-grown slots pending n m es mark t h = record {
  guard = λ id k at. elim (h.guard id k at) [
    | inl waits ↦ inl waits
    | inr w ↦ inr (WatchOk-same (SameValues-grown n m (older mark.head es) (IsTrail-drop n (length es - mark.head) es t)) (SameValues-grown n m es t) w)
  ];
  head_in = h.head_in;
  done_in = h.done_in;
}

IsWatched-grown : (slots : List (Option Kept)) (lists : List (List Watcher)) (pending : List ℕ) (n m : ℕ) (es : List Entry) (marks : List Mark) (top : Mark) → IsTrail n es → IsWatched slots lists pending n es marks top → IsWatched slots lists pending (n + m) es marks top
IsWatched-grown slots lists pending n m es marks top t h = record {
  now = LevelOk-grown slots pending n m es top t h.now;
  below = record {
    levels = h.below.levels;
    lower = λ i d below. LevelOk-grown slots pending n m (back i es) (get_or marks i d) (IsTrail-back n i es t) (h.below.lower i d below);
    order = h.below.order;
    rising = h.below.rising;
  };
  listed = h.listed;
}

pub IsWatchStore-grown : (slots : List (Option Kept)) (lists : List (List Watcher)) (empties pending : List ℕ) (n m : ℕ) (es : List Entry) (marks : List Mark) (top : Mark) (room : ℕ) → IsTrail n es → 2 * m ≤ length lists → m ≤ room → IsWatchStore slots lists empties pending n es marks top room → IsWatchStore slots lists empties pending (max n m) es marks top room
IsWatchStore-grown slots lists empties pending n m es marks top room t lists_fit levels_fit s =
    let e : max n m ≡ n + (m - n) = omega arith in
    record {
      store = IsStore-grown (clauses_of slots) es n m t s.store;
      watched = subst (λ x. IsWatched slots lists pending x es marks top) (sym e) (IsWatched-grown slots lists pending n (m - n) es marks top t s.watched);
      room = let q = s.room in omega arith;
      levels_fit = let q = s.levels_fit in omega arith;
      empties_in = s.empties_in;
    }

-- the empty store

pub IsWatchStore-new : (room : ℕ) → IsWatchStore [] [] [] [] 0 [] [] (record { head = 0; done = 0 }) room
IsWatchStore-new room = record {
  store = record {
    within = λ id c at. cc;
    ascending = λ id c at. cc;
    reasons = tt;
  };
  watched = record {
    now = record { guard = λ id k at. cc; head_in = omega arith; done_in = omega arith };
    below = record {
      levels = refl;
      lower = λ i d below. absurd (omega arith);
      order = λ i d below. absurd (omega arith);
      rising = λ i j d before below. absurd (omega arith);
    };
    listed = λ id k at. cc;
  };
  room = omega arith;
  levels_fit = omega arith;
  empties_in = λ id k at. cc;
}

-- the lists of the literals of a clause are there
pub codes_from_within : (c : List Lit) (n : ℕ) (lists : List (List Watcher)) → IsWithin n c → 2 * n ≤ length lists → (i : ℕ) (d : Lit) → i < length c → code (get_or c i d) < length lists
codes_from_within c n lists w room i d below = let low = w i d below in let q = code-le (get_or c i d) in omega (arith, low, q)
