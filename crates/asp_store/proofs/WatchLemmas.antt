-- What keeps the watched places well.
use Rattle.std.proofs.Common.{◌≡◌, ℕ, suc, ◌+◌, ◌-◌, ◌<◌, ◌≤◌, ◌≢◌, ◌⊎◌, inl, inr, ◌++◌, Bool, true, false, not, List, [], ◌∷◌, length, Option, Some, None, get_or, set, take, drop, refl, ap, sym, ◌∙◌, subst, arith, length-append, length-set}
use Rattle.std.specs.List.{Contains}
use Rattle.std.proofs.lemmas.List.Elements.{Contains-get_or}
use Rattle.std.proofs.lemmas.Bool.{cases_eq, cases_lt}
use Rattle.std.proofs.lemmas.List.{get_or-set_same, get_or-set_other, get_or_append_left, get_or_push, get_or-take, get_or_default, length-take-le}
use Rattle.theory_form.proofs.LookLemmas.{TrueAt-read, FalseAt-read, FreeAt-read}
use Rattle.theory_form.specs.declared.literals.Lit.{Lit}
use Rattle.theory_form.specs.Truth.{value_of, IsFreeIn, IsTrueIn, TrueAt, FreeAt, FalseAt, IsUnitAt, TwoFree, IsSettled}
use Rattle.asp_trail.specs.declared.Entry.{Entry}
use Rattle.asp_trail.specs.declared.Why.{Why}
use Rattle.asp_trail.specs.declared.Why.TheVariants.{Decision, Clause}
use Rattle.asp_trail.specs.Trail.{values_of, level_of, level_after, back}
use Rattle.asp_trail.proofs.TrailLemmas.{back-done, back-step}
use Rattle.asp_store.specs.declared.choices.Kept.{Kept}
use Rattle.asp_store.specs.declared.visits.Mark.{Mark}
use Rattle.asp_store.specs.declared.watches.Watcher.{Watcher}
use Rattle.asp_store.specs.Watch.{kept_at, list_at, code, HasTrue, HasWatcher, InFrom, older, WatchOk, Listed, LevelOk, IsWatched, LowerOk, IsBelow, ChoiceOk, IsPlaced, Grows, Rewatched, AllListed}
use Rattle.asp_store.specs.declared.choices.Choice.TheVariants.{Stay, Watch, Assign}

-- what is true stays true under another assignment
abbrev pub KeepsTrue : List (Option Bool) → List (Option Bool) → Type 0
KeepsTrue a b = (l : Lit) → IsTrueIn a l → IsTrueIn b l

pub TrueAt-kept : {a b : List (Option Bool)} {c : List Lit} {i : ℕ} → KeepsTrue a b → TrueAt a c i → TrueAt b c i
TrueAt-kept {c = c} {i = i} s h = record { within = h.within; holds = λ d. s (get_or c i d) (h.holds d) }

pub HasTrue-kept : {a b : List (Option Bool)} {c : List Lit} → KeepsTrue a b → HasTrue a c → HasTrue b c
HasTrue-kept s h = (h.0, TrueAt-kept s h.1)

pub WatchOk-kept : {p t u : List (Option Bool)} {k : Kept} → KeepsTrue t u → WatchOk p t k → WatchOk p u k
WatchOk-kept s h = record {
  within_first = h.within_first;
  within_second = h.within_second;
  apart = elim h.apart [ inl a ↦ inl a | inr b ↦ inr (HasTrue-kept s b) ];
  first = λ f. HasTrue-kept s (h.first f);
  second = λ f. HasTrue-kept s (h.second f);
}

-- where a literal is true, the watched places do not matter
pub WatchOk-true : (p t : List (Option Bool)) (k : Kept) → k.first < length k.clause → k.second < length k.clause → HasTrue t k.clause → WatchOk p t k
WatchOk-true p t k f s h = record { within_first = f; within_second = s; apart = inr h; first = λ g. h; second = λ g. h }

-- one more entry keeps what is true
pub KeepsTrue-entry : (n : ℕ) (es : List Entry) (e : Entry) → IsFreeIn (values_of n es) e.lit → KeepsTrue (values_of n es) (values_of n (e ∷ es))
KeepsTrue-entry n es e free l h = elim (cases_eq l.var.0 e.lit.var.0) [
  | inl same ↦ absurd (let g : value_of (values_of n es) l.var.0 ≡ None = ap (λ v. value_of (values_of n es) v) same ∙ free in cc)
  | inr other ↦ get_or-set_other (values_of n es) e.lit.var.0 l.var.0 (Some e.lit.yes) None other ∙ h
]

pub older-entry : (h : ℕ) (es : List Entry) (e : Entry) → h ≤ length es → older h (e ∷ es) ≡ older h es
older-entry h es e le =
    let q : length (e ∷ es) - h ≡ suc (length es - h) = omega arith in
    ap (λ k. drop k (e ∷ es)) q

-- one more entry on a level
pub LevelOk-entry : (slots : List (Option Kept)) (pending : List ℕ) (n : ℕ) (es : List Entry) (m : Mark) (e : Entry) → IsFreeIn (values_of n es) e.lit → LevelOk slots pending n es m → LevelOk slots pending n (e ∷ es) m
LevelOk-entry slots pending n es m e free h = record {
  guard = λ id k at. elim (h.guard id k at) [
    | inl waits ↦ inl waits
    | inr w ↦ inr (subst (λ q. WatchOk (values_of n q) (values_of n (e ∷ es)) k) (sym (older-entry m.head es e h.head_in)) (WatchOk-kept (KeepsTrue-entry n es e free) w))
  ];
  head_in = let q = h.head_in in omega arith;
  done_in = h.done_in;
}

-- an entry that is implied
pub LowerOk-implied : (slots : List (Option Kept)) (pending : List ℕ) (n : ℕ) (es : List Entry) (marks : List Mark) (done : ℕ) (e : Entry) → level_of (e ∷ es) ≡ level_of es → LowerOk slots pending n es marks done → LowerOk slots pending n (e ∷ es) marks done
LowerOk-implied slots pending n es marks done e level h = record {
  levels = h.levels ∙ sym level;
  lower = λ i d below.
      let up : i < level_of (e ∷ es) = rw (level, ← h.levels) below in
      subst (λ q. LevelOk slots pending n q (get_or marks i d)) (sym (back-step i e es up)) (h.lower i d below);
  order = h.order;
  rising = h.rising;
}

pub IsWatched-implied : (slots : List (Option Kept)) (lists : List (List Watcher)) (pending : List ℕ) (n : ℕ) (es : List Entry) (marks : List Mark) (top : Mark) (e : Entry) → IsFreeIn (values_of n es) e.lit → level_of (e ∷ es) ≡ level_of es → IsWatched slots lists pending n es marks top → IsWatched slots lists pending n (e ∷ es) marks top
IsWatched-implied slots lists pending n es marks top e free level h = record {
  now = LevelOk-entry slots pending n es top e free h.now;
  below = LowerOk-implied slots pending n es marks top.done e level h.below;
  listed = h.listed;
}

-- a decision, with the mark of the level that was the top one
pub IsWatched-decided : (slots : List (Option Kept)) (lists : List (List Watcher)) (pending : List ℕ) (n : ℕ) (es : List Entry) (marks : List Mark) (top : Mark) (e : Entry) → IsFreeIn (values_of n es) e.lit → level_of (e ∷ es) ≡ level_of es + 1 → IsWatched slots lists pending n es marks top → IsWatched slots lists pending n (e ∷ es) (marks ++ top ∷ []) top
IsWatched-decided slots lists pending n es marks top e free level h = record {
  now = LevelOk-entry slots pending n es top e free h.now;
  below = record {
    levels = length-append marks (top ∷ []) ∙ let q = h.below.levels in omega arith;
    lower = λ i d below. elim (cases_lt i (length marks)) [
      | inl low ↦
          let up : i < level_of (e ∷ es) = let q = h.below.levels in omega arith in
          rw (get_or_append_left marks (top ∷ []) d i low)
          (subst (λ q. LevelOk slots pending n q (get_or marks i d)) (sym (back-step i e es up)) (h.below.lower i d low))
      | inr high ↦
          let len = length-append marks (top ∷ []) in
          let same : i ≡ length marks = omega arith in
          let up : i < level_of (e ∷ es) = let q = h.below.levels in omega arith in
          let all : back i es ≡ es = back-done i es (let q = h.below.levels in omega arith) in
          rw (get_or_push marks top d i (sym same))
          (subst (λ q. LevelOk slots pending n q top) (sym (back-step i e es up ∙ all)) h.now)
    ];
    order = λ i d below. elim (cases_lt i (length marks)) [
      | inl low ↦ rw (get_or_append_left marks (top ∷ []) d i low) (h.below.order i d low)
      | inr high ↦
          let len = length-append marks (top ∷ []) in
          let same : i ≡ length marks = omega arith in
          rw (get_or_push marks top d i (sym same)) (omega arith)
    ];
    rising = λ i j d before below. elim (cases_lt j (length marks)) [
      | inl low ↦
          rw (get_or_append_left marks (top ∷ []) d j low)
          (rw (get_or_append_left marks (top ∷ []) d i (omega arith)) (h.below.rising i j d before low))
      | inr high ↦
          let len = length-append marks (top ∷ []) in
          let same : j ≡ length marks = omega arith in
          let low : i < length marks = omega arith in
          rw (get_or_push marks top d j (sym same)) (rw (get_or_append_left marks (top ∷ []) d i low) (h.below.order i d low))
    ];
  };
  listed = h.listed;
}

-- going back

level_after-le : (w : Why) (m : ℕ) → level_after w m ≤ suc m
level_after-le Decision m = omega arith
level_after-le (Clause id) m = omega arith

pub back-back : (i k : ℕ) (es : List Entry) → i ≤ k → back i (back k es) ≡ back i es
back-back i k [] h = refl
back-back i k (e ∷ es) h = elim (cases_lt k (level_of (e ∷ es))) [
  | inl above ↦ ap (back i) (back-step k e es above) ∙ (back-back i k es h ∙ sym (back-step i e es (omega arith)))
  | inr within ↦ ap (back i) (back-done k (e ∷ es) within)
]

pub level-back : (k : ℕ) (es : List Entry) → k ≤ level_of es → level_of (back k es) ≡ k
level-back k [] h = omega arith
level-back k (e ∷ es) h = elim (cases_lt k (level_of (e ∷ es))) [
  | inl above ↦ ap level_of (back-step k e es above) ∙ level-back k es (let q = level_after-le e.why (level_of es) in omega arith)
  | inr within ↦ ap level_of (back-done k (e ∷ es) within) ∙ omega arith
]

pub IsWatched-back : (slots : List (Option Kept)) (lists : List (List Watcher)) (pending : List ℕ) (n : ℕ) (es : List Entry) (marks : List Mark) (top : Mark) (k : ℕ) (d : Mark) → k < length marks → IsWatched slots lists pending n es marks top → IsWatched slots lists pending n (back k es) (take k marks) (get_or marks k d)
IsWatched-back slots lists pending n es marks top k d below h =
    let len : length (take k marks) ≡ k = length-take-le k marks (omega arith) in
    record {
      now = h.below.lower k d below;
      below = record {
        levels = len ∙ sym (level-back k es (let q = h.below.levels in omega arith));
        lower = λ i e low.
            let low' : i < k = omega (arith, len) in
            rw (get_or-take k marks i e low')
            (subst (λ q. LevelOk slots pending n q (get_or marks i e)) (sym (back-back i k es (omega arith))) (h.below.lower i e (omega arith)));
        order = λ i e low.
            let low' : i < k = omega (arith, len) in
            rw (get_or-take k marks i e low') (rw (get_or_default marks k d e below) (h.below.rising i k e low' below));
        rising = λ i j e before low.
            let low' : j < k = omega (arith, len) in
            rw (get_or-take k marks j e low') (rw (get_or-take k marks i e (omega arith)) (h.below.rising i j e before (omega arith)));
      };
      listed = h.listed;
    }

-- clauses in their lists

pub Listed-grows : {lists lists' : List (List Watcher)} {id : ℕ} {k : Kept} → Grows lists lists' → Listed lists id k → Listed lists' id k
Listed-grows {id = id} {k = k} g h = record {
  first = λ d within. g.kept (code (get_or k.clause k.first d)) id k.clause (h.first d within);
  second = λ d within. g.kept (code (get_or k.clause k.second d)) id k.clause (h.second d within);
}

pub AllListed-changed : (slots next : List (Option Kept)) (lists lists' : List (List Watcher)) (id : ℕ) (k : Kept) → kept_at next id ≡ Some k → ((j : ℕ) → j ≢ id → kept_at next j ≡ kept_at slots j) → Grows lists lists' → IsPlaced k → Listed lists' id k → AllListed slots lists → AllListed next lists'
AllListed-changed slots next lists lists' id k is_now others grows placed listed h j x at = elim (cases_eq j id) [
  | inl same ↦
      let e : Some k ≡ Some x = sym is_now ∙ (ap (λ i. kept_at next i) (sym same) ∙ at) in
      let f : k ≡ x = cc in
      subst (λ q. IsPlaced q × Listed lists' j q) f (subst (λ i. IsPlaced k × Listed lists' i k) (sym same) (placed, listed))
  | inr other ↦ let w = h j x (sym (others j other) ∙ at) in (w.0, Listed-grows grows w.1)
]

-- a clause that is added waits on every level

pub LevelOk-add : (slots next : List (Option Kept)) (pending : List ℕ) (n : ℕ) (es : List Entry) (m : Mark) (id : ℕ) → ((j : ℕ) → j ≢ id → kept_at next j ≡ kept_at slots j) → LevelOk slots pending n es m → LevelOk next (pending ++ id ∷ []) n es m
LevelOk-add slots next pending n es m id others h =
    let len = length-append pending (id ∷ []) in
    record {
      guard = λ j k at. elim (cases_eq j id) [
        | inl same ↦ inl (length pending, h.done_in, omega (arith, len), get_or_push pending id 0 (length pending) refl ∙ sym same)
        | inr other ↦ elim (h.guard j k (sym (others j other) ∙ at)) [
          | inl waits ↦ inl (waits.0, waits.1, let q = waits.2 in omega (arith, len), get_or_append_left pending (id ∷ []) 0 waits.0 waits.2 ∙ waits.3)
          | inr watched ↦ inr watched
        ]
      ];
      head_in = h.head_in;
      done_in = let q = h.done_in in omega (arith, len);
    }

pub IsWatched-add : (slots next : List (Option Kept)) (lists : List (List Watcher)) (pending : List ℕ) (n : ℕ) (es : List Entry) (marks : List Mark) (top : Mark) (lists' : List (List Watcher)) (id : ℕ) (k : Kept) → kept_at next id ≡ Some k → ((j : ℕ) → j ≢ id → kept_at next j ≡ kept_at slots j) → Grows lists lists' → IsPlaced k → Listed lists' id k → IsWatched slots lists pending n es marks top → IsWatched next lists' (pending ++ id ∷ []) n es marks top
IsWatched-add slots next lists pending n es marks top lists' id k is_now others grows placed listed h = record {
  now = LevelOk-add slots next pending n es top id others h.now;
  below = record {
    levels = h.below.levels;
    lower = λ i d below. LevelOk-add slots next pending n (back i es) (get_or marks i d) id others (h.below.lower i d below);
    order = h.below.order;
    rising = h.below.rising;
  };
  listed = AllListed-changed slots next lists lists' id k is_now others grows placed listed h.listed;
}

-- a clause that is taken out

pub LevelOk-forget : (slots next : List (Option Kept)) (pending : List ℕ) (n : ℕ) (es : List Entry) (m : Mark) (id : ℕ) → kept_at next id ≡ None → ((j : ℕ) → j ≢ id → kept_at next j ≡ kept_at slots j) → LevelOk slots pending n es m → LevelOk next pending n es m
LevelOk-forget slots next pending n es m id gone others h = record {
  guard = λ j k at. elim (cases_eq j id) [
    | inl same ↦ absurd (let g : kept_at next j ≡ None = ap (λ i. kept_at next i) same ∙ gone in cc)
    | inr other ↦ h.guard j k (sym (others j other) ∙ at)
  ];
  head_in = h.head_in;
  done_in = h.done_in;
}

pub IsWatched-forget : (slots next : List (Option Kept)) (lists : List (List Watcher)) (pending : List ℕ) (n : ℕ) (es : List Entry) (marks : List Mark) (top : Mark) (id : ℕ) → kept_at next id ≡ None → ((j : ℕ) → j ≢ id → kept_at next j ≡ kept_at slots j) → IsWatched slots lists pending n es marks top → IsWatched next lists pending n es marks top
IsWatched-forget slots next lists pending n es marks top id gone others h = record {
  now = LevelOk-forget slots next pending n es top id gone others h.now;
  below = record {
    levels = h.below.levels;
    lower = λ i d below. LevelOk-forget slots next pending n (back i es) (get_or marks i d) id gone others (h.below.lower i d below);
    order = h.below.order;
    rising = h.below.rising;
  };
  listed = λ j k at. elim (cases_eq j id) [
    | inl same ↦ absurd (let g : kept_at next j ≡ None = ap (λ i. kept_at next i) same ∙ gone in cc)
    | inr other ↦ h.listed j k (sym (others j other) ∙ at)
  ];
}

-- the end of propagation

truth_cases : (o : Option Bool) (b : Bool) → (o ≡ Some b) ⊎ ((o ≡ Some (not b)) ⊎ (o ≡ None))
truth_cases None b = inr (inr refl)
truth_cases (Some true) true = inl refl
truth_cases (Some true) false = inr (inl refl)
truth_cases (Some false) true = inr (inl refl)
truth_cases (Some false) false = inl refl

pub TruthAt-cases : (a : List (Option Bool)) (c : List Lit) (i : ℕ) (d : Lit) → i < length c → TrueAt a c i ⊎ (FalseAt a c i ⊎ FreeAt a c i)
TruthAt-cases a c i d within = elim (truth_cases (value_of a (get_or c i d).var.0) (get_or c i d).yes) [
  | inl t ↦ inl (TrueAt-read a c i d within t)
  | inr f ↦ elim f [ inl g ↦ inr (inl (FalseAt-read a c i d within g)) | inr g ↦ inr (inr (FreeAt-read a c i d within g)) ]
]

TwoFree-cases : (a : List (Option Bool)) (c : List Lit) (i j : ℕ) → i ≢ j → FreeAt a c i → FreeAt a c j → IsSettled a c
TwoFree-cases a c i j apart f g = elim (cases_lt i j) [
  | inl less ↦ inr (i, j, record { before = less; first = f; second = g })
  | inr more ↦ inr (j, i, record { before = omega arith; first = g; second = f })
]

pub IsSettled-watched : (a : List (Option Bool)) (k : Kept) (d : Lit) → WatchOk a a k → IsSettled a k.clause
IsSettled-watched a k d w = elim (TruthAt-cases a k.clause k.first d w.within_first) [
  | inl t ↦ inl (k.first, t)
  | inr f ↦ elim f [
    | inl g ↦ inl (w.first g)
    | inr g ↦ elim (TruthAt-cases a k.clause k.second d w.within_second) [
      | inl t ↦ inl (k.second, t)
      | inr f' ↦ elim f' [
        | inl g' ↦ inl (w.second g')
        | inr g' ↦ elim w.apart [ inl ne ↦ TwoFree-cases a k.clause k.first k.second ne g g' | inr t ↦ inl t ]
      ]
    ]
  ]
]

pub older-all : (h : ℕ) (es : List Entry) → h ≡ length es → older h es ≡ es
older-all h es e = let z : length es - h ≡ 0 = omega arith in ap (λ k. drop k es) z

pub settled_at_end : (slots : List (Option Kept)) (pending : List ℕ) (n : ℕ) (es : List Entry) (m : Mark) → m.head ≡ length es → m.done ≡ length pending → LevelOk slots pending n es m → (id : ℕ) (k : Kept) → kept_at slots id ≡ Some k → (d : Lit) → IsSettled (values_of n es) k.clause
settled_at_end slots pending n es m all none h id k at d = elim (h.guard id k at) [
  | inl waits ↦ absurd (let p = waits.1 in let q = waits.2 in omega arith)
  | inr w ↦ IsSettled-watched (values_of n es) k d (subst (λ q. WatchOk (values_of n q) (values_of n es) k) (older-all m.head es all) w)
]

-- choosing places

some_not_self : (b : Bool) → b ≡ not b → ⊥
some_not_self true e = cc
some_not_self false e = cc

pub true_false : {a : List (Option Bool)} {c : List Lit} {i : ℕ} → (d : Lit) → TrueAt a c i → FalseAt a c i → ⊥
true_false {a} {c} {i} d t f = some_not_self (get_or c i d).yes (let p = t.holds d in let q = f.holds d in let e : Some (get_or c i d).yes ≡ Some (not (get_or c i d).yes) = sym p ∙ q in cc)

pub free_false : {a : List (Option Bool)} {c : List Lit} {i : ℕ} → (d : Lit) → FreeAt a c i → FalseAt a c i → ⊥
free_false {a} {c} {i} d t f = let p = t.holds d in let q = f.holds d in let e : None ≡ Some (not (get_or c i d).yes) = sym p ∙ q in cc

pub true_free : {a : List (Option Bool)} {c : List Lit} {i : ℕ} → (d : Lit) → TrueAt a c i → FreeAt a c i → ⊥
true_free {a} {c} {i} d t f = let p = t.holds d in let q = f.holds d in let e : None ≡ Some (get_or c i d).yes = sym q ∙ p in cc

pub FalseAt-below : {p t now : List (Option Bool)} {c : List Lit} {i : ℕ} → IsBelow p t now → FalseAt p c i → FalseAt now c i
FalseAt-below {c = c} {i = i} s h = record { within = h.within; holds = λ d. s.falses (get_or c i d) (h.holds d) }

pub TrueAt-below : {p t now : List (Option Bool)} {c : List Lit} {i : ℕ} → IsBelow p t now → TrueAt t c i → TrueAt now c i
TrueAt-below {c = c} {i = i} s h = record { within = h.within; holds = λ d. s.trues (get_or c i d) (h.holds d) }

pub Stay-free : (a : List (Option Bool)) (k : Kept) (d : Lit) → FreeAt a k.clause k.first → FreeAt a k.clause k.second → k.first ≢ k.second → WatchOk a a k
Stay-free a k d f s ne = record {
  within_first = f.within;
  within_second = s.within;
  apart = inl ne;
  first = λ g. absurd (free_false d f g);
  second = λ g. absurd (free_false d s g);
}

-- a literal that is true now
pub ChoiceOk-true : (a : List (Option Bool)) (k : Kept) (j : ℕ) → k.first < length k.clause → k.second < length k.clause → TrueAt a k.clause j → ChoiceOk a k (Stay j)
ChoiceOk-true a k j f s t = (WatchOk-true a a k f s (j, t), t.within)

pub HasTrue-below : {p t now : List (Option Bool)} {c : List Lit} → IsBelow p t now → HasTrue t c → HasTrue now c
HasTrue-below s h = (h.0, TrueAt-below s h.1)

pub ChoiceOk-free : (a : List (Option Bool)) (k : Kept) (d : Lit) (i j : ℕ) → i ≢ j → FreeAt a k.clause i → FreeAt a k.clause j → ChoiceOk a k (Watch i j)
ChoiceOk-free a k d i j apart f g = (
  Stay-free a (record k { first = i; second = j }) d f g apart,
  λ p u under w. record {
    within_first = f.within;
    within_second = g.within;
    apart = inl apart;
    first = λ h. absurd (free_false d f (FalseAt-below under h));
    second = λ h. absurd (free_false d g (FalseAt-below under h));
  },
  (inr f, inr g),
)

pub ChoiceOk-wide : (a : List (Option Bool)) (k : Kept) (d : Lit) (i j : ℕ) → TwoFree a k.clause i j → ChoiceOk a k (Watch i j)
ChoiceOk-wide a k d i j h = ChoiceOk-free a k d i j (let q = h.before in λ e. omega arith) h.first h.second

-- one of two places without a value
pub FreeAt-one : (a : List (Option Bool)) (c : List Lit) (i j r : ℕ) → TwoFree a c i j → (r ≡ i) ⊎ (r ≡ j) → FreeAt a c r
FreeAt-one a c i j r h one = elim one [ inl e ↦ subst (FreeAt a c) (sym e) h.first | inr e ↦ subst (FreeAt a c) (sym e) h.second ]

-- a clause that is unit has no true literal
unit_not_true : (a : List (Option Bool)) (c : List Lit) (d : Lit) (i : ℕ) → IsUnitAt a c i → HasTrue a c → ⊥
unit_not_true a c d i u h = elim (cases_eq h.0 i) [
  | inl same ↦ true_free d h.1 (subst (FreeAt a c) (sym same) u.free)
  | inr other ↦ true_false d h.1 (u.rest h.0 h.1.within other)
]

pub ChoiceOk-single : (a : List (Option Bool)) (k : Kept) (d : Lit) (i : ℕ) → k.second < length k.clause → i ≢ k.second → IsUnitAt a k.clause i → ChoiceOk a k (Assign i i k.second)
ChoiceOk-single a k d i s other u = (
  u,
  inl refl,
  u.free.within,
  s,
  λ p t under w. record {
    within_first = u.free.within;
    within_second = s;
    apart = inl other;
    first = λ g. absurd (free_false d u.free (FalseAt-below under g));
    second = λ g. absurd (unit_not_true a k.clause d i u (HasTrue-below under (w.second g)));
  },
  (inr u.free, inl refl),
)

pub ChoiceOk-same : (a : List (Option Bool)) (k : Kept) (i : ℕ) → k.first < length k.clause → k.second < length k.clause → i ≡ k.second → IsUnitAt a k.clause i → ChoiceOk a k (Assign i k.first k.second)
ChoiceOk-same a k i f s same u = (u, inr (sym same), f, s, (λ p t under w. w), (inl refl, inl refl))

-- a clause with new places

pub LevelOk-changed : (slots next : List (Option Kept)) (lists lists' : List (List Watcher)) (pending : List ℕ) (n : ℕ) (es : List Entry) (m : Mark) (id : ℕ) (k k' : Kept) → Rewatched slots next lists lists' id k k' → (WatchOk (values_of n (older m.head es)) (values_of n es) k → WatchOk (values_of n (older m.head es)) (values_of n es) k') → LevelOk slots pending n es m → LevelOk next pending n es m
LevelOk-changed slots next lists lists' pending n es m id k k' c good h = record {
  guard = λ j x at. elim (cases_eq j id) [
    | inl same ↦
        let e : Some k' ≡ Some x = sym c.is_now ∙ (ap (λ i. kept_at next i) (sym same) ∙ at) in
        let f : k' ≡ x = cc in
        elim (h.guard id k c.was) [
          | inl waits ↦ inl (subst (λ i. InFrom pending m.done i) (sym same) waits)
          | inr w ↦ inr (subst (λ q. WatchOk (values_of n (older m.head es)) (values_of n es) q) f (good w))
        ]
    | inr other ↦ h.guard j x (sym (c.others j other) ∙ at)
  ];
  head_in = h.head_in;
  done_in = h.done_in;
}

-- lists that grow

pub Grows-same : (lists : List (List Watcher)) → Grows lists lists
Grows-same lists = record { len = refl; kept = λ x id c h. h }

pub Grows-trans : (a b c : List (List Watcher)) → Grows a b → Grows b c → Grows a c
Grows-trans a b c g h = record {
  len = h.len ∙ g.len;
  kept = λ x id cl w. h.kept x id cl (g.kept x id cl w);
}

pub HasWatcher-pushed : (xs : List Watcher) (w : Watcher) (c : List Lit) → Contains c w.blocker → HasWatcher (xs ++ w ∷ []) w.key c
HasWatcher-pushed xs w c has =
    let len = length-append xs (w ∷ []) in (
      length xs,
      record {
        within = omega (arith, len);
        key = λ d. ap (λ (x : Watcher). x.key) (get_or_push xs w d (length xs) refl);
        blocker = λ d. subst (λ (x : Watcher). Contains c x.blocker) (sym (get_or_push xs w d (length xs) refl)) has;
      },
    )

HasWatcher-before : (xs : List Watcher) (w : Watcher) (id : ℕ) (c : List Lit) → HasWatcher xs id c → HasWatcher (xs ++ w ∷ []) id c
HasWatcher-before xs w id c h =
    let len = length-append xs (w ∷ []) in
    let low = h.1.within in (
      h.0,
      record {
        within = omega (arith, len, low);
        key = λ d. ap (λ (x : Watcher). x.key) (get_or_append_left xs (w ∷ []) d h.0 low) ∙ h.1.key d;
        blocker = λ d. subst (λ (x : Watcher). Contains c x.blocker) (sym (get_or_append_left xs (w ∷ []) d h.0 low)) (h.1.blocker d);
      },
    )

pub Grows-push : (lists : List (List Watcher)) (at : ℕ) (w : Watcher) → at < length lists → Grows lists (set lists at (list_at lists at ++ w ∷ []))
Grows-push lists at w within =
    let more : List Watcher = list_at lists at ++ w ∷ [] in
    record {
      len = length-set lists at more;
      kept = λ x id c h. elim (cases_eq x at) [
        | inl same ↦
            subst (λ k. HasWatcher (list_at (set lists at more) k) id c) (sym same)
            (subst (λ xs. HasWatcher xs id c) (sym (get_or-set_same lists at more [] within)) (HasWatcher-before (list_at lists at) w id c (subst (λ k. HasWatcher (list_at lists k) id c) same h)))
        | inr other ↦ subst (λ xs. HasWatcher xs id c) (sym (get_or-set_other lists at x more [] other)) h
      ];
    }

pub HasWatcher-listed : (lists : List (List Watcher)) (at : ℕ) (w : Watcher) (c : List Lit) → at < length lists → Contains c w.blocker → HasWatcher (list_at (set lists at (list_at lists at ++ w ∷ [])) at) w.key c
HasWatcher-listed lists at w c within has =
    subst (λ xs. HasWatcher xs w.key c) (sym (get_or-set_same lists at (list_at lists at ++ w ∷ []) [] within)) (HasWatcher-pushed (list_at lists at) w c has)

pub push_other : (lists : List (List Watcher)) (at x : ℕ) (w : Watcher) → x ≢ at → list_at (set lists at (list_at lists at ++ w ∷ [])) x ≡ list_at lists x
push_other lists at x w other = get_or-set_other lists at x (list_at lists at ++ w ∷ []) [] other

pub contains_place : (c : List Lit) (i : ℕ) (d : Lit) → i < length c → Contains c (get_or c i d)
contains_place c i d within = Contains-get_or c i d within
