-- A visit of the watchers of a literal that became false.
use Rattle.std.proofs.Common.{◌≡◌, ℕ, ◌+◌, ◌<◌, ◌≤◌, ◌≢◌, inl, inr, Bool, not, List, length, Option, Some, None, get_or, ap, sym, ◌∙◌, subst, arith}
use Rattle.std.proofs.lemmas.Bool.{cases_eq}
use Rattle.std.proofs.lemmas.List.{get_or_default}
use Rattle.theory_form.specs.declared.literals.Lit.{Lit}
use Rattle.std.specs.List.{Contains}
use Rattle.theory_form.specs.Truth.{IsFalseIn, IsTrueIn}
use Rattle.asp_trail.specs.declared.Entry.{Entry}
use Rattle.asp_trail.specs.Trail.{values_of, IsTrail}
use Rattle.asp_store.proofs.StoreLemmas.{free_from_reason}
use Rattle.theory_form.proofs.LookLemmas.{FalseAt-read, TrueAt-read}
use Rattle.asp_store.specs.declared.choices.Kept.{Kept}
use Rattle.asp_store.specs.declared.visits.Mark.{Mark}
use Rattle.asp_store.specs.declared.watches.Watcher.{Watcher}
use Rattle.asp_store.specs.Store.{IsStore}
use Rattle.asp_store.specs.Watch.{kept_at, clauses_of, list_at, code, is_watcher, AreStable, HasTrue, HasWatcher, WatchOk, WatchesAt, LevelOk, IsWatched, AllListed, AllWatched, IsNext, IsPassed, IsVisited, GrewByOne, Examined, ExaminedIfThere, Moved}
use Rattle.asp_store.proofs.WatchLemmas.{KeepsTrue, KeepsTrue-entry, WatchOk-kept, WatchOk-true, LevelOk-changed, LevelOk-entry}
use Rattle.asp_store.proofs.LevelLemmas.{KeepsValues, KeepsValues-entry, IsBelow-top, WatchOk-less, LowerOk-examined, AllListed-examined, IsWatched-stays, Grows-equal, Moved-none, Moved-there}
use Rattle.asp_store.proofs.SweepLemmas.{length_passed, Moved-passed, IsWatched-passed}

-- a look at a clause keeps all levels well
pub IsWatched-examined : (s1 s2 : List (Option Kept)) (l1 l2 : List (List Watcher)) (pending : List ℕ) (n : ℕ) (e1 e2 : List Entry) (marks : List Mark) (top : Mark) (id : ℕ) → IsTrail n e1 → Examined s1 s2 l1 l2 n e1 e2 id → IsWatched s1 l1 pending n e1 marks top → IsWatched s2 l2 pending n e2 marks top
IsWatched-examined s1 s2 l1 l2 pending n e1 e2 marks top id t x h =
    let mid = LevelOk-changed s1 s2 l1 l2 pending n e1 top id x.before x.after x.changed (x.good _ _ (IsBelow-top n top.head e1 t)) h.now in
    record {
      now = elim x.grew [
        | inl same ↦ subst (λ q. LevelOk s2 pending n q top) (sym same) mid
        | inr g ↦ subst (λ q. LevelOk s2 pending n q top) (sym g.1) (LevelOk-entry s2 pending n e1 top g.0 (free_from_reason g.3) mid)
      ];
      below = LowerOk-examined s1 s2 l1 l2 pending n e1 e2 marks top.done id t x h.below;
      listed = AllListed-examined s1 s2 l1 l2 n e1 e2 id x h.listed;
    }

pub IsWatched-still : (s1 s2 : List (Option Kept)) (l1 l2 : List (List Watcher)) (pending : List ℕ) (n : ℕ) (e1 e2 : List Entry) (marks : List Mark) (top : Mark) (id : ℕ) → IsTrail n e1 → ExaminedIfThere s1 s2 l1 l2 n e1 e2 id → IsWatched s1 l1 pending n e1 marks top → IsWatched s2 l2 pending n e2 marks top
IsWatched-still s1 s2 l1 l2 pending n e1 e2 marks top id t x h = elim x [
  | inl same ↦ IsWatched-stays s1 s2 l1 l2 pending n e1 e2 marks top (same.1, same.3) (Grows-equal l1 l2 same.2) h
  | inr y ↦ IsWatched-examined s1 s2 l1 l2 pending n e1 e2 marks top id t y h
]

-- the beginning of a visit: a clause that does not stand in the list of the literal is watched well

WatchOk-next : (p p' t : List (Option Bool)) (l d : Lit) (k : Kept) → IsNext p p' t l → (code (get_or k.clause k.first d) ≢ code l) → (code (get_or k.clause k.second d) ≢ code l) → WatchOk p t k → WatchOk p' t k
WatchOk-next p p' t l d k n f s w = record {
  within_first = w.within_first;
  within_second = w.within_second;
  apart = w.apart;
  first = λ g. elim (n.next (get_or k.clause k.first d) (g.holds d)) [
    | inl before ↦ w.first (FalseAt-read p k.clause k.first d w.within_first before)
    | inr same ↦ absurd (f (ap code same))
  ];
  second = λ g. elim (n.next (get_or k.clause k.second d) (g.holds d)) [
    | inl before ↦ w.second (FalseAt-read p k.clause k.second d w.within_second before)
    | inr same ↦ absurd (s (ap code same))
  ];
}

-- a watcher in the list of this literal
watcher_here : (lists : List (List Watcher)) (x : ℕ) (l : Lit) (id : ℕ) (c : List Lit) → x ≡ code l → HasWatcher (list_at lists x) id c → (i : ℕ) × (0 ≤ i) × WatchesAt (list_at lists (code l)) i id c
watcher_here lists x l id c e h = let w = subst (λ k. HasWatcher (list_at lists k) id c) e h in (w.0, omega arith, w.1)

pub IsVisited-none : (slots : List (Option Kept)) (lists : List (List Watcher)) (p p' t : List (Option Bool)) (l d : Lit) → AllListed slots lists → IsNext p p' t l → AllWatched slots p t → IsVisited slots (list_at lists (code l)) p p' t 0
IsVisited-none slots lists p p' t l d listed n h = record {
  guard = λ id k at.
      let w = h id k at in
      let in_lists = (listed id k at).1 in
      elim (cases_eq (code (get_or k.clause k.first d)) (code l)) [
        | inl same ↦ let x = watcher_here lists _ l id k.clause same (in_lists.first d w.within_first) in inr (w, x.0, x.1, x.2)
        | inr f ↦ elim (cases_eq (code (get_or k.clause k.second d)) (code l)) [
          | inl same ↦ let x = watcher_here lists _ l id k.clause same (in_lists.second d w.within_second) in inr (w, x.0, x.1, x.2)
          | inr s ↦ inl (WatchOk-next p p' t l d k n f s w)
        ]
      ];
  below = n.below;
}

-- one watcher was looked at

grown_keeps : (s : List (Option Kept)) (n id : ℕ) (e1 e2 : List Entry) → GrewByOne s n id e1 e2 → KeepsTrue (values_of n e1) (values_of n e2) × KeepsValues (values_of n e1) (values_of n e2)
grown_keeps s n id e1 e2 g = elim g [
  | inl same ↦ subst (λ q. KeepsTrue (values_of n e1) (values_of n q) × KeepsValues (values_of n e1) (values_of n q)) (sym same) (λ l h. h, λ v y h. h)
  | inr x ↦
      subst (λ q. KeepsTrue (values_of n e1) (values_of n q) × KeepsValues (values_of n e1) (values_of n q)) (sym x.1)
      (KeepsTrue-entry n e1 x.0 (free_from_reason x.3), KeepsValues-entry n e1 x.0 (free_from_reason x.3))
]

-- a literal of the clause is true
true_in : (a : List (Option Bool)) (c : List Lit) (l : Lit) → Contains c l → IsTrueIn a l → HasTrue a c
true_in a c l has t = (has.0, TrueAt-read a c has.0 l has.1 (subst (IsTrueIn a) (sym has.2) t))

-- a watcher whose blocking literal is true
pub IsVisited-blocked : (slots : List (Option Kept)) (list : List Watcher) (p p' t : List (Option Bool)) (i : ℕ) (d : Watcher) → IsTrueIn t (get_or list i d).blocker → IsVisited slots list p p' t i → IsVisited slots list p p' t (i + 1)
IsVisited-blocked slots list p p' t i d is_true h = record {
  guard = λ id k at. elim (h.guard id k at) [
    | inl w ↦ inl w
    | inr w ↦ elim (cases_eq w.1 i) [
      | inl same ↦
          let has : Contains k.clause (get_or list i d).blocker = subst (λ m. Contains k.clause (get_or list m d).blocker) same (w.3.blocker d) in
          inl (WatchOk-true p' t k w.0.within_first w.0.within_second (true_in t k.clause (get_or list i d).blocker has is_true))
      | inr other ↦ inr (w.0, w.1, (let le = w.2 in omega (arith, le, other)), w.3)
    ]
  ];
  below = h.below;
}

-- the clause of this number is watched well
abbrev pub IsWell : List (Option Kept) → List (Option Bool) → List (Option Bool) → ℕ → Type 0
IsWell slots p t id = (k : Kept) → kept_at slots id ≡ Some k → WatchOk p t k

-- a clause was looked at
pub IsVisited-examined : (s1 s2 : List (Option Kept)) (l1 l2 : List (List Watcher)) (n : ℕ) (e1 e2 : List Entry) (id : ℕ) (list : List Watcher) (p p' : List (Option Bool)) (i : ℕ) → ExaminedIfThere s1 s2 l1 l2 n e1 e2 id → IsVisited s1 list p p' (values_of n e1) i → IsVisited s2 list p p' (values_of n e2) i × IsWell s2 p' (values_of n e2) id
IsVisited-examined s1 s2 l1 l2 n e1 e2 id list p p' i x h = elim x [
  | inl same ↦
      let gone : kept_at s2 id ≡ None = ap (λ s. kept_at s id) same.1 ∙ same.0 in (
        subst (λ s. IsVisited s list p p' (values_of n e2) i) (sym same.1) (subst (λ e. IsVisited s1 list p p' (values_of n e) i) (sym same.3) h),
        λ k at. absurd (let q : None ≡ Some k = sym gone ∙ at in cc),
      )
  | inr y ↦
      let keeps = grown_keeps s1 n id e1 e2 y.grew in
      let below : (z : Lit) → IsFalseIn p' z → IsFalseIn (values_of n e2) z = λ z f. keeps.1 z.var.0 (not z.yes) (h.below z f) in
      let well : IsWell s2 p' (values_of n e2) id = λ k at.
      let q : Some y.after ≡ Some k = sym y.changed.is_now ∙ at in
      let f : y.after ≡ k = cc in
      subst (λ z. WatchOk p' (values_of n e2) z) f (WatchOk-less (record { falses = below; trues = λ z t. t }) y.done) in (
        record {
          guard = λ j k at. elim (cases_eq j id) [
            | inl e ↦ inl (well k (ap (λ z. kept_at s2 z) (sym e) ∙ at))
            | inr other ↦ elim (h.guard j k (sym (y.changed.others j other) ∙ at)) [
              | inl w ↦ inl (WatchOk-kept keeps.0 w)
              | inr w ↦ inr (WatchOk-kept keeps.0 w.0, w.1, w.2, w.3)
            ]
          ];
          below = below;
        },
        well,
      )
]

-- its watcher was replaced or taken out
pub IsVisited-passed : (slots : List (Option Kept)) (lists lists' : List (List Watcher)) (watches : Bool) (c i next : ℕ) (w : Watcher) (p p' t : List (Option Bool)) → IsPassed watches lists lists' c i next w → ((d : Watcher) → (get_or (list_at lists c) i d).key ≡ w.key) → IsWell slots p' t w.key → IsVisited slots (list_at lists c) p p' t i → IsVisited slots (list_at lists' c) p p' t next
IsVisited-passed slots lists lists' watches c i next w p p' t x here well h = record {
  guard = λ id k at. elim (cases_eq id w.key) [
    | inl same ↦ inl (well k (ap (kept_at slots) (sym same) ∙ at))
    | inr other ↦ elim (h.guard id k at) [
      | inl ok ↦ inl ok
      | inr q ↦
          let apart : q.1 ≢ i = λ e. other (sym (q.3.key w) ∙ (ap (λ m. (get_or (list_at lists c) m w).key) e ∙ here w)) in
          let r = x.others q.1 id k.clause apart q.3 in
          inr (q.0, r.0, r.1 q.2, r.2)
    ]
  ];
  below = h.below;
}

pub AllWatched-visited : (slots : List (Option Kept)) (list : List Watcher) (p p' t : List (Option Bool)) (from : ℕ) → length list ≤ from → IsVisited slots list p p' t from → AllWatched slots p' t
AllWatched-visited slots list p p' t from end h id k at = elim (h.guard id k at) [
  | inl w ↦ w
  | inr w ↦ absurd (let x = w.2 in let y = w.3.within in omega (arith, end, x, y))
]

-- what is false stays so
pub false_grown : (s : List (Option Kept)) (n id : ℕ) (l1 l2 : List (List Watcher)) (s2 : List (Option Kept)) (e1 e2 : List Entry) (l : Lit) → ExaminedIfThere s s2 l1 l2 n e1 e2 id → IsFalseIn (values_of n e1) l → IsFalseIn (values_of n e2) l
false_grown s n id l1 l2 s2 e1 e2 l x h = elim x [
  | inl same ↦ subst (λ e. IsFalseIn (values_of n e) l) (sym same.3) h
  | inr y ↦ (grown_keeps s n id e1 e2 y.grew).1 l.var.0 (not l.yes) h
]

-- What is true in a visit of the watchers of a literal, where those before the place i were passed.
pub record VisitAt (first slots : List (Option Kept)) (lists0 lists : List (List Watcher)) (n : ℕ) (es0 es : List Entry) (l : Lit) (i : ℕ) : Type 0 where
  pub within : code l < length lists
  pub is_false : IsFalseIn (values_of n es) l
  pub moved : Moved first slots lists0 lists n es0 es
  pub watched : (pending : List ℕ) (marks : List Mark) (top : Mark) → IsWatched first lists0 pending n es0 marks top → IsWatched slots lists pending n es marks top
  pub visited : (p q : List (Option Bool)) → IsNext p q (values_of n es0) l → AllWatched first p (values_of n es0) → IsVisited slots (list_at lists (code l)) p q (values_of n es) i

pub visit_begins : (slots : List (Option Kept)) (lists : List (List Watcher)) (n : ℕ) (es : List Entry) (l d : Lit) → AllListed slots lists → IsStore (clauses_of slots) es n → code l < length lists → IsFalseIn (values_of n es) l → VisitAt slots slots lists lists n es es l 0
visit_begins slots lists n es l d listed store within is_false = record {
  within = within;
  is_false = is_false;
  moved = Moved-none slots lists n es listed store;
  watched = λ pending marks top h. h;
  visited = λ p q next all. IsVisited-none slots lists p q (values_of n es) l d listed next all;
}

-- the blocking literal is true
pub visit_blocked : (first slots : List (Option Kept)) (lists0 lists : List (List Watcher)) (n : ℕ) (es0 es : List Entry) (l : Lit) (i : ℕ) (d : Watcher) → IsTrueIn (values_of n es) (get_or (list_at lists (code l)) i d).blocker → VisitAt first slots lists0 lists n es0 es l i → VisitAt first slots lists0 lists n es0 es l (i + 1)
visit_blocked first slots lists0 lists n es0 es l i d is_true v = record {
  within = v.within;
  is_false = v.is_false;
  moved = v.moved;
  watched = v.watched;
  visited = λ p q next all. IsVisited-blocked slots (list_at lists (code l)) p q (values_of n es) i d is_true (v.visited p q next all);
}

-- its clause was looked at, and the watcher was replaced or taken out
pub visit_passed : (first s1 s2 : List (Option Kept)) (lists0 l1 l2 l3 : List (List Watcher)) (n : ℕ) (es0 e1 e2 : List Entry) (l : Lit) (i next : ℕ) (d w : Watcher) → VisitAt first s1 lists0 l1 n es0 e1 l i → i < length (list_at l1 (code l)) → (get_or (list_at l1 (code l)) i d).key ≡ w.key → IsTrail n e1 → AreStable (values_of n e1) l1 l2 → ExaminedIfThere s1 s2 l1 l2 n e1 e2 w.key → ((k : Kept) → kept_at s2 w.key ≡ Some k → Contains k.clause w.blocker) → IsPassed (is_watcher s2 l w.key) l2 l3 (code l) i next w → VisitAt first s2 lists0 l3 n es0 e2 l next
visit_passed first s1 s2 lists0 l1 l2 l3 n es0 e1 e2 l i next d w v below key trail stable x blocks passed =
    let same : list_at l2 (code l) ≡ list_at l1 (code l) = stable l v.is_false in
    let here : (q : Watcher) → (get_or (list_at l2 (code l)) i q).key ≡ w.key = λ q. ap (λ xs. (get_or xs i q).key) same ∙ (ap (λ (y : Watcher). y.key) (get_or_default (list_at l1 (code l)) i q d below) ∙ key) in
    let m : Moved first s2 lists0 l2 n es0 e2 = Moved-there first s1 s2 lists0 l1 l2 n es0 e1 e2 w.key v.moved x in
    let len2 : length l2 ≡ length l1 = m.len ∙ sym v.moved.len in
    record {
      within = rw (length_passed s2 l2 l3 l i next w passed blocks here, len2) v.within;
      is_false = false_grown s1 n w.key l1 l2 s2 e1 e2 l x v.is_false;
      moved = Moved-passed s2 l2 l3 l i next w passed blocks here first lists0 n es0 e2 m;
      watched = λ pending marks top h. IsWatched-passed s2 l2 l3 l i next w passed blocks here pending n e2 marks top (IsWatched-still s1 s2 l1 l2 pending n e1 e2 marks top w.key trail x (v.watched pending marks top h));
      visited = λ p q nexts all.
          let r = IsVisited-examined s1 s2 l1 l2 n e1 e2 w.key (list_at l1 (code l)) p q i x (v.visited p q nexts all) in
          IsVisited-passed s2 l2 l3 (is_watcher s2 l w.key) (code l) i next w p q (values_of n e2) passed here r.1 (subst (λ xs. IsVisited s2 xs p q (values_of n e2) i) (sym same) r.0);
    }
