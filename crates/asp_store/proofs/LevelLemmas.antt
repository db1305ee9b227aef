-- A look at one clause keeps every level well.
use Rattle.std.proofs.Common.{◌≡◌, ℕ, zero, suc, ◌+◌, ◌-◌, ◌<◌, ◌≤◌, inl, inr, ◌++◌, Bool, not, List, [], ◌∷◌, length, Option, Some, None, get_or, drop, refl, ap, sym, ◌∙◌, subst, arith, append_assoc}
use Rattle.std.proofs.lemmas.Bool.{cases_eq, cases_lt}
use Rattle.std.proofs.lemmas.List.{get_or-set_other}
use Rattle.theory_form.specs.declared.literals.Lit.{Lit}
use Rattle.theory_form.specs.Truth.{value_of, IsFreeIn}
use Rattle.asp_trail.specs.declared.Entry.{Entry}
use Rattle.asp_trail.specs.declared.Why.TheVariants.{Clause}
use Rattle.asp_trail.specs.Trail.{values_of, level_of, level_after, back, IsTrail}
use Rattle.asp_trail.proofs.TrailLemmas.{back-done, back-step}
use Rattle.asp_store.specs.Store.{IsReason, IsStore, Grew, AreImplied}
use Rattle.asp_store.proofs.StoreLemmas.{free_from_reason, within_from_reason, IsStore-implied, Grew-none, Grew-more}
use Rattle.asp_store.specs.declared.choices.Kept.{Kept}
use Rattle.asp_store.specs.declared.visits.Mark.{Mark}
use Rattle.asp_store.specs.declared.watches.Watcher.{Watcher}
use Rattle.asp_store.specs.Watch.{kept_at, clauses_of, older, WatchOk, LevelOk, LowerOk, IsWatched, IsBelow, AsGood, Grows, Rewatched, AllListed, Examined, ExaminedIfThere, Moved}
use Rattle.asp_store.proofs.WatchLemmas.{FalseAt-below, LevelOk-changed, LevelOk-entry, LowerOk-implied, AllListed-changed, Listed-grows, Grows-same}

-- what has a value in the first has that value in the second
abbrev pub KeepsValues : List (Option Bool) → List (Option Bool) → Type 0
KeepsValues a b = (v : ℕ) (y : Bool) → value_of a v ≡ Some y → value_of b v ≡ Some y

pub KeepsValues-entry : (n : ℕ) (es : List Entry) (e : Entry) → IsFreeIn (values_of n es) e.lit → KeepsValues (values_of n es) (values_of n (e ∷ es))
KeepsValues-entry n es e free v y h = elim (cases_eq v e.lit.var.0) [
  | inl same ↦ absurd (let g : value_of (values_of n es) v ≡ None = ap (λ k. value_of (values_of n es) k) same ∙ free in cc)
  | inr other ↦ get_or-set_other (values_of n es) e.lit.var.0 v (Some e.lit.yes) None other ∙ h
]

KeepsValues-drop : (n j : ℕ) (es : List Entry) → IsTrail n es → KeepsValues (values_of n (drop j es)) (values_of n es)
KeepsValues-drop n zero es t v y h = h
KeepsValues-drop n (suc j) [] t v y h = h
KeepsValues-drop n (suc j) (e ∷ es) t v y h = KeepsValues-entry n es e t.1 v y (KeepsValues-drop n j es t.2 v y h)

KeepsValues-back : (n k : ℕ) (es : List Entry) → IsTrail n es → KeepsValues (values_of n (back k es)) (values_of n es)
KeepsValues-back n k [] t v y h = h
KeepsValues-back n k (e ∷ es) t v y h = elim (cases_lt k (level_of (e ∷ es))) [
  | inl above ↦ KeepsValues-entry n es e t.1 v y (KeepsValues-back n k es t.2 v y (subst (λ q. value_of (values_of n q) v ≡ Some y) (back-step k e es above) h))
  | inr within ↦ subst (λ q. value_of (values_of n q) v ≡ Some y) (back-done k (e ∷ es) within) h
]

pub IsTrail-back : (n k : ℕ) (es : List Entry) → IsTrail n es → IsTrail n (back k es)
IsTrail-back n k [] t = tt
IsTrail-back n k (e ∷ es) t = elim (cases_lt k (level_of (e ∷ es))) [
  | inl above ↦ subst (IsTrail n) (sym (back-step k e es above)) (IsTrail-back n k es t.2)
  | inr within ↦ subst (IsTrail n) (sym (back-done k (e ∷ es) within)) t
]

pub IsBelow-level : (n h k : ℕ) (es : List Entry) → IsTrail n es → IsBelow (values_of n (older h (back k es))) (values_of n (back k es)) (values_of n es)
IsBelow-level n h k es t = record {
  falses = λ l x. KeepsValues-back n k es t l.var.0 (not l.yes) (KeepsValues-drop n (length (back k es) - h) (back k es) (IsTrail-back n k es t) l.var.0 (not l.yes) x);
  trues = λ l x. KeepsValues-back n k es t l.var.0 l.yes x;
}

pub IsBelow-top : (n h : ℕ) (es : List Entry) → IsTrail n es → IsBelow (values_of n (older h es)) (values_of n es) (values_of n es)
IsBelow-top n h es t = record {
  falses = λ l x. KeepsValues-drop n (length es - h) es t l.var.0 (not l.yes) x;
  trues = λ l x. x;
}

-- watched well under all that is assigned, and so under less that was looked at
pub WatchOk-less : {p now : List (Option Bool)} {k : Kept} → IsBelow p now now → WatchOk now now k → WatchOk p now k
WatchOk-less b w = record {
  within_first = w.within_first;
  within_second = w.within_second;
  apart = w.apart;
  first = λ g. w.first (FalseAt-below b g);
  second = λ g. w.second (FalseAt-below b g);
}

pub LowerOk-changed : (slots next : List (Option Kept)) (lists lists' : List (List Watcher)) (pending : List ℕ) (n : ℕ) (es : List Entry) (marks : List Mark) (done id : ℕ) (k k' : Kept) → IsTrail n es → Rewatched slots next lists lists' id k k' → AsGood (values_of n es) k k' → LowerOk slots pending n es marks done → LowerOk next pending n es marks done
LowerOk-changed slots next lists lists' pending n es marks done id k k' t c good h = record {
  levels = h.levels;
  lower = λ i d below.
      LevelOk-changed slots next lists lists' pending n (back i es) (get_or marks i d) id k k' c
      (good _ _ (IsBelow-level n (get_or marks i d).head i es t)) (h.lower i d below);
  order = h.order;
  rising = h.rising;
}

level-implied : (e : Entry) (es : List Entry) (id : ℕ) → e.why ≡ Clause (record { 0 = id }) → level_of (e ∷ es) ≡ level_of es
level-implied e es id why = ap (λ w. level_after w (level_of es)) why

-- the levels below, after a look at a clause
pub LowerOk-examined : (slots next : List (Option Kept)) (lists lists' : List (List Watcher)) (pending : List ℕ) (n : ℕ) (es es' : List Entry) (marks : List Mark) (done id : ℕ) → IsTrail n es → Examined slots next lists lists' n es es' id → LowerOk slots pending n es marks done → LowerOk next pending n es' marks done
LowerOk-examined slots next lists lists' pending n es es' marks done id t x h =
    let low = LowerOk-changed slots next lists lists' pending n es marks done id x.before x.after t x.changed x.good h in
    elim x.grew [
      | inl same ↦ subst (λ q. LowerOk next pending n q marks done) (sym same) low
      | inr g ↦ subst (λ q. LowerOk next pending n q marks done) (sym g.1) (LowerOk-implied next pending n es marks done g.0 (level-implied g.0 es id g.2) low)
    ]

-- a clause that waited was looked at
pub LevelOk-waited : (slots next : List (Option Kept)) (lists lists' : List (List Watcher)) (pending : List ℕ) (n : ℕ) (es es' : List Entry) (head done id : ℕ) → IsTrail n es → IsTrail n es' → Examined slots next lists lists' n es es' id → done < length pending → get_or pending done 0 ≡ id → LevelOk slots pending n es (record { head = head; done = done }) → LevelOk next pending n es' (record { head = head; done = done + 1 })
LevelOk-waited slots next lists lists' pending n es es' head done id t t' x more here h =
    let m : Mark = record { head = head; done = done } in
    let mid = LevelOk-changed slots next lists lists' pending n es m id x.before x.after x.changed (x.good _ _ (IsBelow-top n head es t)) h in
    let top : LevelOk next pending n es' m = elim x.grew [
      | inl same ↦ subst (λ q. LevelOk next pending n q m) (sym same) mid
      | inr g ↦ subst (λ q. LevelOk next pending n q m) (sym g.1) (LevelOk-entry next pending n es m g.0 (free_from_reason g.3) mid)
    ] in
    record {
      guard = λ j k at. elim (cases_eq j id) [
        | inl same ↦
            let e : Some x.after ≡ Some k = sym x.changed.is_now ∙ (ap (λ i. kept_at next i) (sym same) ∙ at) in
            let f : x.after ≡ k = cc in
            inr (subst (λ q. WatchOk (values_of n (older head es')) (values_of n es') q) f (WatchOk-less (IsBelow-top n head es' t') x.done))
        | inr other ↦ elim (top.guard j k at) [
          | inl waits ↦ elim (cases_eq waits.0 done) [
            | inl now ↦ absurd (other (sym waits.3 ∙ (ap (λ i. get_or pending i 0) now ∙ here)))
            | inr later ↦ inl (waits.0, let q = waits.1 in omega arith, waits.2, waits.3)
          ]
          | inr w ↦ inr w
        ]
      ];
      head_in = top.head_in;
      done_in = omega arith;
    }

-- a number without a clause
pub LevelOk-absent : (slots : List (Option Kept)) (pending : List ℕ) (n : ℕ) (es : List Entry) (head done id : ℕ) → kept_at slots id ≡ None → done < length pending → get_or pending done 0 ≡ id → LevelOk slots pending n es (record { head = head; done = done }) → LevelOk slots pending n es (record { head = head; done = done + 1 })
LevelOk-absent slots pending n es head done id none more here h = record {
  guard = λ j k at. elim (h.guard j k at) [
    | inl waits ↦ elim (cases_eq waits.0 done) [
      | inl now ↦ absurd (let same : j ≡ id = sym waits.3 ∙ (ap (λ i. get_or pending i 0) now ∙ here) in let e : None ≡ Some k = sym none ∙ (ap (λ i. kept_at slots i) (sym same) ∙ at) in cc)
      | inr later ↦ inl (waits.0, let q = waits.1 in omega arith, waits.2, waits.3)
    ]
    | inr w ↦ inr w
  ];
  head_in = h.head_in;
  done_in = omega arith;
}

pub LowerOk-later : (slots : List (Option Kept)) (pending : List ℕ) (n : ℕ) (es : List Entry) (marks : List Mark) (done done' : ℕ) → done ≤ done' → LowerOk slots pending n es marks done → LowerOk slots pending n es marks done'
LowerOk-later slots pending n es marks done done' le h = record {
  levels = h.levels;
  lower = h.lower;
  order = λ i d below. let q = h.order i d below in omega arith;
  rising = h.rising;
}

pub AllListed-examined : (slots next : List (Option Kept)) (lists lists' : List (List Watcher)) (n : ℕ) (es es' : List Entry) (id : ℕ) → Examined slots next lists lists' n es es' id → AllListed slots lists → AllListed next lists'
AllListed-examined slots next lists lists' n es es' id x h =
    AllListed-changed slots next lists lists' id x.after x.changed.is_now x.changed.others x.changed.grows x.changed.placed x.changed.listed h

-- the waiting clauses, one step on
pub IsWatched-waited : (slots next : List (Option Kept)) (lists lists' : List (List Watcher)) (pending : List ℕ) (n : ℕ) (es es' : List Entry) (marks : List Mark) (head done id : ℕ) → IsTrail n es → IsTrail n es' → Examined slots next lists lists' n es es' id → done < length pending → get_or pending done 0 ≡ id → IsWatched slots lists pending n es marks (record { head = head; done = done }) → IsWatched next lists' pending n es' marks (record { head = head; done = done + 1 })
IsWatched-waited slots next lists lists' pending n es es' marks head done id t t' x more here h = record {
  now = LevelOk-waited slots next lists lists' pending n es es' head done id t t' x more here h.now;
  below = LowerOk-later next pending n es' marks done (done + 1) (omega arith) (LowerOk-examined slots next lists lists' pending n es es' marks done id t x h.below);
  listed = AllListed-examined slots next lists lists' n es es' id x h.listed;
}

pub IsWatched-absent : (slots : List (Option Kept)) (lists : List (List Watcher)) (pending : List ℕ) (n : ℕ) (es : List Entry) (marks : List Mark) (head done id : ℕ) → kept_at slots id ≡ None → done < length pending → get_or pending done 0 ≡ id → IsWatched slots lists pending n es marks (record { head = head; done = done }) → IsWatched slots lists pending n es marks (record { head = head; done = done + 1 })
IsWatched-absent slots lists pending n es marks head done id none more here h = record {
  now = LevelOk-absent slots pending n es head done id none more here h.now;
  below = LowerOk-later slots pending n es marks done (done + 1) (omega arith) h.below;
  listed = h.listed;
}

-- many looks

pub Moved-none : (slots : List (Option Kept)) (lists : List (List Watcher)) (n : ℕ) (es : List Entry) → AllListed slots lists → IsStore (clauses_of slots) es n → Moved slots slots lists lists n es es
Moved-none slots lists n es h s = record { same_clauses = refl; listed = h; len = refl; store = s; grew = Grew-none (clauses_of slots) n es }

AllListed-grows : (slots : List (Option Kept)) (lists lists' : List (List Watcher)) → Grows lists lists' → AllListed slots lists → AllListed slots lists'
AllListed-grows slots lists lists' g h j k at = let w = h j k at in (w.0, Listed-grows g w.1)

pub Moved-grows : (slots slots' : List (Option Kept)) (lists lists' more : List (List Watcher)) (n : ℕ) (es es' : List Entry) → Grows lists' more → Moved slots slots' lists lists' n es es' → Moved slots slots' lists more n es es'
Moved-grows slots slots' lists lists' more n es es' g m = record { same_clauses = m.same_clauses; listed = AllListed-grows slots' lists' more g m.listed; len = g.len ∙ m.len; store = m.store; grew = m.grew }

pub IsWatched-grows : (slots : List (Option Kept)) (lists more : List (List Watcher)) (pending : List ℕ) (n : ℕ) (es : List Entry) (marks : List Mark) (top : Mark) → Grows lists more → IsWatched slots lists pending n es marks top → IsWatched slots more pending n es marks top
IsWatched-grows slots lists more pending n es marks top g h = record { now = h.now; below = h.below; listed = AllListed-grows slots lists more g h.listed }

pub Moved-examined : (s0 s1 s2 : List (Option Kept)) (l0 l1 l2 : List (List Watcher)) (n : ℕ) (e0 e1 e2 : List Entry) (id : ℕ) → Moved s0 s1 l0 l1 n e0 e1 → Examined s1 s2 l1 l2 n e1 e2 id → Moved s0 s2 l0 l2 n e0 e2
Moved-examined s0 s1 s2 l0 l1 l2 n e0 e1 e2 id m x =
    let same : clauses_of s2 ≡ clauses_of s1 = x.changed.same_clauses in
    record {
      same_clauses = same ∙ m.same_clauses;
      listed = AllListed-examined s1 s2 l1 l2 n e1 e2 id x m.listed;
      len = x.changed.grows.len ∙ m.len;
      store = subst (λ cs. IsStore cs e2 n) (sym same) (elim x.grew [
        | inl e ↦ subst (λ q. IsStore (clauses_of s1) q n) (sym e) m.store
        | inr g ↦ subst (λ q. IsStore (clauses_of s1) q n) (sym g.1) (IsStore-implied g.0 id m.store g.2 g.3)
      ]);
      grew = elim x.grew [
        | inl e ↦ subst (λ q. Grew (clauses_of s0) n e0 q) (sym e) m.grew
        | inr g ↦
            subst (λ q. Grew (clauses_of s0) n e0 q) (sym g.1)
            (Grew-more (clauses_of s0) n e0 e1 g.0 id m.grew g.2 (subst (λ cs. IsReason cs (values_of n e1) g.0.lit id) m.same_clauses g.3))
      ];
    }

pub IsTrail-examined : (s1 s2 : List (Option Kept)) (l1 l2 : List (List Watcher)) (n : ℕ) (e1 e2 : List Entry) (id : ℕ) → IsStore (clauses_of s1) e1 n → IsTrail n e1 → Examined s1 s2 l1 l2 n e1 e2 id → IsTrail n e2
IsTrail-examined s1 s2 l1 l2 n e1 e2 id s t x = elim x.grew [
  | inl e ↦ subst (IsTrail n) (sym e) t
  | inr g ↦ subst (IsTrail n) (sym g.1) (within_from_reason n s.within g.3, free_from_reason g.3, t)
]

pub Moved-stays : (s0 s1 s2 : List (Option Kept)) (l0 l1 l2 : List (List Watcher)) (n : ℕ) (e0 e1 e2 : List Entry) → Moved s0 s1 l0 l1 n e0 e1 → (s2 ≡ s1) × (e2 ≡ e1) → Grows l1 l2 → Moved s0 s2 l0 l2 n e0 e2
Moved-stays s0 s1 s2 l0 l1 l2 n e0 e1 e2 m same g =
    subst (λ s. Moved s0 s l0 l2 n e0 e2) (sym same.0)
    (subst (λ q. Moved s0 s1 l0 l2 n e0 q) (sym same.1) (Moved-grows s0 s1 l0 l1 l2 n e0 e1 g m))

pub IsWatched-stays : (s1 s2 : List (Option Kept)) (l1 l2 : List (List Watcher)) (pending : List ℕ) (n : ℕ) (e1 e2 : List Entry) (marks : List Mark) (top : Mark) → (s2 ≡ s1) × (e2 ≡ e1) → Grows l1 l2 → IsWatched s1 l1 pending n e1 marks top → IsWatched s2 l2 pending n e2 marks top
IsWatched-stays s1 s2 l1 l2 pending n e1 e2 marks top same g h =
    subst (λ s. IsWatched s l2 pending n e2 marks top) (sym same.0)
    (subst (λ q. IsWatched s1 l2 pending n q marks top) (sym same.1) (IsWatched-grows s1 l1 l2 pending n e1 marks top g h))

pub Grows-equal : (l1 l2 : List (List Watcher)) → l2 ≡ l1 → Grows l1 l2
Grows-equal l1 l2 e = subst (λ l. Grows l1 l) (sym e) (Grows-same l1)

pub Moved-there : (s0 s1 s2 : List (Option Kept)) (l0 l1 l2 : List (List Watcher)) (n : ℕ) (e0 e1 e2 : List Entry) (id : ℕ) → Moved s0 s1 l0 l1 n e0 e1 → ExaminedIfThere s1 s2 l1 l2 n e1 e2 id → Moved s0 s2 l0 l2 n e0 e2
Moved-there s0 s1 s2 l0 l1 l2 n e0 e1 e2 id m x = elim x [
  | inl same ↦ Moved-stays s0 s1 s2 l0 l1 l2 n e0 e1 e2 m (same.1, same.3) (Grows-equal l1 l2 same.2)
  | inr y ↦ Moved-examined s0 s1 s2 l0 l1 l2 n e0 e1 e2 id m y
]

pub IsWatched-there : (s1 s2 : List (Option Kept)) (l1 l2 : List (List Watcher)) (pending : List ℕ) (n : ℕ) (e1 e2 : List Entry) (marks : List Mark) (head done id : ℕ) → IsStore (clauses_of s1) e1 n → IsTrail n e1 → ExaminedIfThere s1 s2 l1 l2 n e1 e2 id → done < length pending → get_or pending done 0 ≡ id → IsWatched s1 l1 pending n e1 marks (record { head = head; done = done }) → IsWatched s2 l2 pending n e2 marks (record { head = head; done = done + 1 })
IsWatched-there s1 s2 l1 l2 pending n e1 e2 marks head done id s t x more here h = elim x [
  | inl same ↦
      IsWatched-stays s1 s2 l1 l2 pending n e1 e2 marks (record { head = head; done = done + 1 }) (same.1, same.3) (Grows-equal l1 l2 same.2)
      (IsWatched-absent s1 l1 pending n e1 marks head done id same.0 more here h)
  | inr y ↦ IsWatched-waited s1 s2 l1 l2 pending n e1 e2 marks head done id t (IsTrail-examined s1 s2 l1 l2 n e1 e2 id s t y) y more here h
]

AreImplied-append : (cs : List (Option (List Lit))) (n : ℕ) (base first more : List Entry) → AreImplied cs n base first → AreImplied cs n (first ++ base) more → AreImplied cs n base (more ++ first)
AreImplied-append cs n base first [] a b = a
AreImplied-append cs n base first (e ∷ more) a b =
    ((b.0.0, b.0.1, subst (λ q. IsReason cs (values_of n q) e.lit b.0.0) (sym (append_assoc more first base)) b.0.2), AreImplied-append cs n base first more a b.1)

pub Grew-trans : (cs : List (Option (List Lit))) (n : ℕ) (e0 e1 e2 : List Entry) → Grew cs n e0 e1 → Grew cs n e1 e2 → Grew cs n e0 e2
Grew-trans cs n e0 e1 e2 g h = record {
  more = h.more ++ g.more;
  new_is = h.new_is ∙ (ap (λ q. h.more ++ q) g.new_is ∙ sym (append_assoc h.more g.more e0));
  implied = AreImplied-append cs n e0 g.more h.more g.implied (subst (λ q. AreImplied cs n q h.more) g.new_is h.implied);
}

pub Moved-trans : (s0 s1 s2 : List (Option Kept)) (l0 l1 l2 : List (List Watcher)) (n : ℕ) (e0 e1 e2 : List Entry) → Moved s0 s1 l0 l1 n e0 e1 → Moved s1 s2 l1 l2 n e1 e2 → Moved s0 s2 l0 l2 n e0 e2
Moved-trans s0 s1 s2 l0 l1 l2 n e0 e1 e2 a b = record {
  same_clauses = b.same_clauses ∙ a.same_clauses;
  listed = b.listed;
  len = b.len ∙ a.len;
  store = b.store;
  grew = Grew-trans (clauses_of s0) n e0 e1 e2 a.grew (subst (λ cs. Grew cs n e1 e2) a.same_clauses b.grew);
}
