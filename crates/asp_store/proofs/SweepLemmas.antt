-- Watchers that are replaced, or taken out where their clauses do not watch the literal.
use Rattle.std.proofs.Common.{◌≡◌, ℕ, ◌+◌, ◌-◌, ◌<◌, ◌≤◌, ◌≢◌, inl, inr, Bool, true, false, ◌||◌, List, [], length, Option, Some, get_or, set, refl, ap, sym, ◌∙◌, subst, arith, length-set}
use Rattle.std.specs.Prelude.{slice_get}
use Rattle.std.specs.Cmp.{booleans_Decides}
use Rattle.std.specs.List.{Contains}
use Rattle.std.proofs.lemmas.Bool.{cases_eq, cases_lt, eq-eqb}
use Rattle.std.proofs.lemmas.List.{get_or-set_same, get_or-set_other}
use Rattle.std.proofs.lemmas.Option.{slice_get-get_or}
use Rattle.theory_form.specs.declared.literals.Lit.{Lit}
use Rattle.theory_form.specs.Order.{lit_eq}
use Rattle.asp_trail.specs.declared.Entry.{Entry}
use Rattle.asp_store.specs.declared.choices.Kept.{Kept}
use Rattle.asp_store.specs.declared.visits.Mark.{Mark}
use Rattle.asp_store.specs.declared.watches.Watcher.{Watcher}
use Rattle.asp_store.specs.Watch.{kept_at, list_at, code, HasWatcher, WatchesAt, AllListed, IsWatched, Moved, IsTakenOut, IsPassed, is_lit, is_watcher}
use Rattle.asp_store.proofs.ExamineLemmas.{code_same}

lit_eq-same : (l : Lit) → lit_eq l l ≡ true
lit_eq-same l =
    let v = eq-eqb l.var.0 l.var.0 refl in
    let b = (booleans_Decides l.yes l.yes).1 refl in
    rw (v, b) refl

or_left : (a b : Bool) → a ≡ true → (a || b) ≡ true
or_left a b h = rw h refl

or_right : (a b : Bool) → b ≡ true → (a || b) ≡ true
or_right true b h = refl
or_right false b h = h

stands : (c : List Lit) (i : ℕ) (d l : Lit) → i < length c → get_or c i d ≡ l → is_lit (slice_get c i) l ≡ true
stands c i d l within e = rw (slice_get-get_or c i d within) (rw e (lit_eq-same l))

watcher_first : (slots : List (Option Kept)) (id : ℕ) (k : Kept) (d l : Lit) → kept_at slots id ≡ Some k → k.first < length k.clause → get_or k.clause k.first d ≡ l → is_watcher slots l id ≡ true
watcher_first slots id k d l at within e = rw at (or_left _ _ (stands k.clause k.first d l within e))

watcher_second : (slots : List (Option Kept)) (id : ℕ) (k : Kept) (d l : Lit) → kept_at slots id ≡ Some k → k.second < length k.clause → get_or k.clause k.second d ≡ l → is_watcher slots l id ≡ true
watcher_second slots id k d l at within e =
    rw at (or_right (is_lit (slice_get k.clause k.first) l) _ (stands k.clause k.second d l within e))

-- a watcher in a list of which one was replaced
replaced_other : (xs : List Watcher) (i m id : ℕ) (w : Watcher) (c : List Lit) → m ≢ i → WatchesAt xs m id c → WatchesAt (set xs i w) m id c
replaced_other xs i m id w c other h = record {
  within = rw (length-set xs i w) h.within;
  key = λ d. ap (λ (x : Watcher). x.key) (get_or-set_other xs i m w d other) ∙ h.key d;
  blocker = λ d. subst (λ (x : Watcher). Contains c x.blocker) (sym (get_or-set_other xs i m w d other)) (h.blocker d);
}

replaced_here : (xs : List Watcher) (i : ℕ) (w : Watcher) (c : List Lit) → i < length xs → Contains c w.blocker → WatchesAt (set xs i w) i w.key c
replaced_here xs i w c within has = record {
  within = rw (length-set xs i w) within;
  key = λ d. ap (λ (x : Watcher). x.key) (get_or-set_same xs i w d within);
  blocker = λ d. subst (λ (x : Watcher). Contains c x.blocker) (sym (get_or-set_same xs i w d within)) has;
}

pub passed_replaced : (lists lists' : List (List Watcher)) (x i : ℕ) (w : Watcher) → x < length lists → i < length (list_at lists x) → lists' ≡ set lists x (set (list_at lists x) i w) → IsPassed true lists lists' x i (i + 1) w
passed_replaced lists lists' x i w within below is =
    let xs : List Watcher = list_at lists x in
    let at : list_at lists' x ≡ set xs i w = ap (λ ls. list_at ls x) is ∙ get_or-set_same lists x (set xs i w) [] within in
    record {
      one_list = is ∙ ap (set lists x) (sym at);
      others = λ m id c other h. (m, (λ le. omega arith), subst (λ ys. WatchesAt ys m id c) (sym at) (replaced_other xs i m id w c other h));
      here = λ yes c has. (i, subst (λ ys. WatchesAt ys i w.key c) (sym at) (replaced_here xs i w c below has));
      nearer = let e = ap length at ∙ length-set xs i w in omega (arith, e, below);
    }

-- a watcher in a list of which another was taken out
left_other : (xs xs' : List Watcher) (i m id : ℕ) (c : List Lit) → IsTakenOut xs xs' i → i < length xs → m ≢ i → WatchesAt xs m id c → (m' : ℕ) × (i ≤ m → i ≤ m') × WatchesAt xs' m' id c
left_other xs xs' i m id c t below other h =
    let len = t.len in
    let within = h.within in
    elim (cases_lt (m + 1) (length xs)) [
      | inl low ↦ (
        m,
        (λ le. le),
        record {
          within = omega (arith, len, low);
          key = λ d. ap (λ (x : Watcher). x.key) (t.others m d other low) ∙ h.key d;
          blocker = λ d. subst (λ (x : Watcher). Contains c x.blocker) (sym (t.others m d other low)) (h.blocker d);
        },
      )
      | inr high ↦
          let last : length xs - 1 ≡ m = omega (arith, within, high) in
          let more : i + 1 < length xs = elim (cases_lt i m) [ inl less ↦ omega (arith, less, within) | inr rest ↦ elim (cases_lt m i) [ inl up ↦ absurd (omega (arith, up, below, high)) | inr same ↦ absurd (other (omega arith)) ] ] in (
            i,
            (λ le. omega arith),
            record {
              within = omega (arith, len, more);
              key = λ d. ap (λ (x : Watcher). x.key) (t.last d more ∙ ap (λ k. get_or xs k d) last) ∙ h.key d;
              blocker = λ d. subst (λ (x : Watcher). Contains c x.blocker) (sym (t.last d more ∙ ap (λ k. get_or xs k d) last)) (h.blocker d);
            },
          )
    ]

pub passed_taken : (lists lists' : List (List Watcher)) (x i : ℕ) (w : Watcher) → i < length (list_at lists x) → lists' ≡ set lists x (list_at lists' x) → IsTakenOut (list_at lists x) (list_at lists' x) i → IsPassed false lists lists' x i i w
passed_taken lists lists' x i w below is t = record {
  one_list = is;
  others = λ m id c other h. left_other (list_at lists x) (list_at lists' x) i m id c t below other h;
  here = λ yes. absurd (let z : false ≡ true = yes in cc);
  nearer = let len = t.len in omega (arith, len, below);
}

-- one list was changed, and kept the watchers of the clauses that watch its literal

still_listed : (slots : List (Option Kept)) (lists lists' : List (List Watcher)) (l x : Lit) (id : ℕ) (c : List Lit) → lists' ≡ set lists (code l) (list_at lists' (code l)) → (x ≡ l → HasWatcher (list_at lists (code l)) id c → HasWatcher (list_at lists' (code l)) id c) → HasWatcher (list_at lists (code x)) id c → HasWatcher (list_at lists' (code x)) id c
still_listed slots lists lists' l x id c is keeps h = elim (cases_eq (code x) (code l)) [
  | inr other ↦
      let same : list_at lists' (code x) ≡ list_at lists (code x) = ap (λ ls. list_at ls (code x)) is ∙ get_or-set_other lists (code l) (code x) _ [] other in
      subst (λ xs. HasWatcher xs id c) (sym same) h
  | inl same ↦
      subst (λ k. HasWatcher (list_at lists' k) id c) (sym same)
      (keeps (code_same x l same) (subst (λ k. HasWatcher (list_at lists k) id c) same h))
]

module _ (slots : List (Option Kept)) (lists lists' : List (List Watcher)) (l : Lit) (i next : ℕ) (w : Watcher) (p : IsPassed (is_watcher slots l w.key) lists lists' (code l) i next w) (blocks : (k : Kept) → kept_at slots w.key ≡ Some k → Contains k.clause w.blocker) (here : (d : Watcher) → (get_or (list_at lists (code l)) i d).key ≡ w.key) where
  keeps_watcher : (id : ℕ) (k : Kept) → kept_at slots id ≡ Some k → is_watcher slots l id ≡ true → HasWatcher (list_at lists (code l)) id k.clause → HasWatcher (list_at lists' (code l)) id k.clause
  keeps_watcher id k at watches h = elim (cases_eq id w.key) [
    | inl same ↦
        let at' : kept_at slots w.key ≡ Some k = ap (kept_at slots) (sym same) ∙ at in
        let yes : is_watcher slots l w.key ≡ true = ap (is_watcher slots l) (sym same) ∙ watches in
        subst (λ j. HasWatcher (list_at lists' (code l)) j k.clause) (sym same) (p.here yes k.clause (blocks k at'))
    | inr other ↦
        let apart : h.0 ≢ i = λ e. other (sym (h.1.key w) ∙ (ap (λ m. (get_or (list_at lists (code l)) m w).key) e ∙ here w)) in
        let r = p.others h.0 id k.clause apart h.1 in
        (r.0, r.2)
  ]

  pub AllListed-passed : AllListed slots lists → AllListed slots lists'
  AllListed-passed h id k at =
      let x = h id k at in (
        x.0,
        record {
          first = λ d within. still_listed slots lists lists' l (get_or k.clause k.first d) id k.clause p.one_list (λ e. keeps_watcher id k at (watcher_first slots id k d l at within e)) (x.1.first d within);
          second = λ d within. still_listed slots lists lists' l (get_or k.clause k.second d) id k.clause p.one_list (λ e. keeps_watcher id k at (watcher_second slots id k d l at within e)) (x.1.second d within);
        },
      )

  pub length_passed : length lists' ≡ length lists
  length_passed = ap length p.one_list ∙ length-set lists (code l) _

  pub Moved-passed : (first : List (Option Kept)) (lists0 : List (List Watcher)) (n : ℕ) (es es' : List Entry) → Moved first slots lists0 lists n es es' → Moved first slots lists0 lists' n es es'
  Moved-passed first lists0 n es es' m = record {
    same_clauses = m.same_clauses;
    listed = AllListed-passed m.listed;
    len = length_passed ∙ m.len;
    store = m.store;
    grew = m.grew;
  }

  pub IsWatched-passed : (pending : List ℕ) (n : ℕ) (es : List Entry) (marks : List Mark) (top : Mark) → IsWatched slots lists pending n es marks top → IsWatched slots lists' pending n es marks top
  IsWatched-passed pending n es marks top h = record { now = h.now; below = h.below; listed = AllListed-passed h.listed }
