-- What stands of the decisions: a false clause can be analysed, and what is learned is new.
use Rattle.std.proofs.Common.{◌≡◌, ℕ, zero, suc, ◌<◌, ◌≤◌, ◌⊎◌, inl, inr, ◌++◌, Bool, true, false, not, List, [], ◌∷◌, length, Option, Some, None, get_or, refl, ap, sym, ◌∙◌, subst, arith, Contains, append_assoc, length-append}
use Rattle.std.specs.List.{All}
use Rattle.std.proofs.lemmas.Bool.{cases_eq, cases_lt}
use Rattle.std.proofs.lemmas.List.{get_or_default}
use Rattle.std.proofs.lemmas.List.Elements.{All-contains}
use Rattle.theory_form.specs.declared.literals.Lit.{Lit}
use Rattle.theory_form.specs.declared.literals.ClauseId.{ClauseId}
use Rattle.theory_form.specs.Literals.{opposite}
use Rattle.theory_form.specs.Truth.{value_of, IsFalseIn, IsTrueIn, IsFreeIn, TrueAt, IsSettled, IsFalseClause}
use Rattle.asp_trail.specs.declared.Entry.{Entry}
use Rattle.asp_trail.specs.declared.Why.{Why}
use Rattle.asp_trail.specs.declared.Why.TheVariants.{Decision, Clause}
use Rattle.asp_trail.specs.Trail.{values_of, level_of, level_after, IsTrail, back}
use Rattle.asp_store.specs.Store.{State, assigned, clause_at, AllSettled, AreImplied, Adds, Grew, IsConflict, IsStore, NoneRefuting}
use Rattle.asp_learn.specs.Blames.{IsBlamed, IsImplied}
use Rattle.asp_learn.specs.declared.blames.Fault.TheVariants.{Conflict, Against}
use Rattle.asp_learn.specs.Conflicts.{level_in, CanAnalyse, IsJumpLevel, IsTop, IsUnitAtFirstUip}
use Rattle.asp_trail.proofs.TrailLemmas.{get_or-replicate_none}
use Rattle.asp_learn.proofs.CallerLemmas.{one_of_highest, reached_elsewhere}
use Rattle.asp_learn.proofs.LearnLemmas.{stands_once}
use Rattle.asp_learn.proofs.LevelLemmas.{back_parts, level_after-le, level_in-le, level_in-newer, level_in-other, level_in-same, value_cases, value-newer, value-other, value-same, why_in-other, why_in-same}
use Rattle.search_law.specs.Counts.{HasAll}
use Rattle.asp_engine.specs.Search.{HasTwoAbove, IsAbove, Stands}
use Rattle.proof_log.specs.Logs.{IsNegated, IsNew}

any_lit : Lit
any_lit = record { var = record { 0 = 0 }; yes = true }

not_both : (a : List (Option Bool)) (l : Lit) → IsFalseIn a l → IsTrueIn a l → ⊥
not_both a l f t = let q : Some (not l.yes) ≡ Some l.yes = sym f ∙ t in go l.yes q where
  go : (b : Bool) → Some (not b) ≡ Some b → ⊥
  go true h = cc
  go false h = cc

-- ---- the decisions stand

not_decided : (id : ClauseId) (w : Why) → w ≡ Clause id → w ≡ Decision → ⊥
not_decided id w a b = cc

stands_more : (cs : List (Option (List Lit))) (n : ℕ) (assume : List Lit) (old more : List Entry) → Stands cs n assume old → AreImplied cs n old more → Stands cs n assume (more ++ old)
stands_more cs n assume old [] s h = s
stands_more cs n assume old (e ∷ more) s h = (λ q. absurd (not_decided (record { 0 = h.0.0 }) e.why h.0.1 q), stands_more cs n assume old more s h.1)

pub stands_grew : (cs : List (Option (List Lit))) (n : ℕ) (assume : List Lit) (old new : List Entry) → Grew cs n old new → Stands cs n assume old → Stands cs n assume new
stands_grew cs n assume old new g s = subst (Stands cs n assume) (sym g.new_is) (stands_more cs n assume old g.more s g.implied)

pub grew_length : {cs : List (Option (List Lit))} {n : ℕ} (old new : List Entry) → Grew cs n old new → length old ≤ length new
grew_length old new g = let a = length-append g.more old in let b = ap length g.new_is in omega (arith, a, b)

pub stands_ground : (cs : List (Option (List Lit))) (n : ℕ) (assume : List Lit) (es : List Entry) → level_of es ≤ 0 → Stands cs n assume es
stands_ground cs n assume [] h = tt
stands_ground cs n assume (e ∷ es) h =
    let g = level_after-le e.why (level_of es) in
    (λ q. absurd (let z : level_of (e ∷ es) ≡ suc (level_of es) = ap (λ w. level_after w (level_of es)) q in omega (arith, h, z)), stands_ground cs n assume es (omega (arith, g, h)))

stands_older : (cs : List (Option (List Lit))) (n : ℕ) (assume : List Lit) (newer es : List Entry) → Stands cs n assume (newer ++ es) → Stands cs n assume es
stands_older cs n assume [] es s = s
stands_older cs n assume (e ∷ newer) es s = stands_older cs n assume newer es s.1

pub stands_back : (cs : List (Option (List Lit))) (n : ℕ) (assume : List Lit) (k : ℕ) (es : List Entry) → Stands cs n assume es → Stands cs n assume (back k es)
stands_back cs n assume k es s = let b = back_parts k es in stands_older cs n assume b.0 (back k es) (subst (Stands cs n assume) b.1 s)

-- what has a level above those of a lower part has no value there
free_lower : (n : ℕ) (newer es : List Entry) (v : ℕ) → IsTrail n (newer ++ es) → level_of es < level_in (newer ++ es) v → value_of (values_of n es) v ≡ None
free_lower n newer es v t low = elim (value_cases (value_of (values_of n es) v)) [
  | inl none ↦ none
  | inr some ↦ absurd (
      let a = level_in-newer n newer es v some.0 t some.1 in
      let b = level_in-le es v in
      omega (arith, a, b, low))
]

-- what has no value has none in a lower part
free_older : (n : ℕ) (newer es : List Entry) (v : ℕ) → IsTrail n (newer ++ es) → value_of (values_of n (newer ++ es)) v ≡ None → value_of (values_of n es) v ≡ None
free_older n newer es v t none = elim (value_cases (value_of (values_of n es) v)) [
  | inl free ↦ free
  | inr some ↦ absurd (let a = value-newer n newer es v some.0 t some.1 in let z : None ≡ Some some.0 = sym none ∙ a in cc)
]

free_above : (n : ℕ) (newer es : List Entry) (c : List Lit) (k i : ℕ) → IsTrail n (newer ++ es) → level_of es < k → IsAbove n (newer ++ es) c k i → (d : Lit) → IsFreeIn (values_of n es) (get_or c i d)
free_above n newer es c k i t low above d = elim (above d) [
  | inl free ↦ free_older n newer es (get_or c i d).var.0 t free
  | inr high ↦ free_lower n newer es (get_or c i d).var.0 t (omega (arith, low, high))
]

settled_lower : (n : ℕ) (newer es : List Entry) (c : List Lit) (k : ℕ) → IsTrail n (newer ++ es) → level_of es < k → HasTwoAbove n (newer ++ es) c k → IsSettled (values_of n es) c
settled_lower n newer es c k t low two = elim two [
  | inl none ↦ absurd (omega arith)
  | inr p ↦ inr (
    p.0,
    p.1,
    record {
      before = p.2;
      first = record { within = (let a = p.2 in let b = p.3 in omega (arith, a, b)); holds = free_above n newer es c k p.0 t low p.4 };
      second = record { within = p.3; holds = free_above n newer es c k p.1 t low p.5 };
    },
  )
]

stands_part : (cs ds : List (Option (List Lit))) (n : ℕ) (assume : List Lit) (newer es : List Entry) (id : ℕ) (c : List Lit) (k : ℕ) → IsTrail n (newer ++ es) → Stands cs n assume es → level_of es ≤ k → HasTwoAbove n (newer ++ es) c k → Adds cs ds id c → Stands ds n assume es
stands_part cs ds n assume newer [] id c k t s le two a = tt
stands_part cs ds n assume newer (e ∷ es) id c k t s le two a =
    let split : newer ++ e ∷ es ≡ (newer ++ e ∷ []) ++ es = sym (append_assoc newer (e ∷ []) es) in
    let t2 = subst (IsTrail n) split t in
    let two2 = subst (λ xs. HasTwoAbove n xs c k) split two in
    let g = level_after-le e.why (level_of es) in (
      λ why.
          let up : level_of (e ∷ es) ≡ suc (level_of es) = ap (λ w. level_after w (level_of es)) why in
          let was = s.0 why in (
            λ i d at. elim (cases_eq i id) [
              | inr other ↦ was.0 i d (sym (a.others i other) ∙ at)
              | inl same ↦
                  let q : Some c ≡ Some d = sym a.added ∙ (ap (λ x. clause_at ds x) (sym same) ∙ at) in
                  let r : c ≡ d = cc in
                  subst (IsSettled (values_of n es)) r (settled_lower n (newer ++ e ∷ []) es c k t2 (omega (arith, up, le)) two2)
            ],
            was.1,
          ),
      stands_part cs ds n assume (newer ++ e ∷ []) es id c k t2 s.1 (omega (arith, g, le)) two2 a,
    )

-- Each decision that is left after going back still stands when the clause is added.
pub stands_added : (cs ds : List (Option (List Lit))) (n : ℕ) (assume : List Lit) (es : List Entry) (id : ℕ) (c : List Lit) (k : ℕ) → IsTrail n es → Stands cs n assume es → HasTwoAbove n es c k → Adds cs ds id c → Stands ds n assume (back k es)
stands_added cs ds n assume es id c k t s two a =
    let b = back_parts k es in
    stands_part cs ds n assume b.0 (back k es) id c k (subst (IsTrail n) b.1 t) (stands_back cs n assume k es s) b.2 (subst (λ xs. HasTwoAbove n xs c k) b.1 two) a

-- ---- a clause that is kept is true, or two of its places get their values at the top level

abbrev AtTop : ℕ → List Entry → List Lit → ℕ → Type 0
AtTop n es c i = (d : Lit) (y : Bool) → value_of (values_of n es) (get_or c i d).var.0 ≡ Some y → level_in es (get_or c i d).var.0 ≡ level_of es

record TopPair (n : ℕ) (es : List Entry) (c : List Lit) : Type 0 where
  one : ℕ
  two : ℕ
  before : one < two
  within : two < length c
  first : AtTop n es c one
  second : AtTop n es c two

true_newer : (n : ℕ) (e : Entry) (es : List Entry) (c : List Lit) (i : ℕ) → IsTrail n (e ∷ es) → TrueAt (values_of n es) c i → TrueAt (values_of n (e ∷ es)) c i
true_newer n e es c i t h = record { within = h.within; holds = λ d. value-newer n (e ∷ []) es (get_or c i d).var.0 (get_or c i d).yes t (h.holds d) }

top_of_free : (n : ℕ) (e : Entry) (es : List Entry) (c : List Lit) (i : ℕ) → ((d : Lit) → IsFreeIn (values_of n es) (get_or c i d)) → AtTop n (e ∷ es) c i
top_of_free n e es c i free d y some = elim (cases_eq (get_or c i d).var.0 e.lit.var.0) [
  | inl same ↦ level_in-same e es (get_or c i d).var.0 same
  | inr other ↦ absurd (let z : None ≡ Some y = sym (free d) ∙ (sym (value-other n e es (get_or c i d).var.0 other) ∙ some) in cc)
]

top_newer : (n : ℕ) (e : Entry) (es : List Entry) (c : List Lit) (i : ℕ) → level_of (e ∷ es) ≡ level_of es → AtTop n es c i → AtTop n (e ∷ es) c i
top_newer n e es c i same_level h d y some = elim (cases_eq (get_or c i d).var.0 e.lit.var.0) [
  | inl same ↦ level_in-same e es (get_or c i d).var.0 same
  | inr other ↦
      level_in-other e es (get_or c i d).var.0 other
      ∙ (h d y (sym (value-other n e es (get_or c i d).var.0 other) ∙ some) ∙ sym same_level)
]

top_pair : (cs : List (Option (List Lit))) (n : ℕ) (assume : List Lit) (es : List Entry) (id : ℕ) (c : List Lit) → IsTrail n es → Stands cs n assume es → 0 < level_of es → clause_at cs id ≡ Some c → ((i : ℕ) × TrueAt (values_of n es) c i) ⊎ TopPair n es c
top_pair cs n assume [] id c t s up at = absurd (omega arith)
top_pair cs n assume (e ∷ es) id c t s up at = by_why (λ u. top_pair cs n assume es id c t.2 s.1 u at) e.why refl where
  by_why : (0 < level_of es → ((i : ℕ) × TrueAt (values_of n es) c i) ⊎ TopPair n es c) → (w : Why) → e.why ≡ w → ((i : ℕ) × TrueAt (values_of n (e ∷ es)) c i) ⊎ TopPair n (e ∷ es) c
  by_why older_pair Decision q = elim ((s.0 q).0 id c at) [
    | inl x ↦ inl (x.0, true_newer n e es c x.0 t x.1)
    | inr x ↦ inr (record {
      one = x.0;
      two = x.1;
      before = x.2.before;
      within = x.2.second.within;
      first = top_of_free n e es c x.0 x.2.first.holds;
      second = top_of_free n e es c x.1 x.2.second.holds;
    })
  ]
  by_why older_pair (Clause k) q =
      let same : level_of (e ∷ es) ≡ level_of es = ap (λ w. level_after w (level_of es)) q in
      elim (older_pair (omega (arith, same, up))) [
        | inl x ↦ inl (x.0, true_newer n e es c x.0 t x.1)
        | inr p ↦ inr (record {
          one = p.one;
          two = p.two;
          before = p.before;
          within = p.within;
          first = top_newer n e es c p.one same p.first;
          second = top_newer n e es c p.two same p.second;
        })
      ]

-- A false clause can be analysed where a level is open.
pub conflict_can : (s : State) (assume : List Lit) (id : ℕ) → IsTrail s.places s.entries → Stands s.clauses s.places assume s.entries → 0 < level_of s.entries → IsConflict s.clauses (assigned s) id → CanAnalyse s id
conflict_can s assume id t stands up x = record {
  clause = x.clause;
  stored = x.stored;
  all_false = x.all_false;
  open_level = up;
  top = elim (top_pair s.clauses s.places assume s.entries id x.clause t stands up x.stored) [
    | inl y ↦ absurd (not_both (assigned s) (get_or x.clause y.0 any_lit) (x.all_false y.0 any_lit y.1.within) (y.1.holds any_lit))
    | inr p ↦
        let low = p.before in
        let high = p.within in
        let inside : p.one < length x.clause = omega (arith, low, high) in
        let l : Lit = get_or x.clause p.one any_lit in
        (p.one, l, inside, get_or_default x.clause p.one l any_lit inside, p.first any_lit (not l.yes) (x.all_false p.one any_lit inside))
  ];
}

-- A learned clause contains no clause that is kept.
pub learned_is_new : (s : State) (assume : List Lit) (conflict : ℕ) (c : List Lit) (level : ℕ) (point : Lit) → IsTrail s.places s.entries → IsStore s.clauses s.entries s.places → Stands s.clauses s.places assume s.entries → 0 < level_of s.entries → IsFalseClause (assigned s) c → IsUnitAtFirstUip s conflict c level point → IsJumpLevel s.entries c level → IsNew (clause_at s.clauses) c
learned_is_new s assume conflict c level point t store stands up f unit jump id d at part =
    elim (top_pair s.clauses s.places assume s.entries id d t stands up at) [
      | inl x ↦ not_both (assigned s) (get_or d x.0 any_lit) (falses x.0 x.1.within) (x.1.holds any_lit)
      | inr p ↦
          let low = p.before in
          let high = p.within in
          let inside : p.one < length d = omega (arith, low, high) in
          let a = is_unit p.one inside p.first in
          let b = is_unit p.two p.within p.second in
          let same = stands_once d p.one p.two any_lit (store.ascending id d at) inside p.within (a ∙ sym b) in
          absurd (omega (arith, same, low))
    ] where
      falses : (i : ℕ) → i < length d → IsFalseIn (assigned s) (get_or d i any_lit)
      falses i within = let q = part i any_lit within in subst (IsFalseIn (assigned s)) q.2 (f q.0 (get_or d i any_lit) q.1)

      is_unit : (i : ℕ) → i < length d → AtTop s.places s.entries d i → get_or d i any_lit ≡ get_or c unit.unit.place any_lit
      is_unit i within top =
          let q = part i any_lit within in
          let l : Lit = get_or d i any_lit in
          let here : level_in s.entries l.var.0 ≡ level_of s.entries = top any_lit (not l.yes) (falses i within) in
          let place : q.0 ≡ unit.unit.place = one_of_highest t unit jump q.0 l q.1 (subst (λ (x : Lit). IsTop s.entries x.var.0) (sym q.2) here) in
          sym q.2 ∙ (get_or_default c q.0 l any_lit q.1 ∙ ap (λ k. get_or c k any_lit) place)

-- It has two literals of the level to go back to, or above.
pub learned_two : (s : State) (conflict : ℕ) (c : List Lit) (level : ℕ) (point : Lit) → IsTrail s.places s.entries → IsUnitAtFirstUip s conflict c level point → IsJumpLevel s.entries c level → HasTwoAbove s.places s.entries c level
learned_two s conflict c level point t unit jump = elim (reached_elsewhere t unit jump) [
  | inl none ↦ inl none
  | inr k ↦
      let u : ℕ = unit.unit.place in
      let below = jump.below in
      let high : (d : Lit) → level ≤ level_in s.entries (get_or c u d).var.0 = λ d.
      let x : level_in s.entries (get_or c u d).var.0 ≡ level_of s.entries = ap (λ (y : Lit). level_in s.entries y.var.0) (unit.unit.lit_is d) ∙ unit.first.top in
      omega (arith, x, below) in
      let here : (d : Lit) → level ≤ level_in s.entries (get_or c k.0 d).var.0 = λ d. let x = k.3 d in omega (arith, x) in
      elim (cases_lt u k.0) [
        | inl before ↦ inr (u, k.0, before, k.1, (λ d. inr (high d)), λ d. inr (here d))
        | inr after ↦ let other = k.2 in inr (k.0, u, omega (arith, after, other), unit.unit.unit.free.within, (λ d. inr (here d)), λ d. inr (high d))
      ]
]

-- ---- a false assumption

not_not : (b : Bool) → not (not b) ≡ b
not_not true = refl
not_not false = refl

opposite_twice : (l m : Lit) → opposite l ≡ m → l ≡ opposite m
opposite_twice l m e =
    let v : l.var.0 ≡ m.var.0 = ap (λ (x : Lit). x.var.0) e in
    let y : not l.yes ≡ m.yes = ap (λ (x : Lit). x.yes) e in
    let z : l.yes ≡ not m.yes = sym (not_not l.yes) ∙ ap not y in
    λ i. record { var = record { 0 = v i }; yes = z i }

-- A false assumption was implied.
pub false_is_implied : (cs : List (Option (List Lit))) (n : ℕ) (assume : List Lit) (l : Lit) (es : List Entry) → IsTrail n es → Stands cs n assume es → ((m : Lit) → Contains assume m → m.var.0 ≡ l.var.0 → m ≡ l) → Contains assume l → IsFalseIn (values_of n es) l → IsImplied es l.var.0
false_is_implied cs n assume l [] t s apart has f = absurd (let z : Some (not l.yes) ≡ None = sym f ∙ get_or-replicate_none n l.var.0 in cc)
false_is_implied cs n assume l (e ∷ es) t s apart has f = elim (cases_eq l.var.0 e.lit.var.0) [
  | inr other ↦
      let r = false_is_implied cs n assume l es t.2 s.1 apart has (sym (value-other n e es l.var.0 other) ∙ f) in
      (r.0, r.1, why_in-other e es l.var.0 other ∙ r.2)
  | inl same ↦ by_why same e.why refl
] where
  by_why : l.var.0 ≡ e.lit.var.0 → (w : Why) → e.why ≡ w → IsImplied (e ∷ es) l.var.0
  by_why same Decision q = absurd (
      let here : value_of (values_of n (e ∷ es)) l.var.0 ≡ Some e.lit.yes = value-same n e es l.var.0 t same in
      elim (s.0 q).1 [
        | inl assumed ↦
            let is : e.lit ≡ l = apart e.lit assumed (sym same) in
            not_both (values_of n (e ∷ es)) l f (here ∙ ap (λ (x : Lit). Some x.yes) is)
        | inr all ↦
            let on = All-contains (IsTrueIn (values_of n es)) assume l all has in
            let z : Some l.yes ≡ None = sym on ∙ (ap (value_of (values_of n es)) same ∙ t.1) in cc
      ])
  by_why same (Clause id) q = (id, level_of (e ∷ es), why_in-same e es l.var.0 same ∙ ap (λ w. Some (w, level_of (e ∷ es))) q)

-- Where an assumption is false, each decision is an assumption.
decision_assumed : (cs : List (Option (List Lit))) (n : ℕ) (assume : List Lit) (l : Lit) (es : List Entry) → IsTrail n es → Stands cs n assume es → Contains assume l → (IsTrueIn (values_of n es) l → ⊥) → (e : Entry) (i : ℕ) → i < length es → get_or es i e ≡ e → e.why ≡ Decision → Contains assume e.lit
decision_assumed cs n assume l [] t s has f e i within is why = absurd (omega arith)
decision_assumed cs n assume l (x ∷ es) t s has f e zero within is why = elim (s.0 (ap (λ (y : Entry). y.why) is ∙ why)).1 [
  | inl assumed ↦ subst (λ (y : Entry). Contains assume y.lit) is assumed
  | inr all ↦ absurd (f (value-newer n (x ∷ []) es l.var.0 l.yes t (All-contains (IsTrueIn (values_of n es)) assume l all has)))
]
decision_assumed cs n assume l (x ∷ es) t s has f e (suc i) within is why =
    decision_assumed cs n assume l es t.2 s.1 has (λ on. f (value-newer n (x ∷ []) es l.var.0 l.yes t on)) e i (omega arith) is why

no_decision : (es : List Entry) (e : Entry) (i : ℕ) → level_of es ≡ 0 → i < length es → get_or es i e ≡ e → e.why ≡ Decision → ⊥
no_decision [] e i ground within is why = absurd (omega arith)
no_decision (x ∷ es) e zero ground within is why =
    let z : level_of (x ∷ es) ≡ suc (level_of es) = ap (λ w. level_after w (level_of es)) (ap (λ (y : Entry). y.why) is ∙ why) in absurd (omega (arith, z, ground))
no_decision (x ∷ es) e (suc i) ground within is why =
    let g = level_after-le x.why (level_of es) in no_decision es e i (omega (arith, g, ground)) (omega arith) is why

-- What is blamed for a false assumption holds opposites of assumptions alone; and so does what is blamed for a false
-- clause where no level is open.
pub against_negated : (s : State) (assume : List Lit) (l : Lit) (c : List Lit) → IsTrail s.places s.entries → Stands s.clauses s.places assume s.entries → Contains assume l → IsFalseIn (assigned s) l → All (IsBlamed s.entries (Against l)) c → IsNegated assume c
against_negated s assume l c t stands has f blamed k d within = elim (blamed k d within) [
  | inl undone ↦
      let at = decision_assumed s.clauses s.places assume l s.entries t stands has (λ on. not_both (assigned s) l f on) undone.1 undone.0 undone.2 undone.3 undone.4.0 in
      subst (Contains assume) (opposite_twice undone.1.lit (get_or c k d) undone.4.1) at
  | inr own ↦ subst (Contains assume) (opposite_twice l (get_or c k d) own) has
]

pub ground_negated : (s : State) (assume : List Lit) (id : ClauseId) (c : List Lit) → level_of s.entries ≡ 0 → All (IsBlamed s.entries (Conflict id)) c → IsNegated assume c
ground_negated s assume id c ground blamed k d within = elim (blamed k d within) [
  | inl undone ↦ absurd (no_decision s.entries undone.1 undone.0 ground undone.2 undone.3 undone.4.0)
  | inr own ↦ absurd own
]

-- a clause of opposites of assumptions is new where no such clause is kept
pub negated_is_new : (cs : List (Option (List Lit))) (assume c : List Lit) → NoneRefuting cs assume → IsNegated assume c → IsNew (clause_at cs) c
negated_is_new cs assume c none neg id d at part =
    none id d at (λ k x within. let q = part k x within in subst (λ (y : Lit). Contains assume (opposite y)) q.2 (neg q.0 (get_or d k x) q.1))

-- ---- where clauses are let go

settled_fewer : (cs ds : List (Option (List Lit))) (a : List (Option Bool)) → HasAll ds cs → AllSettled cs a → AllSettled ds a
settled_fewer cs ds a fewer h id c at = h id c (fewer id c at)

pub stands_fewer : (cs ds : List (Option (List Lit))) (n : ℕ) (assume : List Lit) (es : List Entry) → HasAll ds cs → Stands cs n assume es → Stands ds n assume es
stands_fewer cs ds n assume [] fewer s = tt
stands_fewer cs ds n assume (e ∷ es) fewer s = ((λ why. let x = s.0 why in (settled_fewer cs ds (values_of n es) fewer x.0, x.1)), stands_fewer cs ds n assume es fewer s.1)

pub none_fewer : (cs ds : List (Option (List Lit))) (assume : List Lit) → HasAll ds cs → NoneRefuting cs assume → NoneRefuting ds assume
none_fewer cs ds assume fewer none id c at = none id c (fewer id c at)

-- ---- what was true stays true

pub true_grew : (old new : State) → new ≡ record old { entries = new.entries } → Grew old.clauses old.places old.entries new.entries → IsTrail new.places new.entries → (l : Lit) → IsTrueIn (assigned old) l → IsTrueIn (assigned new) l
true_grew old new same grew trail l h =
    let places : new.places ≡ old.places = ap (λ (s : State). s.places) same in
    let t : IsTrail old.places (grew.more ++ old.entries) = subst (IsTrail old.places) grew.new_is (subst (λ n. IsTrail n new.entries) places trail) in
    let x : value_of (values_of old.places (grew.more ++ old.entries)) l.var.0 ≡ Some l.yes = value-newer old.places grew.more old.entries l.var.0 l.yes t h in
    subst (λ n. value_of (values_of n new.entries) l.var.0 ≡ Some l.yes) (sym places) (subst (λ es. value_of (values_of old.places es) l.var.0 ≡ Some l.yes) (sym grew.new_is) x)

-- the state after a decision
abbrev pub decided : State → Lit → State
decided s l = record s { entries = record { lit = l; why = Decision } ∷ s.entries }

pub true_decided : (s : State) (l m : Lit) → l.var.0 < s.places → IsFreeIn (assigned s) l → IsTrail s.places s.entries → IsTrueIn (assigned s) m → IsTrueIn (assigned (decided s l)) m
true_decided s l m within free trail h =
    let e : Entry = record { lit = l; why = Decision } in
    value-newer s.places (e ∷ []) s.entries m.var.0 m.yes (within, free, trail) h
