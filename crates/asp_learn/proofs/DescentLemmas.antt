-- The steps of the way down.
use Rattle.std.proofs.Common.{◌≡◌, ℕ, suc, ◌+◌, ◌<◌, ◌≤◌, ◌≢◌, inl, inr, ◌++◌, Bool, true, false, not, List, [], ◌∷◌, cond, ◌==◌, length, Option, Some, None, get_or, set, reverse, refl, ap, sym, ◌∙◌, subst, arith, length-set, append_assoc}
use Rattle.std.specs.Prelude.{Any, count_by}
use Rattle.std.specs.List.{All}
use Rattle.std.proofs.lemmas.Bool.{cases_eq, cases_lt}
use Rattle.std.proofs.lemmas.List.{get_or-set_same, get_or-set_other, get_or_default, reverse-append}
use Rattle.std.proofs.lemmas.List.Sums.{sum_by-set}
use Rattle.std.proofs.lemmas.List.Elements.{All-contains, All-push, All-weaker, Contains-append_left}
use Rattle.std.proofs.lemmas.List.Quantifiers.{Any-push}
use Rattle.theory_form.specs.declared.literals.Lit.{Lit}
use Rattle.theory_form.specs.declared.literals.ClauseId.{ClauseId}
use Rattle.theory_form.specs.declared.literals.Var.{Var}
use Rattle.theory_form.specs.Hints.{Follows, made_true}
use Rattle.theory_form.specs.Truth.{value_of, IsFalseIn}
use Rattle.asp_trail.specs.declared.Entry.{Entry}
use Rattle.asp_trail.specs.declared.Why.{Why}
use Rattle.asp_trail.specs.declared.Why.TheVariants.{Decision, Clause}
use Rattle.asp_trail.specs.Trail.{values_of, why_in, level_of, level_after, IsTrail}
use Rattle.asp_trail.proofs.TrailLemmas.{get_or-replicate_none, length-values_of, value_within}
use Rattle.asp_store.specs.Store.{State, assigned, clause_at, HasReason, HasReasons, IsReason, IsStore}
use Rattle.asp_learn.specs.declared.descents.Descent.{Descent}
use Rattle.asp_learn.specs.declared.descents.Frame.{Frame}
use Rattle.asp_learn.specs.Blames.{IsImplied}
use Rattle.asp_learn.specs.Conflicts.{before, level_in, Implies, Mentions}
use Rattle.asp_learn.specs.Descents.{rank, Brings, Descended, Explained, IsAtRest, IsClosed, IsDecided, IsDescended, IsEntered, IsEnteredFor, IsFrame, IsPath, IsReached, OnPath, Within}
use Rattle.asp_learn.specs.Marked.{has}
use Rattle.asp_learn.proofs.GatherLemmas.{Any-append_left, Sees, sees_here, sees_kept, sees_other}
use Rattle.asp_learn.proofs.LevelLemmas.{bool_cases, before-same, before-other, other_from_value, value-other, value-same, level_in-other, level_in-same, why_in-same, why_in-other}
use Rattle.asp_learn.proofs.FalseLemmas.{all_from_contains}
use Rattle.asp_learn.proofs.MarkedLemmas.{has-push, not_true_false}
use Rattle.asp_learn.proofs.WalkLemmas.{Follows-reason}

-- a variable with a value has fewer entries before it than there are
before_shorter : (n : ℕ) (es : List Entry) (v : ℕ) (y : Bool) → value_of (values_of n es) v ≡ Some y → length (before es v) < length es
before_shorter n [] v y some = absurd (let z : Some y ≡ None = sym some ∙ get_or-replicate_none n v in cc)
before_shorter n (e ∷ es) v y some = elim (cases_eq v e.lit.var.0) [
  | inl same ↦ let b = before-same e es v same in rw b (omega arith)
  | inr other ↦
      let b = before-other e es v other in
      let ih = before_shorter n es v y (sym (value-other n e es v other) ∙ some) in
      rw b (omega (arith, ih))
]

-- a variable with a value was assigned for a reason
pub why_there : (n : ℕ) (es : List Entry) (v : ℕ) (y : Bool) → value_of (values_of n es) v ≡ Some y → why_in es v ≡ None → ⊥
why_there n [] v y some none = absurd (let z : Some y ≡ None = sym some ∙ get_or-replicate_none n v in cc)
why_there n (e ∷ es) v y some none = elim (cases_eq v e.lit.var.0) [
  | inl same ↦ absurd (let z : ◌≡◌ {A = Option (Why × ℕ)} (Some (e.why, level_of (e ∷ es))) None = sym (why_in-same e es v same) ∙ none in cc)
  | inr other ↦ why_there n es v y (sym (value-other n e es v other) ∙ some) (sym (why_in-other e es v other) ∙ none)
]

pub why_is : (a b : Why) (k m : ℕ) → ◌≡◌ {A = Option (Why × ℕ)} (Some (a, k)) (Some (b, m)) → a ≡ b
why_is a b k m h = let pair : ◌≡◌ {A = Why × ℕ} (a, k) (b, m) = cc in ap (λ (z : Why × ℕ). z.0) pair

-- a decision opened a level
pub decision_level : (es : List Entry) (v level : ℕ) → why_in es v ≡ Some (Decision, level) → 0 < level_in es v
decision_level [] v level why = absurd (let z : ◌≡◌ {A = Option (Why × ℕ)} None (Some (Decision, level)) = why in cc)
decision_level (e ∷ es) v level why = elim (cases_eq v e.lit.var.0) [
  | inl same ↦
      let is : e.why ≡ Decision = why_is e.why Decision (level_of (e ∷ es)) level (sym (why_in-same e es v same) ∙ why) in
      let at : level_in (e ∷ es) v ≡ suc (level_of es) = level_in-same e es v same ∙ ap (λ w. level_after w (level_of es)) is in
      omega (arith, at)
  | inr other ↦
      let ih = decision_level es v level (sym (why_in-other e es v other) ∙ why) in
      let at = level_in-other e es v other in
      omega (arith, at, ih)
]

-- a literal of the reason other than the implied one: it is false, and was assigned before
pub record IsOlder (n : ℕ) (es : List Entry) (w : ℕ) (l : Lit) : Type 0 where
  pub is_false : IsFalseIn (values_of n es) l
  pub other : l.var.0 ≢ w
  pub older : length (before es l.var.0) < length (before es w)

-- the reason of a variable
pub record ReasonOf (cs : List (Option (List Lit))) (n : ℕ) (es : List Entry) (w : ℕ) (id : ℕ) : Type 0 where
  pub clause : List Lit
  pub stored : clause_at cs id ≡ Some clause
  pub place : ℕ
  pub inside : place < length clause
  pub literal : Lit
  pub is : (d : Lit) → get_or clause place d ≡ literal
  pub var : literal.var.0 ≡ w
  pub holds : value_of (values_of n es) w ≡ Some literal.yes
  pub others : (k : ℕ) (d : Lit) → k < length clause → k ≢ place → IsOlder n es w (get_or clause k d)

pub reason_of : (cs : List (Option (List Lit))) (n : ℕ) (es : List Entry) (w : ℕ) (id : ClauseId) (level : ℕ) → IsTrail n es → HasReasons cs n es → why_in es w ≡ Some (Clause id, level) → ReasonOf cs n es w id.0
reason_of cs n [] w id level t h why = absurd (let e : None ≡ Some (Clause id, level) = why in cc)
reason_of cs n (e ∷ es) w id level t h why = elim (cases_eq w e.lit.var.0) [
  | inl same ↦
      let is : e.why ≡ Clause id = why_is e.why (Clause id) (level_of (e ∷ es)) level (sym (why_in-same e es w same) ∙ why) in
      let r : IsReason cs (values_of n es) e.lit id.0 = subst (HasReason cs (values_of n es) e.lit) is h.0 in
      let b = before-same e es w same in
      record {
        clause = r.clause;
        stored = r.stored;
        place = r.place;
        inside = r.unit.free.within;
        literal = e.lit;
        is = r.lit_is;
        var = sym same;
        holds = value-same n e es w t same;
        others = λ k d within other.
            let l : Lit = get_or r.clause k d in
            let f : IsFalseIn (values_of n es) l = (r.unit.rest k within other).holds d in
            let apart = other_from_value n e es l.var.0 (not l.yes) t f in
            let shorter = before_shorter n es l.var.0 (not l.yes) f in
            let c = before-other e es l.var.0 apart in
            record {
              is_false = value-other n e es l.var.0 apart ∙ f;
              other = λ x. apart (x ∙ same);
              older = rw (b, c) shorter;
            };
      }
  | inr differs ↦
      let r = reason_of cs n es w id level t.2 h.1 (sym (why_in-other e es w differs) ∙ why) in
      let b = before-other e es w differs in
      record {
        clause = r.clause;
        stored = r.stored;
        place = r.place;
        inside = r.inside;
        literal = r.literal;
        is = r.is;
        var = r.var;
        holds = value-other n e es w differs ∙ r.holds;
        others = λ k d within other.
            let l : Lit = get_or r.clause k d in
            let x = r.others k d within other in
            let apart = other_from_value n e es l.var.0 (not l.yes) t x.is_false in
            let c = before-other e es l.var.0 apart in
            let older = x.older in
            record {
              is_false = value-other n e es l.var.0 apart ∙ x.is_false;
              other = x.other;
              older = rw (b, c) older;
            };
      }
]

-- a literal of the reason leads to the variable
pub reason_implies : (s : State) (w : ℕ) (id : ClauseId) (level : ℕ) (c : List Lit) (v : ℕ) → why_in s.entries w ≡ Some (Clause id, level) → clause_at s.clauses id.0 ≡ Some c → Any (λ l. l.var.0 ≡ v) c → v ≢ w → Implies s v w
reason_implies s w id level c v why stored some other = record {
  other = other;
  id = id;
  level = level;
  why = why;
  mentions = record { clause = c; stored = stored; literal = some };
}

-- paths

pub path_map : (s : State) (p q done done' : ℕ → Bool) (least : ℕ) (path : List Frame) → ((v : ℕ) → p v ≡ true → q v ≡ true) → ((v : ℕ) → least ≤ rank s v → done v ≡ false → done' v ≡ false) → IsPath s p done least path → IsPath s q done' least path
path_map s p q done done' least [] kept off h = tt
path_map s p q done done' least (f ∷ outer) kept off h =
    let x = h.0 in
    let low = h.1 in (
      record {
        level = x.level;
        why = x.why;
        met = kept f.var.0 x.met;
        waits = off f.var.0 low x.waits;
        clause = x.clause;
        stored = x.stored;
        front = λ k d before within. kept (get_or x.clause k d).var.0 (x.front k d before within);
      },
      low,
      path_map s p q done done' (suc (rank s f.var.0)) outer kept (λ v at. off v (omega (arith, low, at))) h.2,
    )

pub path_rank : (s : State) (p done : ℕ → Bool) (least : ℕ) (path : List Frame) (v : ℕ) → IsPath s p done least path → OnPath path v → least ≤ rank s v
path_rank s p done least [] v h on = absurd on
path_rank s p done least (f ∷ outer) v h on = elim on [
  | inl here ↦ let low = h.1 in subst (λ w. least ≤ rank s w) here low
  | inr there ↦ let low = h.1 in let x = path_rank s p done (suc (rank s f.var.0)) outer v h.2 there in omega (arith, low, x)
]

pub path_least : (s : State) (p done : ℕ → Bool) (least less : ℕ) (path : List Frame) → less ≤ least → IsPath s p done least path → IsPath s p done less path
path_least s p done least less [] le h = tt
path_least s p done least less (f ∷ outer) le h = let low = h.1 in (h.0, omega (arith, le, low), h.2)

-- one hint more

module _ (s : State) (done : ℕ → Bool) (lits : List Lit) (decided : All (IsDecided s) lits) where
  pub brings_kept : (hints : List ClauseId) (l : Lit) → Brings s done lits hints → Brings s done (lits ++ l ∷ []) hints
  brings_kept hints l h a rest len free falses k =
      h a rest len free (all_from_contains (IsFalseIn a) lits (λ m has. All-contains (IsFalseIn a) (lits ++ l ∷ []) m falses (Contains-append_left lits (l ∷ []) m has))) k

  -- the value of a reached variable, where the done ones have theirs
  pub reached_value : (a b : List (Option Bool)) (v : ℕ) → IsReached done lits v → All (IsFalseIn a) lits → ((v : ℕ) → done v ≡ true → value_of b v ≡ value_of (assigned s) v) → ((v : ℕ) → done v ≡ false → value_of b v ≡ value_of a v) → value_of b v ≡ value_of (assigned s) v
  reached_value a b v reached falses on off = elim (bool_cases (done v)) [
    | inl yes' ↦ on v yes'
    | inr no' ↦ elim reached [
      | inl yes' ↦ absurd (not_true_false (done v) yes' no')
      | inr l ↦
          let at_a = All-contains (IsFalseIn a) lits l.1 falses (l.0, l.2, l.3) in
          let at_s = (All-contains (IsDecided s) lits l.1 decided (l.0, l.2, l.3)).is_false in
          off v no' ∙ subst (λ w. value_of a w ≡ value_of (assigned s) w) l.4 (at_a ∙ sym at_s)
    ]
  ]

  pub brings_more : (hints : List ClauseId) (w : ℕ) (id : ClauseId) (done' : ℕ → Bool) (r : ReasonOf s.clauses s.places s.entries w id.0) → Sees done done' w → done w ≡ false → ((k : ℕ) (d : Lit) → k < length r.clause → k ≢ r.place → IsReached done lits (get_or r.clause k d).var.0) → w < s.places → Brings s done lits hints → Brings s done' lits (hints ++ id ∷ [])
  brings_more hints w id done' r sees waits reached within h a rest len free falses k =
      let look = clause_at s.clauses in
      let on' : (v : ℕ) → done v ≡ true → done' v ≡ true = λ v. sees_kept done done' w v sees in
      subst (λ ids. Follows look a ids) (sym (append_assoc hints (id ∷ []) rest)) (h a (id ∷ rest) len (λ v on. free v (on' v on)) falses (λ b blen on off.
      let none : value_of b w ≡ None = off w waits ∙ free w (sees_here done done' w sees) in
      let inside : w < length b = rw blen within in
      Follows-reason look b id r.clause r.literal rest r.stored
      (record {
        place = r.place;
        unit = record {
          free = record { within = r.inside; holds = λ d. subst (λ (l : Lit). value_of b l.var.0 ≡ None) (sym (r.is d)) (subst (λ v. value_of b v ≡ None) (sym r.var) none) };
          rest = λ j inside_j other. record {
            within = inside_j;
            holds = λ d. reached_value a b (get_or r.clause j d).var.0 (reached j d inside_j other) falses on off ∙ (r.others j d inside_j other).is_false;
          };
        };
        lit_is = r.is;
      })
      (k (made_true b r.literal) (length-set b r.literal.var.0 (Some r.literal.yes) ∙ blen)
      (λ v on_v. elim (cases_eq v w) [
        | inl same ↦
            let set_w : value_of (made_true b r.literal) w ≡ Some r.literal.yes = subst (λ x. value_of (made_true b r.literal) x ≡ Some r.literal.yes) r.var (get_or-set_same b r.literal.var.0 (Some r.literal.yes) None (subst (λ x. x < length b) (sym r.var) inside)) in
            subst (λ x. value_of (made_true b r.literal) x ≡ value_of (assigned s) x) (sym same) (set_w ∙ sym r.holds)
        | inr other ↦
            get_or-set_other b r.literal.var.0 v (Some r.literal.yes) None (λ x. other (x ∙ r.var))
            ∙ on v (sym (sees_other done done' w v sees other) ∙ on_v)
      ])
      (λ v off_v. elim (cases_eq v w) [
        | inl same ↦ absurd (not_true_false (done' w) (sees_here done done' w sees) (subst (λ x. done' x ≡ false) same off_v))
        | inr other ↦
            get_or-set_other b r.literal.var.0 v (Some r.literal.yes) None (λ x. other (x ∙ r.var))
            ∙ off v (sym (sees_other done done' w v sees other) ∙ off_v)
      ]))))

-- the way down begins and ends

pub descended_start : (s : State) (p : ℕ → Bool) (lits : List Lit) (hints : List ClauseId) → IsTrail s.places s.entries → IsStore s.clauses s.entries s.places → ((v : ℕ) → p v ≡ false) → lits ≡ [] → hints ≡ [] → Descended s p [] lits hints
descended_start s p lits hints trail store none no_literal no_hint = rw (no_literal, no_hint) (record {
  trail = trail;
  store = store;
  done = λ v. false;
  done_met = λ v on. absurd (let z : false ≡ true = on in cc);
  implied = λ v on. absurd (let z : false ≡ true = on in cc);
  reached = λ v on. absurd (not_true_false (p v) on (none v));
  on_path = tt;
  decided = λ k d within. absurd (omega arith);
  lits_met = λ k d within. absurd (omega arith);
  brings = λ a rest len free falses k. k a len (λ v on. absurd (let z : false ≡ true = on in cc)) (λ v off. refl);
})

reached_more : (done done' : ℕ → Bool) (lits : List Lit) (more : List Lit) (v : ℕ) → ((w : ℕ) → done w ≡ true → done' w ≡ true) → IsReached done lits v → IsReached done' (lits ++ more) v
reached_more done done' lits more v kept h = elim h [
  | inl on ↦ inl (kept v on)
  | inr some ↦ inr (Any-append_left (λ (l : Lit). l.var.0 ≡ v) lits more some)
]

reached_on : (done done' : ℕ → Bool) (lits : List Lit) (v : ℕ) → ((w : ℕ) → done w ≡ true → done' w ≡ true) → IsReached done lits v → IsReached done' lits v
reached_on done done' lits v kept h = elim h [ inl on ↦ inl (kept v on) | inr some ↦ inr some ]

-- A variable is entered. The path is `outer` then, in which the literal that led there counts as met.
module _ {s : State} {p : ℕ → Bool} {path : List Frame} {lits : List Lit} {hints : List ClauseId} (h : Descended s p path lits hints) (q : ℕ → Bool) (l : Lit) (sees : Sees p q l.var.0) (fresh : p l.var.0 ≡ false) (outer : List Frame) (same_path : (v : ℕ) → OnPath path v → OnPath outer v) (is_outer : IsPath s q h.done (suc (rank s l.var.0)) outer) where
  kept_q : (v : ℕ) → p v ≡ true → q v ≡ true
  kept_q v = sees_kept p q l.var.0 v sees

  pub entered_implied : (id : ClauseId) (level : ℕ) → why_in s.entries l.var.0 ≡ Some (Clause id, level) → Descended s q (record { var = l.var; id = id; place = 0 } ∷ outer) lits hints
  entered_implied id level why =
      let r = reason_of s.clauses s.places s.entries l.var.0 id level h.trail h.store.reasons why in
      let waits : h.done l.var.0 ≡ false = elim (bool_cases (h.done l.var.0)) [
        | inl on ↦ absurd (not_true_false (p l.var.0) (h.done_met l.var.0 on) fresh)
        | inr off ↦ off
      ] in
      record {
        trail = h.trail;
        store = h.store;
        done = h.done;
        done_met = λ v on. kept_q v (h.done_met v on);
        implied = h.implied;
        reached = λ v on. elim (cases_eq v l.var.0) [
          | inl same ↦ inr (inl (sym same))
          | inr other ↦ elim (h.reached v (sym (sees_other p q l.var.0 v sees other) ∙ on)) [
            | inl done ↦ inl done
            | inr there ↦ inr (inr (same_path v there))
          ]
        ];
        on_path = (
          record {
            level = level;
            why = why;
            met = sees_here p q l.var.0 sees;
            waits = waits;
            clause = r.clause;
            stored = r.stored;
            front = λ k d before within. absurd (omega arith);
          },
          omega arith,
          is_outer,
        );
        decided = h.decided;
        lits_met = All-weaker (λ (m : Lit). p m.var.0 ≡ true) (λ (m : Lit). q m.var.0 ≡ true) (λ m on. kept_q m.var.0 on) lits h.lits_met;
        brings = h.brings;
      }

  pub entered_decided : (level : ℕ) → why_in s.entries l.var.0 ≡ Some (Decision, level) → IsFalseIn (assigned s) l → Descended s q outer (lits ++ l ∷ []) hints
  entered_decided level why falses = record {
    trail = h.trail;
    store = h.store;
    done = h.done;
    done_met = λ v on. kept_q v (h.done_met v on);
    implied = h.implied;
    reached = λ v on. elim (cases_eq v l.var.0) [
      | inl same ↦ inl (inr (Any-push (λ (m : Lit). m.var.0 ≡ v) lits l (sym same)))
      | inr other ↦ elim (h.reached v (sym (sees_other p q l.var.0 v sees other) ∙ on)) [
        | inl done ↦ inl (reached_more h.done h.done lits (l ∷ []) v (λ w x. x) done)
        | inr there ↦ inr (same_path v there)
      ]
    ];
    on_path = path_least s q h.done (suc (rank s l.var.0)) 0 outer (omega arith) is_outer;
    decided = All-push (IsDecided s) lits l h.decided (record { is_false = falses; level = level; why = why });
    lits_met = All-push (λ (m : Lit). q m.var.0 ≡ true) lits l (All-weaker (λ (m : Lit). p m.var.0 ≡ true) (λ (m : Lit). q m.var.0 ≡ true) (λ m on. kept_q m.var.0 on) lits h.lits_met) (sees_here p q l.var.0 sees);
    brings = brings_kept s h.done lits h.decided hints l h.brings;
  }

-- what is met stays within closed sets

pub within_entered : (s : State) (set p q : ℕ → Bool) (hints : List ClauseId) (v : ℕ) → Sees p q v → set v ≡ true → Within s set p hints → Within s set q hints
within_entered s set p q hints v sees on h = record {
  met = λ w at. elim (cases_eq w v) [
    | inl here ↦ subst (λ x. set x ≡ true) (sym here) on
    | inr other ↦ h.met w (sym (sees_other p q v w sees other) ∙ at)
  ];
  named = h.named;
}

pub within_left : (s : State) (set p : ℕ → Bool) (hints : List ClauseId) (w : ℕ) (id : ClauseId) (level : ℕ) → IsClosed s set → why_in s.entries w ≡ Some (Clause id, level) → p w ≡ true → Within s set p hints → Within s set p (hints ++ id ∷ [])
within_left s set p hints w id level closed why met h = record {
  met = h.met;
  named = All-push (λ (k : ClauseId). (v : ℕ) → Mentions s k.0 v → set v ≡ true) hints id h.named (λ v m. elim (cases_eq v w) [
    | inl here ↦ subst (λ x. set x ≡ true) (sym here) (h.met w met)
    | inr other ↦ closed v w (reason_implies s w id level m.clause v why m.stored m.literal other) (h.met w met)
  ]);
}

pub within_start : (s : State) (set p : ℕ → Bool) (hints : List ClauseId) → ((v : ℕ) → p v ≡ false) → hints ≡ [] → Within s set p hints
within_start s set p hints none no_hint = rw no_hint (record {
  met = λ v on. absurd (not_true_false (p v) on (none v));
  named = λ k d within. absurd (omega arith);
})

-- The innermost frame.
module _ {s : State} {p : ℕ → Bool} {f : Frame} {outer : List Frame} {lits : List Lit} {hints : List ClauseId} (h : Descended s p (f ∷ outer) lits hints) (c : List Lit) (at : clause_at s.clauses f.id.0 ≡ Some c) where
  frame : IsFrame s p h.done f
  frame = h.on_path.0

  frame_reason : ReasonOf s.clauses s.places s.entries f.var.0 f.id.0
  frame_reason = reason_of s.clauses s.places s.entries f.var.0 f.id frame.level h.trail h.store.reasons frame.why

  same_clause : (d : List Lit) → clause_at s.clauses f.id.0 ≡ Some d → d ≡ c
  same_clause d stored = let z : Some d ≡ Some c = sym stored ∙ at in cc

  -- what was met before its place
  front_met : (k : ℕ) (d : Lit) → k < f.place → k < length c → p (get_or c k d).var.0 ≡ true
  front_met k d before within =
      let same = same_clause frame.clause frame.stored in
      subst (λ xs. p (get_or xs k d).var.0 ≡ true) same (frame.front k d before (subst (λ xs. k < length xs) (sym same) within))

  -- another literal of its reason
  pub literal_older : (k : ℕ) (d : Lit) → k < length c → p (get_or c k d).var.0 ≡ false → IsOlder s.places s.entries f.var.0 (get_or c k d)
  literal_older k d within off =
      let r = frame_reason in
      let same = same_clause r.clause r.stored in
      subst (λ xs. IsOlder s.places s.entries f.var.0 (get_or xs k d)) same (r.others k d (subst (λ xs. k < length xs) (sym same) within) (λ place.
      absurd (not_true_false (p f.var.0) frame.met (sym (ap p (ap (λ (l : Lit). l.var.0) (sym (ap (λ xs. get_or xs k d) same) ∙ (ap (λ i. get_or r.clause i d) place ∙ r.is d)) ∙ r.var)) ∙ off))))

  -- all of it was met where what is behind its place was
  pub all_met : ((k : ℕ) (d : Lit) → f.place ≤ k → k < length c → p (get_or c k d).var.0 ≡ true) → (k : ℕ) (d : Lit) → k < length c → p (get_or c k d).var.0 ≡ true
  all_met behind k d within = elim (cases_lt k f.place) [
    | inl before ↦ front_met k d before within
    | inr after ↦ behind k d after within
  ]

  -- what is met next, and the key, stay within closed sets
  pub frame_within : (set : ℕ → Bool) (ids : List ClauseId) (k : ℕ) (d : Lit) → k < length c → p (get_or c k d).var.0 ≡ false → IsClosed s set → Within s set p ids → set (get_or c k d).var.0 ≡ true
  frame_within set ids k d within off closed h' =
      let o = literal_older k d within off in
      closed (get_or c k d).var.0 f.var.0
      (reason_implies s f.var.0 f.id frame.level c (get_or c k d).var.0 frame.why at (k, get_or c k d, within, get_or_default c k (get_or c k d) d within, refl) o.other)
      (h'.met f.var.0 frame.met)

  pub left_within : (set : ℕ → Bool) (ids : List ClauseId) → IsClosed s set → Within s set p ids → Within s set p (ids ++ f.id ∷ [])
  left_within set ids closed h' = within_left s set p ids f.var.0 f.id frame.level closed frame.why frame.met h'

  -- all of its reason was met: the reason is a hint
  pub left_frame : ((k : ℕ) (d : Lit) → k < length c → p (get_or c k d).var.0 ≡ true) → Descended s p outer lits (hints ++ f.id ∷ [])
  left_frame all =
      let r = frame_reason in
      let same = same_clause r.clause r.stored in
      let done' : ℕ → Bool = λ v. cond (f.var.0 == v) true (h.done v) in
      let sees : Sees h.done done' f.var.0 = record { at = λ v. refl } in
      let kept : (v : ℕ) → h.done v ≡ true → done' v ≡ true = λ v. sees_kept h.done done' f.var.0 v sees in
      let reached : (k : ℕ) (d : Lit) → k < length r.clause → k ≢ r.place → IsReached h.done lits (get_or r.clause k d).var.0 = λ k d within other.
      let x = r.others k d within other in
      elim (h.reached (get_or r.clause k d).var.0 (subst (λ xs. p (get_or xs k d).var.0 ≡ true) (sym same) (all k d (subst (λ xs. k < length xs) same within)))) [
        | inl there ↦ there
        | inr on_path ↦ elim on_path [
          | inl here ↦ absurd (x.other (sym here))
          | inr up ↦
              let above = path_rank s p h.done (suc (rank s f.var.0)) outer (get_or r.clause k d).var.0 h.on_path.2 up in
              let older = x.older in
              absurd (omega (arith, above, older))
        ]
      ] in
      record {
        trail = h.trail;
        store = h.store;
        done = done';
        done_met = λ v on. elim (cases_eq v f.var.0) [
          | inl here ↦ subst (λ w. p w ≡ true) (sym here) frame.met
          | inr other ↦ h.done_met v (sym (sees_other h.done done' f.var.0 v sees other) ∙ on)
        ];
        implied = λ v on. elim (cases_eq v f.var.0) [
          | inl here ↦ subst (IsImplied s.entries) (sym here) (f.id, frame.level, frame.why)
          | inr other ↦ h.implied v (sym (sees_other h.done done' f.var.0 v sees other) ∙ on)
        ];
        reached = λ v on. elim (h.reached v on) [
          | inl there ↦ inl (reached_on h.done done' lits v kept there)
          | inr on_path ↦ elim on_path [
            | inl here ↦ inl (inl (subst (λ w. done' w ≡ true) here (sees_here h.done done' f.var.0 sees)))
            | inr up ↦ inr up
          ]
        ];
        on_path = path_least s p done' (suc (rank s f.var.0)) 0 outer (omega arith)
            (path_map s p p h.done done' (suc (rank s f.var.0)) outer (λ v x. x) (λ v above off. sees_other h.done done' f.var.0 v sees (λ here. absurd (let e = ap (rank s) here in omega (arith, above, e))) ∙ off) h.on_path.2);
        decided = h.decided;
        lits_met = h.lits_met;
        brings = brings_more s h.done lits h.decided hints f.var.0 f.id done' r sees frame.waits reached (subst (λ n. f.var.0 < n) (length-values_of s.places s.entries) (value_within (assigned s) f.var.0 r.literal.yes r.holds)) h.brings;
      }

  -- the path with the frame gone over up to a literal, under which this counts as met
  pub frame_on : (q : ℕ → Bool) (k : ℕ) (d : Lit) → k < length c → Sees p q (get_or c k d).var.0 → p (get_or c k d).var.0 ≡ false → ((j : ℕ) (x : Lit) → f.place ≤ j → j < k → p (get_or c j x).var.0 ≡ true) → IsPath s q h.done (suc (rank s (get_or c k d).var.0)) (record { var = f.var; id = f.id; place = k + 1 } ∷ outer)
  frame_on q k d within sees off skipped =
      let l : Lit = get_or c k d in
      let older = (literal_older k d within off).older in
      let kept : (v : ℕ) → p v ≡ true → q v ≡ true = λ v. sees_kept p q l.var.0 v sees in (
        record {
          level = frame.level;
          why = frame.why;
          met = kept f.var.0 frame.met;
          waits = frame.waits;
          clause = c;
          stored = at;
          front = λ j x before inside. elim (cases_eq j k) [
            | inl here ↦
                let is : get_or c j x ≡ l = ap (λ i. get_or c i x) here ∙ get_or_default c k x d within in
                subst (λ (m : Lit). q m.var.0 ≡ true) (sym is) (sees_here p q l.var.0 sees)
            | inr other ↦ kept (get_or c j x).var.0 (met_before j x inside (omega (arith, before, other)))
          ];
        },
        omega (arith, older),
        path_map s p q h.done h.done (suc (rank s f.var.0)) outer kept (λ v above x. x) h.on_path.2,
      ) where
        met_before : (j : ℕ) (x : Lit) → j < length c → j < k → p (get_or c j x).var.0 ≡ true
        met_before j x inside before = elim (cases_lt j f.place) [
          | inl under ↦ front_met j x under inside
          | inr over ↦ skipped j x over before
        ]

-- by what a call did

descended_at : {s : State} {p : ℕ → Bool} {path path' : List Frame} {lits lits' : List Lit} {hints hints' : List ClauseId} → path' ≡ path → lits' ≡ lits → hints' ≡ hints → Descended s p path lits hints → Descended s p path' lits' hints'
descended_at same_path same_lits same_hints h = rw (same_path, same_lits, same_hints) h

pub seen_sees : (old new : List Var) (v : Var) → new ≡ old ++ v ∷ [] → Sees (has old) (has new) v.0
seen_sees old new v is = record { at = λ w. subst (λ vars. has vars w ≡ cond (v.0 == w) true (has old w)) (sym is) (has-push old v w) }

pub reverse_push : (path : List Frame) (f : Frame) → reverse (path ++ f ∷ []) ≡ f ∷ reverse path
reverse_push path f = reverse-append path (f ∷ [])

-- the path and the literals after a variable was entered
abbrev AfterEntry : Why → Lit → List Frame → List Lit → Descent → Type 0
AfterEntry Decision l outer lits new = (reverse new.path.items ≡ outer) × (new.lits.items ≡ lits ++ l ∷ [])
AfterEntry (Clause id) l outer lits new = (reverse new.path.items ≡ record { var = l.var; id = id; place = 0 } ∷ outer) × (new.lits.items ≡ lits)

after_entry : (why : Why) (l : Lit) (outer : List Frame) (lits : List Lit) (old new : Descent) → IsEnteredFor why l old new → reverse old.path.items ≡ outer → old.lits.items ≡ lits → AfterEntry why l outer lits new
after_entry Decision l outer lits old new x turn same = (ap reverse x.0 ∙ turn, x.1 ∙ ap (λ ls. ls ++ l ∷ []) same)
after_entry (Clause id) l outer lits old new x turn same =
    let f : Frame = record { var = l.var; id = id; place = 0 } in
    (ap reverse x.0 ∙ (reverse_push old.path.items f ∙ ap (λ path. f ∷ path) turn), x.1 ∙ same)

entered_for : (s : State) (seen : List Var) (path outer : List Frame) (lits : List Lit) (hints : List ClauseId) (l : Lit) (new : Descent) (h : Descended s (has seen) path lits hints) (why : Why) (level : ℕ) → why_in s.entries l.var.0 ≡ Some (why, level) → AfterEntry why l outer lits new → new.seen.items ≡ seen ++ l.var ∷ [] → new.hints.items ≡ hints → has seen l.var.0 ≡ false → IsFalseIn (assigned s) l → ((v : ℕ) → OnPath path v → OnPath outer v) → IsPath s (has new.seen.items) h.done (suc (rank s l.var.0)) outer → IsDescended s (reverse new.path.items) new
entered_for s seen path outer lits hints l new h Decision level why x seen_is hints_is fresh falses same_path is_outer =
    descended_at x.0 x.1 hints_is (entered_decided h (has new.seen.items) l (seen_sees seen new.seen.items l.var seen_is) fresh outer same_path is_outer level why falses)
entered_for s seen path outer lits hints l new h (Clause id) level why x seen_is hints_is fresh falses same_path is_outer =
    descended_at x.0 x.1 hints_is (entered_implied h (has new.seen.items) l (seen_sees seen new.seen.items l.var seen_is) fresh outer same_path is_outer id level why)

-- from where no way is open
pub entered_root : (s : State) (old new : Descent) (l : Lit) → IsAtRest s old → IsEntered s l old new → has old.seen.items l.var.0 ≡ false → IsFalseIn (assigned s) l → IsDescended s (reverse new.path.items) new
entered_root s old new l h e fresh falses =
    entered_for s old.seen.items [] [] old.lits.items old.hints.items l new h.descended e.why e.level e.why_is
    (after_entry e.why l [] old.lits.items old new e.entered (ap reverse h.none) refl) e.seen e.hints fresh falses (λ v on. absurd on) tt

-- from a frame, which goes on behind the literal
pub entered_deeper : (s : State) (old mid new : Descent) (f : Frame) (c : List Lit) (k : ℕ) (d : Lit) → IsDescended s (f ∷ reverse old.path.items) old → clause_at s.clauses f.id.0 ≡ Some c → k < length c → mid.path.items ≡ old.path.items ++ record { var = f.var; id = f.id; place = k + 1 } ∷ [] → mid.seen.items ≡ old.seen.items → mid.lits.items ≡ old.lits.items → mid.hints.items ≡ old.hints.items → IsEntered s (get_or c k d) mid new → has old.seen.items (get_or c k d).var.0 ≡ false → ((j : ℕ) (x : Lit) → f.place ≤ j → j < k → has old.seen.items (get_or c j x).var.0 ≡ true) → IsDescended s (reverse new.path.items) new
entered_deeper s old mid new f c k d h at within path_is seen_is lits_is hints_is e off skipped =
    let l : Lit = get_or c k d in
    let on : Frame = record { var = f.var; id = f.id; place = k + 1 } in
    let outer : List Frame = reverse old.path.items in
    let turn : reverse mid.path.items ≡ on ∷ outer = ap reverse path_is ∙ reverse_push old.path.items on in
    let seen : new.seen.items ≡ old.seen.items ++ l.var ∷ [] = e.seen ∙ ap (λ vars. vars ++ l.var ∷ []) seen_is in
    entered_for s old.seen.items (f ∷ outer) (on ∷ outer) old.lits.items old.hints.items l new h e.why e.level e.why_is
    (after_entry e.why l (on ∷ outer) old.lits.items mid new e.entered turn lits_is) seen (e.hints ∙ hints_is) off (literal_older h c at k d within off).is_false
    (λ v there. elim there [ inl here ↦ inl here | inr up ↦ inr up ])
    (frame_on h c at (has new.seen.items) k d within (seen_sees old.seen.items new.seen.items l.var seen) off skipped)

-- a variable that is not marked is one more that is counted
pub count_set : (marks : List Bool) (v : ℕ) → v < length marks → get_or marks v false ≡ false → count_by not (set marks v true) + 1 ≡ count_by not marks
count_set marks v within off =
    let e = sum_by-set (λ b. cond (not b) 1 0) marks v true false within in
    let q : cond (not (get_or marks v false)) 1 0 ≡ 1 = ap {B = ℕ} (λ b. cond (not b) 1 0) off in
    omega (arith, e, q)

-- the end

pub explained_end : (s : State) (p : ℕ → Bool) (starts lits : List Lit) (hints : List ClauseId) → Descended s p [] lits hints → All (λ l. p l.var.0 ≡ true) starts → ((set : ℕ → Bool) → IsClosed s set → All (λ l. set l.var.0 ≡ true) starts → Within s set p hints) → Explained s starts lits hints
explained_end s p starts lits hints h met within = record {
  done = h.done;
  implied = h.implied;
  decided = h.decided;
  reached = All-weaker (λ (l : Lit). p l.var.0 ≡ true) (λ (l : Lit). IsReached h.done lits l.var.0) (λ l on. elim (h.reached l.var.0 on) [ inl there ↦ there | inr none ↦ absurd none ]) starts met;
  brings = h.brings;
  within = λ set closed all.
      let x = within set closed all in (
        λ v on. x.met v (h.done_met v on),
        All-weaker (λ (l : Lit). p l.var.0 ≡ true) (λ (l : Lit). set l.var.0 ≡ true) (λ l on. x.met l.var.0 on) lits h.lits_met,
        x.named,
      );
}
