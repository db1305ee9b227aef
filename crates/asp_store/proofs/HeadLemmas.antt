-- The visits of all entries of the trail.
use Rattle.std.proofs.Common.{◌≡◌, ℕ, zero, suc, ◌+◌, ◌-◌, ◌*◌, ◌<◌, ◌≤◌, ◌⊎◌, inl, inr, ◌++◌, Bool, true, false, not, List, [], ◌∷◌, length, Option, Some, None, get_or, drop, reverse, refl, ap, sym, ◌∙◌, subst, arith, length-append}
use Rattle.std.proofs.lemmas.Bool.{cases_eq}
use Rattle.std.proofs.lemmas.List.{get_or-set_same, get_or-set_other, drop_more, get_or-reverse}
use Rattle.theory_form.specs.declared.literals.Lit.{Lit}
use Rattle.theory_form.specs.Truth.{value_of, IsFalseIn, IsSettled, IsTrueIn}
use Rattle.theory_form.specs.Literals.{opposite}
use Rattle.asp_trail.specs.declared.Entry.{Entry}
use Rattle.asp_trail.specs.Trail.{values_of, IsTrail}
use Rattle.asp_trail.proofs.TrailLemmas.{length-values_of, free_count-values_of}
use Rattle.asp_store.specs.Store.{clause_at, Grew, AllSettled}
use Rattle.asp_store.specs.declared.choices.Kept.{Kept}
use Rattle.asp_store.specs.declared.visits.Mark.{Mark}
use Rattle.asp_store.specs.declared.watches.Watcher.{Watcher}
use Rattle.asp_store.specs.Watch.{kept_at, clauses_of, code, older, WatchOk, LevelOk, IsWatched, AllWatched, IsNext}
use Rattle.asp_store.proofs.WatchLemmas.{settled_at_end, KeepsTrue-entry}
use Rattle.asp_store.proofs.LevelLemmas.{IsBelow-top}
use Rattle.asp_store.proofs.ExamineLemmas.{any_lit, code-le}

lit_same : (a b : Lit) → a.var.0 ≡ b.var.0 → a.yes ≡ b.yes → a ≡ b
lit_same a b e f = ap (λ i. record { var = record { 0 = i }; yes = a.yes }) e ∙ ap (λ y. record { var = record { 0 = b.var.0 }; yes = y }) f

not_turn : (a b : Bool) → a ≡ not b → b ≡ not a
not_turn true true e = cc
not_turn true false e = refl
not_turn false true e = refl
not_turn false false e = cc

-- what one more entry makes false
false_more : (n : ℕ) (es : List Entry) (e : Entry) (z : Lit) → e.lit.var.0 < n → IsFalseIn (values_of n (e ∷ es)) z → IsFalseIn (values_of n es) z ⊎ (z ≡ opposite e.lit)
false_more n es e z within h = elim (cases_eq z.var.0 e.lit.var.0) [
  | inl same ↦
      let len = length-values_of n es in
      let inside : e.lit.var.0 < length (values_of n es) = rw len within in
      let now : value_of (values_of n (e ∷ es)) z.var.0 ≡ Some e.lit.yes =
      ap (λ v. value_of (values_of n (e ∷ es)) v) same ∙ get_or-set_same (values_of n es) e.lit.var.0 (Some e.lit.yes) None inside in
      let q : Some e.lit.yes ≡ Some (not z.yes) = sym now ∙ h in
      let f : e.lit.yes ≡ not z.yes = cc in
      inr (lit_same z (opposite e.lit) same (not_turn e.lit.yes z.yes f))
  | inr other ↦ inl (sym (get_or-set_other (values_of n es) e.lit.var.0 z.var.0 (Some e.lit.yes) None other) ∙ h)
]

pub within_at : (n : ℕ) (es : List Entry) (i : ℕ) (d : Entry) → IsTrail n es → i < length es → (get_or es i d).lit.var.0 < n
within_at n [] i d t h = absurd (omega arith)
within_at n (e ∷ es) zero d t h = t.0
within_at n (e ∷ es) (suc i) d t h = within_at n es i d t.2 (omega arith)

older-more : (h : ℕ) (es : List Entry) (d : Entry) → h < length es → older (h + 1) es ≡ get_or (reverse es) h d ∷ older h es
older-more h es d below =
    let i : ℕ = length es - (h + 1) in
    let e : length es - h ≡ i + 1 = omega arith in
    let f : length es - 1 - h ≡ i = omega arith in
    drop_more es i d (omega arith)
    ∙ (ap (λ x. x ∷ drop (i + 1) es) (sym (get_or-reverse es h d below ∙ ap (λ k. get_or es k d) f)) ∙ ap (λ k. get_or (reverse es) h d ∷ drop k es) (sym e))

drop-append_add : (more es : List Entry) (i : ℕ) → drop (length more + i) (more ++ es) ≡ drop i es
drop-append_add [] es i = ap (λ k. drop k es) (omega arith)
drop-append_add (m ∷ more) es i = let e : length (m ∷ more) + i ≡ suc (length more + i) = omega arith in ap (λ k. drop k (m ∷ (more ++ es))) e ∙ drop-append_add more es i

older-append : (h : ℕ) (more es : List Entry) → h ≤ length es → older h (more ++ es) ≡ older h es
older-append h more es le =
    let len = length-append more es in
    let e : length (more ++ es) - h ≡ length more + (length es - h) = omega (arith, len) in
    ap (λ k. drop k (more ++ es)) e ∙ drop-append_add more es (length es - h)

pub IsNext-head : (n h : ℕ) (es : List Entry) (d : Entry) → IsTrail n es → h < length es → IsNext (values_of n (older h es)) (values_of n (older (h + 1) es)) (values_of n es) (opposite (get_or (reverse es) h d).lit)
IsNext-head n h es d t below =
    let x : Entry = get_or (reverse es) h d in
    let q = older-more h es d below in
    let f : length es - 1 - h < length es = omega arith in
    let within : x.lit.var.0 < n = rw (get_or-reverse es h d below) (within_at n es (length es - 1 - h) d t f) in
    record {
      next = λ z g. false_more n (older h es) x z within (subst (λ w. IsFalseIn (values_of n w) z) q g);
      below = (IsBelow-top n (h + 1) es t).falses;
    }

pub code-opposite : (lists : List (List Watcher)) (n h : ℕ) (es : List Entry) (d : Entry) → IsTrail n es → h < length es → 2 * n ≤ length lists → code (opposite (get_or (reverse es) h d).lit) < length lists
code-opposite lists n h es d t below room =
    let x : Entry = get_or (reverse es) h d in
    let f : length es - 1 - h < length es = omega arith in
    let within : x.lit.var.0 < n = rw (get_or-reverse es h d below) (within_at n es (length es - 1 - h) d t f) in
    let c : code (opposite x.lit) < 2 * x.lit.var.0 + 2 = code-le (opposite x.lit) in
    omega (arith, within, c)

true_at : (n : ℕ) (es : List Entry) (i : ℕ) (d : Entry) → IsTrail n es → i < length es → IsTrueIn (values_of n es) (get_or es i d).lit
true_at n [] i d t h = absurd (omega arith)
true_at n (e ∷ es) zero d t h =
    let len = length-values_of n es in
    let inside : e.lit.var.0 < length (values_of n es) = rw len t.0 in
    get_or-set_same (values_of n es) e.lit.var.0 (Some e.lit.yes) None inside
true_at n (e ∷ es) (suc i) d t h = KeepsTrue-entry n es e t.1 (get_or es i d).lit (true_at n es i d t.2 (omega arith))

not_not : (b : Bool) → b ≡ not (not b)
not_not true = refl
not_not false = refl

-- the opposite of an entry is false
pub false_at_head : (n h : ℕ) (es : List Entry) (d : Entry) → IsTrail n es → h < length es → IsFalseIn (values_of n es) (opposite (get_or (reverse es) h d).lit)
false_at_head n h es d t below =
    let f : length es - 1 - h < length es = omega arith in
    rw (get_or-reverse es h d below) (true_at n es (length es - 1 - h) d t f ∙ ap Some (not_not (get_or es (length es - 1 - h) d).lit.yes))

pub length-le-places : (n : ℕ) (es : List Entry) → IsTrail n es → length es ≤ n
length-le-places n es t = let q = free_count-values_of n es t in omega (arith, q)

pub IsWatched-visited : (s0 s2 : List (Option Kept)) (l0 l2 : List (List Watcher)) (pending : List ℕ) (n : ℕ) (e0 e2 : List Entry) (cs : List (Option (List Lit))) (marks : List Mark) (head done : ℕ) (d : Entry) → IsTrail n e0 → head < length e0 → done ≡ length pending → IsWatched s0 l0 pending n e0 marks (record { head = head; done = done }) → IsWatched s2 l2 pending n e2 marks (record { head = head; done = done }) → ((p q : List (Option Bool)) → IsNext p q (values_of n e0) (opposite (get_or (reverse e0) head d).lit) → AllWatched s0 p (values_of n e0) → AllWatched s2 q (values_of n e2)) → Grew cs n e0 e2 → IsWatched s2 l2 pending n e2 marks (record { head = head + 1; done = done })
IsWatched-visited s0 s2 l0 l2 pending n e0 e2 cs marks head done d t below none before after visited g =
    let start : AllWatched s0 (values_of n (older head e0)) (values_of n e0) = λ id k at. elim (before.now.guard id k at) [
      | inl waits ↦ absurd (let x = waits.1 in let y = waits.2 in omega arith)
      | inr w ↦ w
    ] in
    let all = visited (values_of n (older head e0)) (values_of n (older (head + 1) e0)) (IsNext-head n head e0 d t below) start in
    let same : older (head + 1) e2 ≡ older (head + 1) e0 = ap (older (head + 1)) g.new_is ∙ older-append (head + 1) g.more e0 (omega arith) in
    let len : length e2 ≡ length g.more + length e0 = ap length g.new_is ∙ length-append g.more e0 in
    record {
      now = record {
        guard = λ id k at. inr (subst (λ w. WatchOk (values_of n w) (values_of n e2) k) (sym same) (all id k at));
        head_in = omega (arith, len);
        done_in = after.now.done_in;
      };
      below = after.below;
      listed = after.listed;
    }

pub kept_from_clause : (slots : List (Option Kept)) (id : ℕ) (c : List Lit) → clause_at (clauses_of slots) id ≡ Some c → (k : Kept) × (kept_at slots id ≡ Some k) × (k.clause ≡ c)
kept_from_clause [] id c h = absurd (let e : None ≡ Some c = h in cc)
kept_from_clause (None ∷ ss) zero c h = absurd (let e : None ≡ Some c = h in cc)
kept_from_clause (Some k ∷ ss) zero c h = (k, refl, let e : Some k.clause ≡ Some c = h in cc)
kept_from_clause (s ∷ ss) (suc id) c h = kept_from_clause ss id c h

pub AllSettled-watched : (slots : List (Option Kept)) (pending : List ℕ) (n : ℕ) (es : List Entry) (m : Mark) → m.head ≡ length es → m.done ≡ length pending → LevelOk slots pending n es m → AllSettled (clauses_of slots) (values_of n es)
AllSettled-watched slots pending n es m all none h id c at =
    let k = kept_from_clause slots id c at in
    subst (IsSettled (values_of n es)) k.2 (settled_at_end slots pending n es m all none h id k.0 k.1 any_lit)
