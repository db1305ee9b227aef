use Rattle.std.proofs.Common.{◌≡◌, ◌-◌, ◌<◌, ◌≤◌, ◌⊎◌, sym, ◌∙◌, arith, subst, ap, length, List, inl, inr, None, ℕ, Contains, get_or}
use Rattle.std.specs.List.{All}
use Rattle.std.proofs.lemmas.List.Elements.{All-contains}
use Rattle.theory_form.specs.declared.literals.Lit.{Lit}
use Rattle.theory_form.specs.Truth.{value_of, IsFreeIn, IsTrueIn}
use Rattle.asp_trail.specs.Trail.{IsTrail}
use Rattle.asp_trail.proofs.TrailLemmas.{length-values_of, room_from_free}
use Rattle.asp_store.specs.Store.{State, assigned, AllSettled}
use Rattle.asp_engine.specs.Search.{Stands}
use Rattle.asp_engine.proofs.NewLemmas.{decided, true_decided}
use Rattle.asp_engine.proofs.descent.descend.Goals as goal

smaller_by : (old mid new : State) (l : Lit) → mid ≡ record old { entries = mid.entries } → length old.entries ≤ length mid.entries → IsTrail mid.places mid.entries → l.var.0 < mid.places → value_of (assigned mid) l.var.0 ≡ None → new ≡ decided mid l → new.places - length new.entries < old.places - length old.entries
smaller_by old mid new l same longer trail inside free is =
    let room = room_from_free mid.places mid.entries l.var.0 trail inside free in
    let places : mid.places ≡ old.places = ap (λ (x : State). x.places) same in
    let a : new.places ≡ mid.places = ap (λ (x : State). x.places) is in
    let b = ap (λ (x : State). length x.entries) is in
    omega (arith, room, longer, places, a, b)

stands_by : (mid new : State) (assume : List Lit) (l : Lit) → Stands mid.clauses mid.places assume mid.entries → AllSettled mid.clauses (assigned mid) → (Contains assume l ⊎ All (IsTrueIn (assigned mid)) assume) → new ≡ decided mid l → Stands new.clauses new.places assume new.entries
stands_by mid new assume l stands settled why is =
    subst (λ (s : State). Stands s.clauses s.places assume s.entries) (sym is) ((λ _. (settled, why)), stands)

same_by : (first old mid new : State) (l : Lit) → old ≡ record first { entries = old.entries } → mid ≡ record old { entries = mid.entries } → new ≡ decided mid l → new ≡ record first { entries = new.entries }
same_by first old mid new l a b c =
    let clauses : new.clauses ≡ first.clauses = ap (λ (x : State). x.clauses) c ∙ (ap (λ (x : State). x.clauses) b ∙ ap (λ (x : State). x.clauses) a) in
    let places : new.places ≡ first.places = ap (λ (x : State). x.places) c ∙ (ap (λ (x : State). x.places) b ∙ ap (λ (x : State). x.places) a) in
    let keys : new.next_key ≡ first.next_key = ap (λ (x : State). x.next_key) c ∙ (ap (λ (x : State). x.next_key) b ∙ ap (λ (x : State). x.next_key) a) in
    λ i. record { clauses = clauses i; entries = new.entries; places = places i; next_key = keys i }

inside_by : (p : State) (a : List _) (v : ℕ) → a ≡ assigned p → v < length a → v < p.places
inside_by p a v is h = let e = ap length is ∙ length-values_of p.places p.entries in omega (arith, h, e)

-- what is true of the assumptions before the cursor after a decision
before_by : (mid new : State) (assume : List Lit) (cursor : ℕ) (l : Lit) → l.var.0 < mid.places → IsFreeIn (assigned mid) l → IsTrail mid.places mid.entries → new ≡ decided mid l → ((k : ℕ) (d : Lit) → k < cursor → k < length assume → IsTrueIn (assigned mid) (get_or assume k d)) → (k : ℕ) (d : Lit) → k < cursor → k < length assume → IsTrueIn (assigned new) (get_or assume k d)
before_by mid new assume cursor l within free trail is h k d low inside =
    subst (λ (s : State). IsTrueIn (assigned s) (get_or assume k d)) (sym is) (true_decided mid l (get_or assume k d) within free trail (h k d low inside))

pub next_open-requires : goal.next_open-requires
next_open-requires c = record {
  before = λ k d low inside.
      subst (λ a. IsTrueIn a (get_or c.args.assume.now k d)) (sym c.assignment.ensures.value) (c.settle.ensures.kept (get_or c.args.assume.now k d) (c.descend.invariant.before k d low inside));
}

pub descend-smaller-in-Decide : goal.descend-smaller-in-Decide
descend-smaller-in-Decide c =
    let p = c.settle.new.store in
    let l = c.in-Decide.l in
    let same = c.settle.ensures.same in
    let places : p.places ≡ c.descend.store.places = ap (λ (x : State). x.places) same in
    let first : c.descend.store.places ≡ c.args.store.now.places = ap (λ (x : State). x.places) c.descend.invariant.same in
    let free : value_of (assigned p) l.var.0 ≡ None = subst (λ a. value_of a l.var.0 ≡ None) c.assignment.ensures.value c.in-Decide.ensures.next.1 in
    let inside : l.var.0 < p.places = subst (λ n. l.var.0 < n) (sym (places ∙ first)) (All-contains (λ (x : Lit). x.var.0 < c.args.store.now.places) c.args.assume.now l c.requires.within c.in-Decide.ensures.next.0) in
    smaller_by c.descend.store p c.decide.new.self l same c.settle.ensures.longer c.assignment.ensures.trail inside free c.decide.ensures

pub descend-preserved-in-Decide : goal.descend-preserved-in-Decide
descend-preserved-in-Decide c =
    let p = c.settle.new.store in
    let l = c.in-Decide.l in
    let same = c.settle.ensures.same in
    let places : p.places ≡ c.descend.store.places = ap (λ (x : State). x.places) same in
    let first : c.descend.store.places ≡ c.args.store.now.places = ap (λ (x : State). x.places) c.descend.invariant.same in
    let free : value_of (assigned p) l.var.0 ≡ None = subst (λ a. value_of a l.var.0 ≡ None) c.assignment.ensures.value c.in-Decide.ensures.next.1 in
    let inside : l.var.0 < p.places = subst (λ n. l.var.0 < n) (sym (places ∙ first)) (All-contains (λ (x : Lit). x.var.0 < c.args.store.now.places) c.args.assume.now l c.requires.within c.in-Decide.ensures.next.0) in
    record {
      same = same_by c.args.store.now c.descend.store p c.decide.new.self l c.descend.invariant.same same c.decide.ensures;
      stands = stands_by p c.decide.new.self c.args.assume.now l c.settle.ensures.stands (rw c.in_default.is at c.in_ok-id.ensures.answer) (inl c.in-Decide.ensures.next.0) c.decide.ensures;
      before = before_by p c.decide.new.self c.args.assume.now c.next_open.new.cursor l inside free c.assignment.ensures.trail c.decide.ensures
          (λ k d low in_list. subst (λ a. IsTrueIn a (get_or c.args.assume.now k d)) c.assignment.ensures.value (c.in-Decide.ensures.before k d low in_list));
    }

pub decide-requires-in-Ready-clause-within : goal.decide-requires-in-Ready-clause-within
decide-requires-in-Ready-clause-within c =
    inside_by c.settle.new.store _ c.in-Some-choose.l.var.0 c.assignment-in-Ready.ensures.value c.in-Some-choose.ensures.1

pub descend-smaller : goal.descend-smaller
descend-smaller c =
    let p = c.settle.new.store in
    let l = c.in-Some-choose.l in
    let free : value_of (assigned p) l.var.0 ≡ None = subst (λ a. value_of a l.var.0 ≡ None) c.assignment-in-Ready.ensures.value c.in-Some-choose.ensures.2 in
    let inside : l.var.0 < p.places = inside_by p _ l.var.0 c.assignment-in-Ready.ensures.value c.in-Some-choose.ensures.1 in
    smaller_by c.descend.store p c.decide-in-Ready.new.self l c.settle.ensures.same c.settle.ensures.longer c.assignment.ensures.trail inside free c.decide-in-Ready.ensures

pub descend-preserved : goal.descend-preserved
descend-preserved c =
    let p = c.settle.new.store in
    let l = c.in-Some-choose.l in
    let free : value_of (assigned p) l.var.0 ≡ None = subst (λ a. value_of a l.var.0 ≡ None) c.assignment-in-Ready.ensures.value c.in-Some-choose.ensures.2 in
    let inside : l.var.0 < p.places = inside_by p _ l.var.0 c.assignment-in-Ready.ensures.value c.in-Some-choose.ensures.1 in
    record {
      same = same_by c.args.store.now c.descend.store p c.decide-in-Ready.new.self l c.descend.invariant.same c.settle.ensures.same c.decide-in-Ready.ensures;
      stands = stands_by p c.decide-in-Ready.new.self c.args.assume.now l c.settle.ensures.stands (rw c.in_default.is at c.in_ok-id.ensures.answer)
          (inr (subst (λ a. All (IsTrueIn a) c.args.assume.now) c.assignment.ensures.value c.in-Ready.ensures.next)) c.decide-in-Ready.ensures;
      before = before_by p c.decide-in-Ready.new.self c.args.assume.now c.next_open.new.cursor l inside free c.assignment.ensures.trail c.decide-in-Ready.ensures
          (λ k d low in_list. subst (λ a. IsTrueIn a (get_or c.args.assume.now k d)) c.assignment.ensures.value (c.in-Ready.ensures.before k d low in_list));
    }
