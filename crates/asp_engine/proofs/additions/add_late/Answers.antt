use Rattle.std.proofs.Common.{◌≡◌, ◌+◌, ℕ, Bool, true, List, length, get_or, inl, inr, sym, ◌∙◌, ap, subst, refl, arith, Option, Some}
use Rattle.std.specs.Option.{IfSome}
use Rattle.theory_form.specs.declared.literals.Lit.{Lit}
use Rattle.theory_form.specs.Truth.{IsFalseClause}
use Rattle.theory_model.specs.Whole.{AreOver}
use Rattle.agg_nogoods.specs.Implied.{IsFalseOrUnit}
use Rattle.asp_trail.specs.Trail.{back}
use Rattle.asp_trail.proofs.TrailLemmas.{length-values_of}
use Rattle.search_law.specs.Closed.{IsTotal}
use Rattle.asp_store.specs.Store.{assigned}
use Rattle.asp_engine.specs.Keys.{AreUnmarked}
use Rattle.asp_engine.specs.Search.{HasTwoAbove}
use Rattle.asp_engine.proofs.HintNumbers.{adds_back, stands_kept}
use Rattle.asp_engine.proofs.KeyLemmas.{alike_entries}
use Rattle.asp_engine.proofs.MoveLemmas.{alike_engine, makes_late, went_from, went_stays}
use Rattle.asp_engine.proofs.NewLemmas.{stands_added}
use Rattle.asp_engine.proofs.additions.add_late.Goals as goal

if_some : {A : Type 0} (P : A → Type 0) (o : Option A) (a : A) → o ≡ Some a → IfSome o P → P a
if_some P o a e h = subst (λ x. IfSome x P) e h

any_lit : Lit
any_lit = record { var = record { 0 = 0 }; yes = true }

-- where every variable has a value, it is false
told_false : (a : List (Option Bool)) (c : List Lit) (n : ℕ) → length a ≡ n + 1 → AreOver n c → IsFalseOrUnit a c → IsTotal a → IsFalseClause a c
told_false a c n len over told total = elim told [
  | inl off ↦ off
  | inr unit ↦ absurd (
      let w = unit.1.free.within in
      let o = over unit.0 any_lit w in
      total (get_or c unit.0 any_lit).var.0 o.0 (let x = o.1 in omega (arith, x, len)) (unit.1.free.holds any_lit))
]

pub find-requires-clause-places : goal.find-requires-clause-places
find-requires-clause-places c =
    let s = c.args.e.now.parts.store in
    ap length c.assignment.ensures.value ∙ (length-values_of s.places s.entries ∙ c.requires.engine.1.places)

pub find-requires-clause-marks : goal.find-requires-clause-marks
find-requires-clause-marks c =
    let s = c.args.e.now.parts.store in
    let len = ap length c.assignment.ensures.value ∙ (length-values_of s.places s.entries ∙ c.requires.engine.1.places) in
    subst (λ n. AreUnmarked n c.args.e.now.parts.marks) (sym len) c.requires.engine.1.marks

pub keep-requires-clause-engine : goal.keep-requires-clause-engine
keep-requires-clause-engine c = alike_engine c.args.e.now _ (alike_entries c.args.e.now _ _ c.go_back.ensures refl refl refl c.in-Ok.ensures.marks refl) c.requires.engine

pub returns-clause-went : goal.returns-clause-went
returns-clause-went c = λ held p.
    let k = c.in-Err-keep.ensures in
    went_from held c.args.e.now _ c.keep.new.e p p 0 (alike_entries c.args.e.now _ _ c.go_back.ensures refl refl refl c.in-Ok.ensures.marks refl)
    (went_stays held _ c.keep.new.e p (record { is_in = k.err; log = k.err_log; span = k.same.0; marks = k.same.2 }))

pub returns-in-Ok-keep-clause-went : goal.returns-in-Ok-keep-clause-went
returns-in-Ok-keep-clause-went c = λ held p.
    let k = c.in-Ok-keep.ensures in
    let late = if_some _ c.in-Ok.found c.in-Some.late c.in-Some.is c.in-Ok.ensures.some in
    went_from held c.args.e.now _ c.keep.new.e p p 0 (alike_entries c.args.e.now _ _ c.go_back.ensures refl refl refl c.in-Ok.ensures.marks refl)
    (λ v h. makes_late held _ c.keep.new.e p v c.assignment.result.now c.in-Some.late late h.taken.theory.variables (late.brings v h.taken.theory) k.log k.same.0 k.same.2 (k.kept v h))

pub returns-in-Ok-keep-clause-stands : goal.returns-in-Ok-keep-clause-stands
returns-in-Ok-keep-clause-stands c =
    let s = c.args.e.now.parts.store in
    let k = c.in-Ok-keep.ensures in
    let clause = c.in-Some.late.clause in
    let level = c.second_level-level.result in
    let adds = adds_back s c.go_back.new.store c.keep.new.e.parts.store (back level s.entries) c.in-Ok-keep.key.0 clause c.go_back.ensures k.added in
    stands_kept s c.go_back.new.store c.keep.new.e.parts.store c.args.assume.now (back level s.entries) c.go_back.ensures k.store
    (stands_added s.clauses c.keep.new.e.parts.store.clauses s.places c.args.assume.now s.entries c.in-Ok-keep.key.0 clause level c.assignment.ensures.trail c.requires.stands
    (subst (λ xs. HasTwoAbove s.places s.entries xs level) c.lits.ensures.literals c.second_level-level.ensures) adds)

pub returns-in-Ok-keep-clause-some : goal.returns-in-Ok-keep-clause-some
returns-in-Ok-keep-clause-some c =
    let e = c.args.e.now in
    let s = e.parts.store in
    let k = c.in-Ok-keep.ensures in
    let clause = c.in-Some.late.clause in
    let level = c.second_level-level.result in
    let late = if_some _ c.in-Ok.found c.in-Some.late c.in-Some.is c.in-Ok.ensures.some in
    let len = length-values_of s.places s.entries ∙ c.requires.engine.1.places in (
      clause,
      adds_back s c.go_back.new.store c.keep.new.e.parts.store (back level s.entries) c.in-Ok-keep.key.0 clause c.go_back.ensures k.added,
      λ total. told_false (assigned s) clause (length e.theory.variables) len late.over (subst (λ a. IsFalseOrUnit a clause) c.assignment.ensures.value late.told) total,
    )
