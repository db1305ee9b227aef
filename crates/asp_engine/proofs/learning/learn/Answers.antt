use Rattle.std.proofs.Common.{◌≡◌, ℕ, ◌⊎◌, inl, inr, List, sym, subst, refl}
use Rattle.theory_form.specs.declared.literals.Lit.{Lit}
use Rattle.theory_form.specs.Hints.{FollowsByHints}
use Rattle.asp_trail.specs.Trail.{back}
use Rattle.asp_store.specs.Store.{State, clause_at}
use Rattle.proof_log.specs.Logs.{IsNew}
use Rattle.asp_engine.specs.Search.{HasTwoAbove}
use Rattle.asp_engine.proofs.HintNumbers.{adds_back, sources_over, stands_kept}
use Rattle.asp_engine.proofs.KeyLemmas.{alike_entries, marks_clear}
use Rattle.asp_engine.proofs.MoveLemmas.{alike_engine, idle_alike, idle_from, learned_from}
use Rattle.asp_engine.proofs.NewLemmas.{conflict_can, learned_is_new, learned_two, stands_added}
use Rattle.asp_engine.proofs.learning.learn.Goals as goal

pub analyse-requires-clause-can : goal.analyse-requires-clause-can
analyse-requires-clause-can c =
    conflict_can c.args.e.now.parts.store c.args.assume.now c.args.conflict.0 c.assignment-assignment.ensures.trail c.requires.stands c.requires.level c.requires.conflict

pub analyse-requires-clause-clear : goal.analyse-requires-clause-clear
analyse-requires-clause-clear c = marks_clear c.args.e.now c.requires.engine.0 c.requires.engine.1

pub returns-in-Err-clause-idle : goal.returns-in-Err-clause-idle
returns-in-Err-clause-idle c = idle_alike c.args.e.now _ c.args.period.now _ refl (alike_entries c.args.e.now _ _ refl refl refl refl c.in-Err.ensures.marks refl)

pub learn_clause-requires-clause-engine : goal.learn_clause-requires-clause-engine
learn_clause-requires-clause-engine c = alike_engine c.args.e.now _ (alike_entries c.args.e.now _ _ c.go_back.ensures refl refl refl c.in-Ok.ensures.marks refl) c.requires.engine

pub learn_clause-requires-clause-follows : goal.learn_clause-requires-clause-follows
learn_clause-requires-clause-follows c =
    let l = c.in-Ok.learned in
    let x : FollowsByHints (clause_at c.args.e.now.parts.store.clauses) c.args.e.now.parts.store.places l.clause c.as_slice-2.result.now =
    subst (λ hs. FollowsByHints (clause_at c.args.e.now.parts.store.clauses) c.args.e.now.parts.store.places l.clause hs) (sym c.as_slice-2.ensures) c.in-Ok.ensures.follows in
    subst (λ (y : State). FollowsByHints (clause_at y.clauses) y.places l.clause c.as_slice-2.result.now) (sym c.go_back.ensures) x

pub learn_clause-requires-clause-is_new : goal.learn_clause-requires-clause-is_new
learn_clause-requires-clause-is_new c =
    let s = c.args.e.now.parts.store in
    let l = c.in-Ok.learned in
    let x = c.in-Ok.ensures in
    subst (λ (y : State). IsNew (clause_at y.clauses) l.clause) (sym c.go_back.ensures)
    (learned_is_new s c.args.assume.now c.args.conflict.0 l.clause l.level l.point c.assignment-assignment.ensures.trail c.assignment-assignment.ensures.store c.requires.stands c.requires.level x.all_false x.unit x.level)

pub learn_clause-requires-clause-over : goal.learn_clause-requires-clause-over
learn_clause-requires-clause-over c = sources_over c.args.e.now c.in-Ok.learned.hints c.in-Ok.learned.clause c.requires.engine c.in-Ok.ensures.sources

pub returns-clause-idle : goal.returns-clause-idle
returns-clause-idle c =
    idle_from c.args.e.now _ _ c.args.period.now _ c.in-Err-learn_clause.ensures.idle (alike_entries c.args.e.now _ _ c.go_back.ensures refl refl refl c.in-Ok.ensures.marks refl)

two_at : (s : State) (c : List Lit) (level found : ℕ) → (level ≡ 0) ⊎ (level ≡ found) → HasTwoAbove s.places s.entries c found → HasTwoAbove s.places s.entries c level
two_at s c level found is h = elim is [
  | inl ground ↦ inl ground
  | inr same ↦ subst (HasTwoAbove s.places s.entries c) (sym same) h
]

pub returns-in-Ok-learn_clause-clause-learned : goal.returns-in-Ok-learn_clause-clause-learned
returns-in-Ok-learn_clause-clause-learned c =
    let s = c.args.e.now.parts.store in
    let l = c.in-Ok.learned in
    let x = c.in-Ok.ensures in
    let t = c.assignment-assignment.ensures.trail in
    let k = c.in-Ok-learn_clause.ensures in
    let level = c.target-level.result in
    let adds = adds_back s c.go_back.new.store c.learn_clause.new.e.parts.store (back level s.entries) c.in-Ok-learn_clause.key.0 l.clause c.go_back.ensures k.learned.adds in
    let two = two_at s l.clause level l.level c.target-level.ensures (learned_two s c.args.conflict.0 l.clause l.level l.point t x.unit x.level) in
    record {
      clause = l.clause;
      made = learned_from c.args.e.now _ _ c.args.period.now _ l.clause c.in-Ok-learn_clause.key.0 k.learned (alike_entries c.args.e.now _ _ c.go_back.ensures refl refl refl x.marks refl);
      stands = stands_kept s c.go_back.new.store c.learn_clause.new.e.parts.store c.args.assume.now (back level s.entries) c.go_back.ensures k.store
          (stands_added s.clauses c.learn_clause.new.e.parts.store.clauses s.places c.args.assume.now s.entries c.in-Ok-learn_clause.key.0 l.clause level t c.requires.stands two adds);
    }
