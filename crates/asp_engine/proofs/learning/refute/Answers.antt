use Rattle.std.proofs.Common.{List, length, sym, subst, refl, ℕ}
use Rattle.std.specs.List.{All}
use Rattle.theory_form.specs.declared.literals.Lit.{Lit}
use Rattle.theory_form.specs.Hints.{FollowsByHints}
use Rattle.asp_trail.specs.Trail.{back, IsTrail}
use Rattle.asp_store.specs.Store.{State, clause_at}
use Rattle.asp_learn.specs.Blames.{CanBlame, IsBlamed}
use Rattle.asp_learn.specs.declared.blames.Fault.{Fault}
use Rattle.asp_learn.specs.declared.blames.Fault.TheVariants.{Conflict, Against}
use Rattle.asp_learn.proofs.LevelLemmas.{back_parts}
use Rattle.proof_log.specs.Logs.{IsNegated, IsNew}
use Rattle.asp_engine.specs.Search.{AreAssumptions, IsFinal, Stands}
use Rattle.asp_engine.proofs.HintNumbers.{negated_over, stands_kept}
use Rattle.asp_engine.proofs.KeyLemmas.{alike_entries, marks_clear}
use Rattle.asp_engine.proofs.MoveLemmas.{alike_engine, idle_alike, idle_from, learned_from}
use Rattle.asp_engine.proofs.NewLemmas.{against_negated, false_is_implied, ground_negated, negated_is_new, stands_ground}
use Rattle.asp_engine.proofs.learning.refute.Goals as goal

can_blame : (s : State) (vars : ℕ) (assume : List Lit) (fault : Fault) → IsTrail s.places s.entries → Stands s.clauses s.places assume s.entries → AreAssumptions vars assume → IsFinal s assume fault → CanBlame s fault
can_blame s vars assume (Conflict id) t stands a h = h.0
can_blame s vars assume (Against l) t stands a h = (h.1, false_is_implied s.clauses s.places assume l s.entries t stands (λ m has same. a.apart l m h.0 has same) h.0 h.1)

negated : (s : State) (assume : List Lit) (fault : Fault) (c : List Lit) → IsTrail s.places s.entries → Stands s.clauses s.places assume s.entries → IsFinal s assume fault → All (IsBlamed s.entries fault) c → IsNegated assume c
negated s assume (Conflict id) c t stands h blamed = ground_negated s assume id c h.1 blamed
negated s assume (Against l) c t stands h blamed = against_negated s assume l c t stands h.0 h.1 blamed

pub blame-requires-clause-can : goal.blame-requires-clause-can
blame-requires-clause-can c = can_blame c.args.e.now.parts.store (length c.args.e.now.theory.variables) c.args.assume.now c.args.fault c.assignment-assignment.ensures.trail c.requires.stands c.requires.assumptions c.requires.fault

pub blame-requires-clause-clear : goal.blame-requires-clause-clear
blame-requires-clause-clear c = marks_clear c.args.e.now c.requires.engine.0 c.requires.engine.1

pub returns-in-Err-clause-idle : goal.returns-in-Err-clause-idle
returns-in-Err-clause-idle c = idle_alike c.args.e.now _ c.args.period.now _ refl (alike_entries c.args.e.now _ _ refl refl refl refl c.in-Err.ensures.marks refl)

pub learn_clause-requires-clause-engine : goal.learn_clause-requires-clause-engine
learn_clause-requires-clause-engine c = alike_engine c.args.e.now _ (alike_entries c.args.e.now _ _ c.go_back.ensures refl refl refl c.in-Ok.ensures.marks refl) c.requires.engine

pub learn_clause-requires-clause-follows : goal.learn_clause-requires-clause-follows
learn_clause-requires-clause-follows c =
    let l = c.in-Ok.blamed in
    let x : FollowsByHints (clause_at c.args.e.now.parts.store.clauses) c.args.e.now.parts.store.places l.clause c.as_slice.result.now =
    subst (λ hs. FollowsByHints (clause_at c.args.e.now.parts.store.clauses) c.args.e.now.parts.store.places l.clause hs) (sym c.as_slice.ensures) c.in-Ok.ensures.follows in
    subst (λ (y : State). FollowsByHints (clause_at y.clauses) y.places l.clause c.as_slice.result.now) (sym c.go_back.ensures) x

pub learn_clause-requires-clause-is_new : goal.learn_clause-requires-clause-is_new
learn_clause-requires-clause-is_new c =
    let s = c.args.e.now.parts.store in
    let b = c.in-Ok.blamed.clause in
    let n = negated s c.args.assume.now c.args.fault b c.assignment-assignment.ensures.trail c.requires.stands c.requires.fault c.in-Ok.ensures.blamed in
    subst (λ (y : State). IsNew (clause_at y.clauses) b) (sym c.go_back.ensures) (negated_is_new s.clauses c.args.assume.now b c.requires.none n)

pub learn_clause-requires-clause-over : goal.learn_clause-requires-clause-over
learn_clause-requires-clause-over c =
    let s = c.args.e.now.parts.store in
    let b = c.in-Ok.blamed.clause in
    let n = negated s c.args.assume.now c.args.fault b c.assignment-assignment.ensures.trail c.requires.stands c.requires.fault c.in-Ok.ensures.blamed in
    negated_over (length c.args.e.now.theory.variables) c.args.assume.now b c.requires.assumptions n

pub returns-clause-idle : goal.returns-clause-idle
returns-clause-idle c =
    idle_from c.args.e.now _ _ c.args.period.now _ c.in-Err-learn_clause.ensures.idle (alike_entries c.args.e.now _ _ c.go_back.ensures refl refl refl c.in-Ok.ensures.marks refl)

pub returns-in-Ok-learn_clause-clause-learned : goal.returns-in-Ok-learn_clause-clause-learned
returns-in-Ok-learn_clause-clause-learned c =
    let s = c.args.e.now.parts.store in
    let b = c.in-Ok.blamed.clause in
    let k = c.in-Ok-learn_clause.ensures in
    record {
      clause = b;
      made = learned_from c.args.e.now _ _ c.args.period.now _ b c.in-Ok-learn_clause.key.0 k.learned (alike_entries c.args.e.now _ _ c.go_back.ensures refl refl refl c.in-Ok.ensures.marks refl);
      stands = stands_kept s c.go_back.new.store c.learn_clause.new.e.parts.store c.args.assume.now (back 0 s.entries) c.go_back.ensures k.store
          (stands_ground c.learn_clause.new.e.parts.store.clauses s.places c.args.assume.now (back 0 s.entries) (back_parts 0 s.entries).2);
    }
