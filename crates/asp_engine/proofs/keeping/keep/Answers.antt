use Rattle.std.proofs.Common.{◌≡◌, ℕ, ◌+◌, ◌++◌, ◌∷◌, [], ◌≤◌, List, length, max, sym, ◌∙◌, ap, subst, refl, arith}
use Rattle.theory_form.specs.declared.literals.Lit.{Lit}
use Rattle.theory_form.specs.Theories.{TheoryView}
use Rattle.asp_store.specs.Store.{State, clause_at, places_of}
use Rattle.proof_log.specs.declared.steps.Step.{Step}
use Rattle.proof_log.specs.Logs.{IsLog, IsStepOver}
use Rattle.proof_log.specs.States.{StateView, with_clause}
use Rattle.proof_log.specs.Steps.{LogView}
use Rattle.asp_engine.proofs.KeyLemmas.{alike_in, is_in_more, over_places, same_theory, skipped_theory}
use Rattle.asp_engine.proofs.keeping.keep.Goals as goal

-- the store has places for the clause
store_kept : (old new : State) (n : ℕ) (c : List Lit) → new ≡ record old { clauses = new.clauses; places = max old.places (places_of c); next_key = new.next_key } → old.places ≡ n + 1 → places_of c ≤ n + 1 → new ≡ record old { clauses = new.clauses; next_key = new.next_key }
store_kept old new n c is places few =
    let same : max old.places (places_of c) ≡ old.places = omega (arith, places, few) in
    is ∙ ap (λ k. record old { clauses = new.clauses; places = k; next_key = new.next_key }) same

pub returns-in-Err-insert-clause-err : goal.returns-in-Err-insert-clause-err
returns-in-Err-insert-clause-err c = λ v h. alike_in c.args.e.now _ v (record {
  theory = same_theory c.args.e.now.theory _ (max 1 c.args.e.now.theory.reserved) c.in_default.ensures.ok;
  log = ap (λ (l : LogView). l.steps) c.in_default-reserve.ensures.ok;
  clauses = λ k. ap (λ (s : State). clause_at s.clauses k) c.in-Err-insert.ensures.err;
  places = ap (λ (s : State). s.places) c.in-Err-insert.ensures.err;
  numbers = c.in-Err-insert.ensures.same;
  marks = refl;
  span = refl;
}) h

pub returns-clause-store : goal.returns-clause-store
returns-clause-store c =
    let e = c.args.e.now in
    store_kept e.parts.store c.insert.new.store (length e.theory.variables) c.args.clause.now c.in-Ok.ensures.ok c.requires.engine.1.places (over_places (length e.theory.variables) c.args.clause.now c.requires.over)

pub returns-clause-kept : goal.returns-clause-kept
returns-clause-kept c = λ v h.
    let e = c.args.e.now in
    let store = store_kept e.parts.store c.insert.new.store (length e.theory.variables) c.args.clause.now c.in-Ok.ensures.ok c.requires.engine.1.places (over_places (length e.theory.variables) c.args.clause.now c.requires.over) in
    let theory = skipped_theory e.theory c.reserve_id.new.self c.skip-number.new.self (max 1 e.theory.reserved) c.in_default.ensures.ok c.skip-number.ensures.skipped in
    let number : c.next_id-number.result.0 ≡ length e.theory.clauses + 1 = c.next_id-number.ensures ∙ ap (λ (t : TheoryView). length t.clauses + 1) c.in_default.ensures.ok in
    let brings = c.requires.brings v h in
    let after : StateView = with_clause v c.args.clause.now in
    let listed = subst (λ xs. IsStepOver (length xs) c.args.step) (sym h.taken.theory.variables) c.requires.listed in
    let logged : IsLog after.theory (e.log.steps ++ c.args.step ∷ []) after.added = c.steps_keep_logs.ensures.judged v after e.log.steps c.args.step h.taken.log brings.valid listed brings.after in
    let steps = ap (λ (l : LogView). l.steps) c.push_reserved.ensures ∙ ap (λ (l : LogView). l.steps ++ c.args.step ∷ []) c.in_default-reserve.ensures.ok in
    is_in_more e _ v c.args.clause.now c.in-Ok.key.0 theory (ap (λ (s : State). s.places) store) refl c.in-Ok.ensures.added c.in-Ok.ensures.others (c.in-Ok.ensures.own ∙ number) c.requires.over
    (subst (λ (xs : List Step). IsLog after.theory xs after.added) (sym steps) logged) h
