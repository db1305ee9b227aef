use Rattle.std.proofs.Common.{◌≡◌, ◌+◌, ◌-◌, ℕ, Bool, false, List, inl, inr, refl, length, sym, ap, ◌∙◌, subst, arith}
use Rattle.std.specs.List.{All}
use Rattle.theory_form.specs.declared.literals.Lit.{Lit}
use Rattle.asp_store.specs.Store.{NoneRefuting}
use Rattle.asp_engine.specs.declared.periods.Query.{Query}
use Rattle.asp_engine.specs.Answers.{ShowsEnding, left_of}
use Rattle.asp_engine.specs.Periods.{AreAscendingIds, IsPeriod}
use Rattle.asp_solver.specs.Answers.{ShowsTurn}
use Rattle.asp_solver.specs.Calls.{Did}
use Rattle.asp_solver.specs.Holding.{Holds}
use Rattle.asp_solver.specs.Turns.{left_open}
use Rattle.asp_solver.specs.Views.{next_period, period_of, view_of, without}
use Rattle.asp_solver.proofs.AnswerLemmas.{none_before, none_refuted, shows_after}
use Rattle.asp_solver.proofs.HoldLemmas.{ascending_ids}
use Rattle.asp_solver.proofs.QueryLemmas.{all_without}
use Rattle.asp_solver.proofs.RunLemmas.{did_nothing, holds_taking, ran}
use Rattle.asp_solver.proofs.runs.run.Goals as goal

pub returns-in-Err-clause-holds : goal.returns-in-Err-clause-holds
returns-in-Err-clause-holds c =
    let a = c.args.e.now in
    let t = c.take_in.ensures in
    holds_taking a.parts.span c.args.taken.now c.take_in.new.taken a c.take_in.new.e c.args.queries.now.items c.requires.holds t.same.0 t.same.2 t.most t.places t.marks t.taken

pub returns-in-Err-clause-did : goal.returns-in-Err-clause-did
returns-in-Err-clause-did c =
    let a = c.args.e.now in
    let qs = c.args.queries.now.items in
    let assume = c.args.assume.now in
    let t = c.take_in.ensures in (
      0,
      next_period qs assume,
      omega arith,
      did_nothing a.parts.span c.args.taken.now c.requires.span a c.take_in.new.e qs assume c.args.found.now false c.requires.holds t.same.0 t.same.1,
      inr (refl, refl),
    )

pub returns-in-Err-open-clause-holds : goal.returns-in-Err-open-clause-holds
returns-in-Err-open-clause-holds c =
    let a = c.args.e.now in
    let t = c.take_in.ensures in
    subst (λ (xs : List Query). Holds c.args.e.now.parts.span c.take_in.new.e xs c.take_in.new.taken) (sym c.in-Err-open.ensures.err)
    (holds_taking a.parts.span c.args.taken.now c.take_in.new.taken a c.take_in.new.e c.args.queries.now.items c.requires.holds t.same.0 t.same.2 t.most t.places t.marks t.taken)

pub returns-in-Err-open-clause-did : goal.returns-in-Err-open-clause-did
returns-in-Err-open-clause-did c =
    let a = c.args.e.now in
    let qs = c.args.queries.now.items in
    let assume = c.args.assume.now in
    let t = c.take_in.ensures in
    let none = did_nothing a.parts.span c.args.taken.now c.requires.span a c.take_in.new.e qs assume c.args.found.now false c.requires.holds t.same.0 t.same.1 in (
      0,
      next_period qs assume,
      omega arith,
      subst (λ (xs : List Query). Did c.args.e.now.parts.span (view_of c.args.e.now c.args.queries.now.items c.args.found.now) (view_of c.take_in.new.e xs false) c.args.assume.now 0 (next_period c.args.queries.now.items c.args.assume.now)) (sym c.in-Err-open.ensures.err) none,
      inr (ap (λ (xs : List Query). period_of xs c.args.assume.now) c.in-Err-open.ensures.err, refl),
    )

pub search_for-turn-requires-clause-engine : goal.search_for-turn-requires-clause-engine
search_for-turn-requires-clause-engine c = (c.requires.holds.state, c.in-Ok.ensures.ok c.requires.holds.state c.requires.holds.has_taken)

pub search_for-turn-requires-clause-ascending : goal.search_for-turn-requires-clause-ascending
search_for-turn-requires-clause-ascending c =
    let h = c.requires.holds in
    let qs = c.args.queries.now.items in
    let assume = c.args.assume.now in
    let span = c.args.e.now.parts.span in
    let vars = length c.args.e.now.theory.variables in
    let periods = all_without (λ (q : Query). IsPeriod c.args.e.now.parts.span (length c.args.e.now.theory.variables) c.requires.holds.state q.period) qs assume h.periods in
    subst (λ (xs : List Query). All (λ (q : Query). AreAscendingIds q.period.learned) xs) (sym (c.as_slice.ensures.value ∙ c.in-Ok-open.ensures.others))
    (ascending_ids span vars h.state (without qs assume) periods)

pub returns-clause-holds : goal.returns-clause-holds
returns-clause-holds c =
    let a = c.args.e.now in
    let t = c.take_in.ensures in
    let s = c.search_for-turn in
    let o = c.in-Ok-open in
    let r = ran c.plain_clauses_are_few.ensures c.logs_stay_valid.ensures c.loop_clauses_are_one.ensures c.theories_stand.ensures.skipped a.parts.span c.args.taken.now c.requires.span
    a c.take_in.new.e s.new.e c.args.queries.now.items c.as_slice.result.now c.put_back.new.queries.items c.args.assume.now o.query.period s.new.query s.ensures.spends.0 s.result
    c.requires.holds t.same.0 t.same.1 t.same.2 t.marks c.in-Ok.ensures.ok o.ensures.period (s.ensures.assume ∙ o.ensures.assume)
    (c.as_slice.ensures.value ∙ o.ensures.others) s.ensures.spends.1 (c.put_back.ensures ∙ ap (λ (xs : List Query). left_open xs c.search_for-turn.new.query c.search_for-turn.result) (sym c.as_slice.ensures.value)) in
    let number = c.next_id.ensures in
    let last : length c.search_for-turn.new.e.theory.clauses ≡ c.next_id.result.0 - 1 = omega (arith, number) in
    subst (Holds c.args.e.now.parts.span c.search_for-turn.new.e c.put_back.new.queries.items) last r.holds

pub returns-clause-turn : goal.returns-clause-turn
returns-clause-turn c =
    let a = c.args.e.now in
    let t = c.take_in.ensures in
    let s = c.search_for-turn in
    let o = c.in-Ok-open in
    let r = ran c.plain_clauses_are_few.ensures c.logs_stay_valid.ensures c.loop_clauses_are_one.ensures c.theories_stand.ensures.skipped a.parts.span c.args.taken.now c.requires.span
    a c.take_in.new.e s.new.e c.args.queries.now.items c.as_slice.result.now c.put_back.new.queries.items c.args.assume.now o.query.period s.new.query s.ensures.spends.0 s.result
    c.requires.holds t.same.0 t.same.1 t.same.2 t.marks c.in-Ok.ensures.ok o.ensures.period (s.ensures.assume ∙ o.ensures.assume)
    (c.as_slice.ensures.value ∙ o.ensures.others) s.ensures.spends.1 (c.put_back.ensures ∙ ap (λ (xs : List Query). left_open xs c.search_for-turn.new.query c.search_for-turn.result) (sym c.as_slice.ensures.value)) in
    let left = s.new.budget.left in
    let more = left_of c.args.quota (c.args.budget.now.left - c.search_for-turn.new.budget.left) in
    let end = s.ensures.end in
    let shows = subst (λ (xs : List Lit). ShowsEnding c.search_for-turn.new.e xs c.search_for-turn.new.budget.left (left_of c.args.quota (c.args.budget.now.left - c.search_for-turn.new.budget.left)) c.search_for-turn.ensures.end.0) o.ensures.assume end.1 in
    subst (λ (b : Bool). ShowsTurn (view_of c.search_for-turn.new.e c.put_back.new.queries.items b) c.args.assume.now c.search_for-turn.new.budget.left (left_of c.args.quota (c.args.budget.now.left - c.search_for-turn.new.budget.left)) c.search_for-turn.result) (sym c.is_set.ensures)
    (shows_after c.closed_assignments_are_models.ensures c.models_of_beginnings.ensures c.models_are_answer_sets.ensures.sound c.logs_stay_valid.ensures c.loop_clauses_are_one.ensures
    s.new.e r.state c.put_back.new.queries.items c.args.assume.now left more end.0 s.result r.can r.is_in shows end.2)

pub returns-clause-did : goal.returns-clause-did
returns-clause-did c =
    let a = c.args.e.now in
    let t = c.take_in.ensures in
    let s = c.search_for-turn in
    let o = c.in-Ok-open in
    let r = ran c.plain_clauses_are_few.ensures c.logs_stay_valid.ensures c.loop_clauses_are_one.ensures c.theories_stand.ensures.skipped a.parts.span c.args.taken.now c.requires.span
    a c.take_in.new.e s.new.e c.args.queries.now.items c.as_slice.result.now c.put_back.new.queries.items c.args.assume.now o.query.period s.new.query s.ensures.spends.0 s.result
    c.requires.holds t.same.0 t.same.1 t.same.2 t.marks c.in-Ok.ensures.ok o.ensures.period (s.ensures.assume ∙ o.ensures.assume)
    (c.as_slice.ensures.value ∙ o.ensures.others) s.ensures.spends.1 (c.put_back.ensures ∙ ap (λ (xs : List Query). left_open xs c.search_for-turn.new.query c.search_for-turn.result) (sym c.as_slice.ensures.value)) in
    (s.ensures.spends.0, s.new.query.period, s.ensures.spends.2, r.did c.args.found.now c.is_set.result, r.leaves c.args.found.now c.is_set.result)

pub returns-clause-at_once : goal.returns-clause-at_once
returns-clause-at_once c =
    let a = c.args.e.now in
    let b = c.take_in.new.e in
    let qs = c.args.queries.now.items in
    let t = c.take_in.ensures in
    let h = c.requires.holds in
    elim c.search_for-turn.ensures.at_once [
      | inl none ↦ inl
          (none_before a b qs qs c.args.found.now false c.args.assume.now t.same.0 t.same.1
          (none_refuted c.logs_stay_valid.ensures c.loop_clauses_are_one.ensures b h.state qs false c.args.assume.now (c.in-Ok.ensures.ok h.state h.has_taken)
          (subst (NoneRefuting c.take_in.new.e.parts.store.clauses) c.in-Ok-open.ensures.assume none)))
      | inr x ↦ inr x
    ]
