use Rattle.std.proofs.Common.{length, sym, ap, subst, refl, arith}
use Rattle.asp_store.specs.Store.{IsWithin, State}
use Rattle.asp_engine.specs.Moves.{held_by}
use Rattle.asp_engine.proofs.KeyLemmas.{alike_entries, over_within}
use Rattle.asp_engine.proofs.MoveLemmas.{alike_engine, went_alike, went_from}
use Rattle.asp_engine.proofs.RoundLemmas.{is_open_entries}
use Rattle.asp_engine.proofs.rounds.one_round.Goals as goal

pub descend-requires-clause-within : goal.descend-requires-clause-within
descend-requires-clause-within c =
    let o = c.requires.is_open in
    subst (λ n. IsWithin n c.args.assume.now) (sym o.engine.1.places) (over_within (length c.args.e.now.theory.variables) c.args.assume.now o.assumptions.over)

pub returns-in-Err-clause-spends : goal.returns-in-Err-clause-spends
returns-in-Err-clause-spends c =
    (0, went_alike (held_by c.args.others.now) c.args.e.now _ c.args.period.now (alike_entries c.args.e.now _ _ c.in-Err.ensures.same refl refl refl refl refl), (omega arith))

pub end_round-requires-clause-is_open : goal.end_round-requires-clause-is_open
end_round-requires-clause-is_open c =
    let a = alike_entries c.args.e.now _ _ c.in-Ok.ensures.same refl refl refl refl refl in
    is_open_entries c.args.e.now _ c.args.assume.now c.requires.is_open (alike_engine c.args.e.now _ a c.requires.is_open.engine) refl (ap (λ (s : State). s.clauses) c.in-Ok.ensures.same) c.in-Ok.ensures.stands

pub learn_round-requires-clause-is_open : goal.learn_round-requires-clause-is_open
learn_round-requires-clause-is_open c =
    let a = alike_entries c.args.e.now _ _ c.in-Ok.ensures.same refl refl refl refl refl in
    is_open_entries c.args.e.now _ c.args.assume.now c.requires.is_open (alike_engine c.args.e.now _ a c.requires.is_open.engine) refl (ap (λ (s : State). s.clauses) c.in-Ok.ensures.same) c.in-Ok.ensures.stands

pub returns-in-Full-clause-spends : goal.returns-in-Full-clause-spends
returns-in-Full-clause-spends c =
    let x = c.end_round.ensures.spends in
    (x.0, went_from (held_by c.args.others.now) c.args.e.now _ c.end_round.new.e c.args.period.now c.args.period.now x.0 (alike_entries c.args.e.now _ _ c.in-Ok.ensures.same refl refl refl refl refl) x.1, x.2)

pub returns-in-Stuck-clause-spends : goal.returns-in-Stuck-clause-spends
returns-in-Stuck-clause-spends c =
    let x = c.learn_round.ensures.spends in
    (x.0, went_from (held_by c.args.others.now) c.args.e.now _ c.learn_round.new.e c.args.period.now c.learn_round.new.period x.0 (alike_entries c.args.e.now _ _ c.in-Ok.ensures.same refl refl refl refl refl) x.1, x.2)
