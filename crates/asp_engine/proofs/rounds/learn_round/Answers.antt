use Rattle.std.proofs.Common.{◌-◌, ℕ, Bool, ◌∙◌, arith}
use Rattle.asp_engine.specs.Moves.{held_by}
use Rattle.asp_engine.specs.Periods.{ends}
use Rattle.asp_engine.proofs.MoveLemmas.{went_engine, went_forgot, went_none, went_of}
use Rattle.asp_engine.proofs.RoundLemmas.{is_open_added, is_open_forgot, weight_learned}
use Rattle.asp_engine.proofs.rounds.learn_round.Goals as goal

pub returns-then-budget-eq0-clause-spends : goal.returns-then-budget-eq0-clause-spends
returns-then-budget-eq0-clause-spends c = (0, went_none (held_by c.args.others.now) c.args.e.now c.args.period.now, (omega arith))

pub returns-in-Err-clause-spends : goal.returns-in-Err-clause-spends
returns-in-Err-clause-spends c = (0, c.in-Err.ensures.idle.went (held_by c.args.others.now), (omega arith))

pub returns-in-Some-clause-spends : goal.returns-in-Some-clause-spends
returns-in-Some-clause-spends c =
    let e = c.args.e.now in
    let h : ℕ → Bool = held_by c.args.others.now in
    (1, went_of h e c.advance.new.e c.args.period.now c.advance.new.period 1 (ends e.parts.span c.args.period.now) (c.in-Ok.ensures.learned.made.went h), (let f = c.if-budget-eq0.false in omega (arith, f)))

pub returns-in-None-clause-spends : goal.returns-in-None-clause-spends
returns-in-None-clause-spends c =
    let e = c.args.e.now in
    let h : ℕ → Bool = held_by c.args.others.now in
    let made = c.in-Ok.ensures.learned.made in
    let ended : Bool = ends e.parts.span c.args.period.now in
    let forgot = c.end_period.ensures ended made.ended in
    (1, went_forgot h e c.advance.new.e c.end_period.new.e c.args.period.now c.advance.new.period 1 ended (made.went h) forgot.erased, (let f = c.if-budget-eq0.false in omega (arith, f)))

pub returns-in-None-clause-round : goal.returns-in-None-clause-round
returns-in-None-clause-round c =
    let e = c.args.e.now in
    let h : ℕ → Bool = held_by c.args.others.now in
    let x = c.in-Ok.ensures in
    let made = x.learned.made in
    let ended : Bool = ends e.parts.span c.args.period.now in
    let forgot = c.end_period.ensures ended made.ended in
    let went = went_of h e c.advance.new.e c.args.period.now c.advance.new.period 1 ended (made.went h) in
    let opened = is_open_added h e c.advance.new.e c.args.period.now c.advance.new.period c.args.assume.now 1 c.in-Ok.key.0 x.learned.clause c.requires.is_open went x.variables made.adds x.learned.stands c.in-None.ensures in (
      is_open_forgot h ended c.advance.new.e c.end_period.new.e c.args.assume.now opened forgot,
      weight_learned c.models_fall.ensures.most e c.end_period.new.e c.args.budget.now.left (c.args.budget.now.left - 1) (forgot.places ∙ x.places) (forgot.eager ∙ made.eager) (let f = c.if-budget-eq0.false in omega (arith, f)),
    )

pub end_period-requires-clause-engine : goal.end_period-requires-clause-engine
end_period-requires-clause-engine c =
    let e = c.args.e.now in
    let h : ℕ → Bool = held_by c.args.others.now in
    let ended : Bool = ends e.parts.span c.args.period.now in
    went_engine h e c.advance.new.e c.args.period.now c.advance.new.period 1 (went_of h e c.advance.new.e c.args.period.now c.advance.new.period 1 ended (c.in-Ok.ensures.learned.made.went h)) c.requires.is_open.engine
