use Rattle.std.proofs.Common.{◌≡◌, sym, subst, arith, Option, Some, None}
use Rattle.std.specs.Option.{IfNone, IfSome}
use Rattle.asp_store.specs.Store.{State, assigned}
use Rattle.search_law.specs.Closed.{IsClosed}
use Rattle.asp_engine.specs.declared.descent.Stop.TheVariants.{Full}
use Rattle.asp_engine.specs.Moves.{held_by}
use Rattle.asp_engine.specs.Search.{ShowsStop}
use Rattle.asp_engine.proofs.RoundLemmas.{is_open_added, weight_late}
use Rattle.asp_engine.proofs.rounds.end_round.Goals as goal

if_some : {A : Type 0} (P : A → Type 0) (o : Option A) (a : A) → o ≡ Some a → IfSome o P → P a
if_some P o a e h = subst (λ x. IfSome x P) e h

if_none : {A : Type 0} (P : Type 0) (o : Option A) → o ≡ None → IfNone o P → P
if_none P o e h = subst (λ x. IfNone x P) e h

pub returns-in-Err-clause-spends : goal.returns-in-Err-clause-spends
returns-in-Err-clause-spends c = (0, c.in-Err.ensures.went (held_by c.args.others.now) c.args.period.now, (omega arith))

pub returns-in-Ok-None-clause-spends : goal.returns-in-Ok-None-clause-spends
returns-in-Ok-None-clause-spends c = (0, c.in-Ok-None.ensures.went (held_by c.args.others.now) c.args.period.now, (omega arith))

pub returns-in-Ok-None-clause-round : goal.returns-in-Ok-None-clause-round
returns-in-Ok-None-clause-round c =
    let e = c.args.e.now in
    let y = if_none _ c.in-Ok-None.field-0 c.in-Ok-None.field-0-is c.in-Ok-None.ensures.none in
    subst (λ (s : State). ShowsStop s c.args.assume.now Full × IsClosed c.add_late.new.e.theory (assigned s)) (sym y.0)
    (c.requires.full, subst (λ t. IsClosed t (assigned e.parts.store)) (sym y.1) y.2)

pub returns-in-Some-clause-spends : goal.returns-in-Some-clause-spends
returns-in-Some-clause-spends c = (0, c.in-Ok-Some.ensures.went (held_by c.args.others.now) c.args.period.now, (omega arith))

pub returns-in-None-clause-spends : goal.returns-in-None-clause-spends
returns-in-None-clause-spends c = (0, c.in-Ok-Some.ensures.went (held_by c.args.others.now) c.args.period.now, (omega arith))

pub returns-in-None-clause-round : goal.returns-in-None-clause-round
returns-in-None-clause-round c =
    let e = c.args.e.now in
    let x = c.in-Ok-Some.ensures in
    let y = if_some _ c.in-Ok-Some.field-0 c.in-Ok-Some.key c.in-Ok-Some.field-0-is x.some in (
      is_open_added (held_by c.args.others.now) e c.add_late.new.e c.args.period.now c.args.period.now c.args.assume.now 0 c.in-Ok-Some.key.0 y.0 c.requires.is_open (x.went (held_by c.args.others.now) c.args.period.now) x.variables y.1 x.stands c.in-None.ensures,
      weight_late c.models_fall.ensures.falls e c.add_late.new.e c.args.left c.in-Ok-Some.key.0 y.0 c.requires.is_open.engine c.requires.full.1 c.requires.full.2 y.1 (y.2 c.requires.full.2) x.places x.eager,
    )
