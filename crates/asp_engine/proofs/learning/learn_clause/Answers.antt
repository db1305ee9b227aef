use Rattle.std.proofs.Common.{◌≡◌, ◌∙◌, ap, refl}
use Rattle.asp_engine.specs.declared.periods.Period.{Period}
use Rattle.asp_engine.proofs.KeyLemmas.{same_self}
use Rattle.asp_engine.proofs.MoveLemmas.{alike_self, idle_alike, idle_stays, learned_into, learns_alike}
use Rattle.asp_engine.proofs.learning.learn_clause.Goals as goal

pub returns-in-Err-clause-idle : goal.returns-in-Err-clause-idle
returns-in-Err-clause-idle c = idle_alike c.args.e.now c.args.e.now c.args.period.now c.enter.new.self c.in-Err.ensures.err (alike_self c.args.e.now)

pub returns-in-Err-keep_learned-clause-idle : goal.returns-in-Err-keep_learned-clause-idle
returns-in-Err-keep_learned-clause-idle c =
    let p = c.args.period.now in
    let entered = c.in_default.ensures.ok in
    let same : c.leave.new.self ≡ p =
    c.leave.ensures p.learned c.next_id.result (ap (λ (x : Period). x.learned) entered) ∙ ap (λ (x : Period). record x { learned = p.learned }) entered in
    idle_stays c.args.e.now c.keep_learned.new.e p c.leave.new.self same c.in-Err-keep_learned.ensures.err

pub returns-clause-learned : goal.returns-clause-learned
returns-clause-learned c =
    let e = c.args.e.now in
    let k = c.in-Ok.ensures in
    learned_into e _ c.args.period.now c.enter.new.self c.turn.new.self c.args.clause.now c.in-Ok.key.0 c.next_id.result c.requires.engine
    (λ v h. learns_alike e c.keep_learned.new.e _ c.args.clause.now v (k.learned v h) (record { theory = same_self c.keep_learned.new.e.theory; log = refl; clauses = λ j. refl; places = refl; numbers = λ j. refl; marks = refl; span = refl }))
    k.added refl c.next_id.ensures c.in_default.ensures.ok c.turn.ensures
