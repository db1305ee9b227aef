use Rattle.std.proofs.Common.{◌<◌, refl, inr, sym, ◌∙◌, subst}
use Rattle.std.proofs.lemmas.Bool.{false_from_ne_true, false≢true}
use Rattle.loop_nogoods.specs.declared.founding.Founding.{Founding}
use Rattle.loop_nogoods.specs.declared.waits.Wait.{Wait}
use Rattle.loop_nogoods.specs.Bodies.{body_lits}
use Rattle.loop_nogoods.specs.Marks.{marked}
use Rattle.loop_nogoods.proofs.StepLemmas.{Step-then, awaits_appended, rested_appended, step_wait}
use Rattle.loop_nogoods.proofs.SoundLemmas.{misses_none, sound_wait}
use Rattle.loop_nogoods.proofs.founding.Founding.await_body.Goals as goal

pub returns-in_ok-found-clause-step : goal.returns-in_ok-found-clause-step
returns-in_ok-found-clause-step c =
    Step-then c.args.t.now c.args.self.now c.settle_body.new.self c.found.new.self c.in_ok-settle_body.ensures.step (c.in_ok-found.ensures.step c.args.t.now)

pub returns-in_ok-add-clause-step : goal.returns-in_ok-add-clause-step
returns-in_ok-add-clause-step c =
    let s : Founding = c.settle_body.new.self in
    let t = c.args.t.now in
    let entry : Wait = record { head = c.args.v; place = 0 } in
    let end : Founding = record { atoms = s.atoms; founded = s.founded; waiting = c.add.new.self; pending = s.pending } in
    let off = false_from_ne_true (marked s.founded c.args.body.0) (λ on. false≢true (sym c.if-is_marked.false ∙ c.is_marked.ensures.1 on)) in
    let step = c.in_ok-settle_body.ensures.step in
    let more = c.in_ok-add.ensures in
    Step-then t c.args.self.now s end step
    (step_wait t s end c.args.body.0 entry more (subst (λ n. c.args.v.0 < n) (sym step.places) c.requires.head) off refl refl refl
    (inr (rested_appended t s end c.args.body.0 entry more refl refl c.args.body.0 c.in_ok-settle_body.ensures.rested)))

pub returns-in_ok-add-clause-settled : goal.returns-in_ok-add-clause-settled
returns-in_ok-add-clause-settled c =
    let s : Founding = c.settle_body.new.self in
    inr (awaits_appended s (record { atoms = s.atoms; founded = s.founded; waiting = c.add.new.self; pending = s.pending }) c.args.body.0 (record { head = c.args.v; place = 0 }) c.in_ok-add.ensures)

pub returns-in_ok-add-clause-sound : goal.returns-in_ok-add-clause-sound
returns-in_ok-add-clause-sound c = λ w part misses sound.
    let s : Founding = c.settle_body.new.self in
    sound_wait c.args.t.now w s (record { atoms = s.atoms; founded = s.founded; waiting = c.add.new.self; pending = s.pending }) c.args.body.0 (record { head = c.args.v; place = 0 })
    c.in_ok-add.ensures refl (λ m. misses_none w c.args.v.0 (body_lits c.args.t.now c.args.v.0) (misses m).variable) (c.in_ok-settle_body.ensures.sound w part sound)
