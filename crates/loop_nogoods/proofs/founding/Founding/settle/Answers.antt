use Rattle.std.proofs.Common.{◌+◌, false, List, get_or, refl, inl, inr, subst}
use Rattle.std.specs.List.{Contains}
use Rattle.std.proofs.lemmas.List.Elements.{Contains-get_or}
use Rattle.theory_form.specs.declared.literals.Lit.{Lit}
use Rattle.loop_nogoods.specs.declared.waits.Wait.{Wait}
use Rattle.loop_nogoods.proofs.StepLemmas.{awaits_appended, step_wait}
use Rattle.loop_nogoods.proofs.SoundLemmas.{block_parts, misses_to, misses_whole, sound_wait}
use Rattle.loop_nogoods.proofs.founding.Founding.settle.Goals as goal

abbrev none : Lit
none = record { var = record { 0 = 0 }; yes = false }

pub returns-in_ok-found-in-None-clause-step : goal.returns-in_ok-found-in-None-clause-step
returns-in_ok-found-in-None-clause-step c = c.in_ok-found-in-None.ensures.step c.args.t.now

pub returns-in_ok-found-in-None-clause-sound : goal.returns-in_ok-found-in-None-clause-sound
returns-in_ok-found-in-None-clause-sound c = λ w part misses sound.
    c.in_ok-found-in-None.ensures.sound c.args.t.now w
    (misses_whole c.args.t.now w c.args.self.now c.args.entry.head.0 c.body_lits-lits.result.now _ c.args.entry.place c.body_lits-lits.ensures part sound c.in-None.ensures misses)
    sound

pub returns-in_ok-add-in-Some-clause-step : goal.returns-in_ok-add-in-Some-clause-step
returns-in_ok-add-in-Some-clause-step c =
    let block = block_parts c.args.self.now (get_or c.body_lits-lits.result.now c.in-Some.place none) (c.in-Some.ensures.3 none) in
    step_wait c.args.t.now c.args.self.now _ (get_or c.body_lits-lits.result.now c.in-Some.place none).var.0 (record { head = c.args.entry.head; place = c.in-Some.place + 1 })
    c.in_ok-add-in-Some.ensures c.requires.head block.2 refl refl refl (inl block.1)

pub returns-in_ok-add-in-Some-clause-rested : goal.returns-in_ok-add-in-Some-clause-rested
returns-in_ok-add-in-Some-clause-rested c =
    let lits : List Lit = c.body_lits-lits.result.now in
    let l : Lit = get_or lits c.in-Some.place none in
    let block = block_parts c.args.self.now l (c.in-Some.ensures.3 none) in
    let entry : Wait = record { head = c.args.entry.head; place = c.in-Some.place + 1 } in
    inr (
      l,
      subst (λ ls. Contains ls l) c.body_lits-lits.ensures (Contains-get_or lits c.in-Some.place none c.in-Some.ensures.1),
      block.0,
      block.1,
      awaits_appended c.args.self.now (record { atoms = c.args.self.now.atoms; founded = c.args.self.now.founded; waiting = c.add.new.self; pending = c.args.self.now.pending }) l.var.0 entry c.in_ok-add-in-Some.ensures,
    )

pub returns-in_ok-add-in-Some-clause-sound : goal.returns-in_ok-add-in-Some-clause-sound
returns-in_ok-add-in-Some-clause-sound c = λ w part misses sound.
    let lits : List Lit = c.body_lits-lits.result.now in
    sound_wait c.args.t.now w c.args.self.now _ (get_or lits c.in-Some.place none).var.0 (record { head = c.args.entry.head; place = c.in-Some.place + 1 })
    c.in_ok-add-in-Some.ensures refl
    (λ m. misses_to c.args.t.now w c.args.self.now c.args.entry.head.0 lits _ c.args.entry.place c.in-Some.place none c.body_lits-lits.ensures c.in-Some.ensures.1 part sound c.in-Some.ensures.2 misses m.variable)
    sound
