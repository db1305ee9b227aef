use Rattle.std.proofs.Common.{length, sym, ◌∙◌}
use Rattle.std.specs.Prelude.{IsFalse}
use Rattle.std.proofs.lemmas.Bool.{and_left, eqb-true, false≢true}
use Rattle.std.proofs.lemmas.List.{nil_from_length}
use Rattle.theory_form.specs.Truth.{IsFalseIn}
use Rattle.theory_form.specs.Theories.{body_of}
use Rattle.theory_model.specs.Loops.{is_internal, rests_on}
use Rattle.loop_nogoods.specs.Bodies.{body_lits}
use Rattle.loop_nogoods.proofs.SoundLemmas.{external_from_misses, external_without_body, misses_atom}
use Rattle.loop_nogoods.proofs.founding.Founding.settle_support.Goals as goal
use Rattle.loop_nogoods.proofs.founding.Founding.settle_support.Goals.{else-support-via-then-support+else-not-is_empty, else-support-via-else-support}

pub returns-in_ok-await_body-clause-sound : goal.returns-in_ok-await_body-clause-sound
returns-in_ok-await_body-clause-sound c = λ w part keeps sound.
    let t = c.args.t.now in
    let not_false : IsFalseIn c.args.a.now c.args.support → ⊥ = λ f. false≢true (sym c.if-is_false.false ∙ c.is_false.ensures.1 f) in
    c.in_ok-await_body.ensures.sound w part
    (λ m. misses_atom w c.args.v.0 (body_lits t c.args.v.0) (c.requires.fit.atoms c.args.v.0 c.requires.atom) (keeps not_false (external_from_misses t w c.args.support m)))
    sound

pub returns-in_ok-found-clause-step : goal.returns-in_ok-found-clause-step
returns-in_ok-found-clause-step c = c.in_ok-found.ensures.step c.args.t.now

pub returns-in_ok-found-clause-sound : goal.returns-in_ok-found-clause-sound
returns-in_ok-found-clause-sound c = λ w part keeps sound.
    let t = c.args.t.now in
    let l = c.args.support in
    let not_false : IsFalseIn c.args.a.now l → ⊥ = λ f. false≢true (sym c.if-is_false.false ∙ c.is_false.ensures.1 f) in
    let external : IsFalse (is_internal t w l) = elim c.else-support.branch [
      | else-support-via-then-support+else-not-is_empty b ↦ external_without_body t w l (sym b.body_lits.ensures ∙ nil_from_length b.body_lits.result.now (eqb-true (length b.body_lits.result.now) 0 (sym b.is_empty.ensures ∙ b.if-not-is_empty.false)))
      | else-support-via-else-support b ↦ and_left l.yes (rests_on w (body_of t l.var.0)) b.if-support.false
    ] in
    c.in_ok-found.ensures.sound t w (misses_atom w c.args.v.0 (body_lits t c.args.v.0) (c.requires.fit.atoms c.args.v.0 c.requires.atom) (keeps not_false external)) sound
