use Rattle.std.proofs.Common.{◌≡◌, ◌≢◌, true, not, inl, List, length, get_or, sym, ◌∙◌, arith, ⊎_elim}
use Rattle.std.specs.Prelude.{IsTrue, ◌==◌}
use Rattle.std.proofs.lemmas.Bool.{eqb-false, false_from_ne_true, false≢true, not-true, or_cases}
use Rattle.std.proofs.lemmas.List.Elements.{Contains-get_or}
use Rattle.loop_nogoods.specs.declared.waits.Wait.{Wait}
use Rattle.loop_nogoods.specs.Bodies.{body_lits}
use Rattle.loop_nogoods.specs.Founding.{IsRested, waits}
use Rattle.loop_nogoods.specs.Marks.{marked}
use Rattle.loop_nogoods.proofs.SoundLemmas.{misses_none}
use Rattle.loop_nogoods.proofs.founding.Founding.settle_body.Goals as goal

pub returns-in_ok-settle-clause-sound : goal.returns-in_ok-settle-clause-sound
returns-in_ok-settle-clause-sound c = λ w part sound.
    c.in_ok-settle.ensures.sound w part (misses_none w c.args.body.0 (body_lits c.args.t.now c.args.body.0) (false_from_ne_true (w c.args.body.0) (λ on. false≢true (sym c.requires.no_atom ∙ part c.args.body.0 on)))) sound

pub returns-else-not-is_begun-clause-rested : goal.returns-else-not-is_begun-clause-rested
returns-else-not-is_begun-clause-rested c =
    let s = c.args.self.now in
    let list : List Wait = waits s.waiting c.args.body.0 in
    let none : Wait = record { head = record { 0 = 0 }; place = 0 } in
    ⊎_elim
    (λ (f : marked s.founded c.args.body.0 ≡ true). inl f)
    (λ (h : not (length list == 0) ≡ true).
    let some : length list ≢ 0 = eqb-false (length list) 0 (not-true (length list == 0) h) in
    let e : Wait = get_or list 0 none in
    ⊎_elim
    (λ (atom : IsTrue (marked s.atoms c.args.body.0)). absurd (false≢true (sym c.requires.no_atom ∙ atom)))
    (λ (r : IsRested c.args.t.now s c.args.body.0). r)
    (c.requires.tended c.args.body.0 e (Contains-get_or list 0 none (omega arith))))
    (or_cases (marked s.founded c.args.body.0) (not (length list == 0)) (sym c.is_begun.ensures ∙ c.if-not-is_begun.false))
