use Rattle.std.proofs.Common.{◌<◌, ◌+◌, List, get_or, length, take, sym, ◌∙◌, subst, arith}
use Rattle.std.proofs.lemmas.Bool.{false_from_ne_true, false≢true}
use Rattle.theory_form.specs.declared.literals.Var.{Var}
use Rattle.loop_nogoods.specs.declared.founding.Founding.{Founding}
use Rattle.loop_nogoods.specs.Founding.{SettlesAll}
use Rattle.loop_nogoods.specs.Marks.{marked}
use Rattle.loop_nogoods.proofs.StepLemmas.{settles_none, settles_more, settles_skip, tended_kept}
use Rattle.loop_nogoods.proofs.founding.Founding.settle_atoms.Goals as goal
use Rattle.loop_nogoods.proofs.founding.Founding.settle_atoms.Goals.{then-is_marked+in_ok-settle_atom, else-is_marked}

abbrev none : Var
none = record { 0 = 0 }

pub loop-v-init : goal.loop-v-init
loop-v-init c = settles_none c.args.t.now c.args.a.now c.args.self.now

pub settle_atom-requires-clause-tended : goal.settle_atom-requires-clause-tended
settle_atom-requires-clause-tended c = tended_kept c.args.t.now c.args.self.now c.loop-v.self c.loop-v.invariant.step c.requires.tended

pub loop-v-preserved : goal.loop-v-preserved
loop-v-preserved c =
    let t = c.args.t.now in
    let a = c.args.a.now in
    let old : Founding = c.args.self.now in
    let s : Founding = c.loop-v.self in
    let vars : List Var = c.args.vars.now in
    let i = c.loop-v.v-index in
    let lt : i < length vars = omega arith in
    elim c.if-is_marked.branch [
      | then-is_marked+in_ok-settle_atom w ↦
          subst (λ (new : Founding). SettlesAll t a old new (take (i + 1) vars)) (sym w.self-is)
          (settles_more t a old s vars i none lt c.loop-v.invariant w.settle_atom.new.self w.in_ok-settle_atom.ensures.step (c.is_marked.ensures.0 w.if-is_marked.true) w.in_ok-settle_atom.ensures.settled w.in_ok-settle_atom.ensures.sound)
      | else-is_marked w ↦
          subst (λ (new : Founding). SettlesAll t a old new (take (i + 1) vars)) (sym w.self-is)
          (settles_skip t a old s vars i none lt c.loop-v.invariant (false_from_ne_true (marked s.atoms (get_or vars i none).0) (λ on. false≢true (sym w.if-is_marked.false ∙ c.is_marked.ensures.1 on))))
    ]
