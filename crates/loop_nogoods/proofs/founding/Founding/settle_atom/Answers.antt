use Rattle.std.proofs.Common.{◌<◌, false, List, length, take, sym, subst, arith}
use Rattle.std.specs.List.{All}
use Rattle.std.proofs.lemmas.List.{take_all}
use Rattle.std.proofs.lemmas.List.Elements.{All-more, All-same}
use Rattle.theory_form.specs.declared.literals.Lit.{Lit}
use Rattle.loop_nogoods.specs.Founding.{IsSettled, Keeps}
use Rattle.sets.specs.Sets.{IsSubset}
use Rattle.loop_nogoods.specs.Marks.{marked}
use Rattle.loop_nogoods.proofs.StepLemmas.{Step-then, all_settled_kept, tended_kept}
use Rattle.loop_nogoods.proofs.founding.Founding.settle_atom.Goals as goal

abbrev none : Lit
none = record { var = record { 0 = 0 }; yes = false }

pub settle_support-requires-clause-tended : goal.settle_support-requires-clause-tended
settle_support-requires-clause-tended c = tended_kept c.args.t.now c.args.self.now c.loop-support.self c.loop-support.invariant.step c.requires.tended

pub loop-support-preserved : goal.loop-support-preserved
loop-support-preserved c =
    let t = c.args.t.now in
    let a = c.args.a.now in
    let lits : List Lit = c.support_lits-support-items.result.now in
    let i = c.loop-support.invariant in
    let step = c.in_ok-settle_support.ensures.step in
    let lt : c.loop-support.support-index < length lits = omega arith in
    record {
      step = Step-then t c.args.self.now c.loop-support.self c.settle_support.new.self i.step step;
      settled = All-more (IsSettled a c.settle_support.new.self c.args.v.0) lits c.loop-support.support-index none lt
          (all_settled_kept t c.loop-support.self c.settle_support.new.self step a c.args.v.0 (take c.loop-support.support-index lits) i.settled)
          c.in_ok-settle_support.ensures.settled;
      sound = λ w part keeps sound.
          c.in_ok-settle_support.ensures.sound w (subst (λ m. IsSubset w (marked m)) (sym i.step.atoms_same) part)
          (subst (λ (ls : List Lit). All (Keeps t a w c.args.v.0) ls) (sym c.support_lits-support-items.ensures) keeps c.loop-support.support-index none lt)
          (i.sound w part keeps sound);
    }

pub returns-clause-settled : goal.returns-clause-settled
returns-clause-settled c =
    let lits : List Lit = c.support_lits-support-items.result.now in
    subst (λ (ls : List Lit). All (IsSettled c.args.a.now c.loop-support.self c.args.v.0) ls) c.support_lits-support-items.ensures
    (All-same (IsSettled c.args.a.now c.loop-support.self c.args.v.0) lits (take c.loop-support.support-index lits) (sym (take_all c.loop-support.support-index lits (omega arith))) c.loop-support.invariant.settled)
