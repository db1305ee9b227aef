use Rattle.std.proofs.Common.{◌<◌, List, length, take, sym, subst, arith}
use Rattle.std.proofs.lemmas.List.{take_all}
use Rattle.std.proofs.lemmas.List.Elements.{All-more, All-same, All-weaker}
use Rattle.loop_nogoods.specs.declared.waits.Wait.{Wait}
use Rattle.loop_nogoods.specs.Founding.{IsRested}
use Rattle.sets.specs.Sets.{IsSubset}
use Rattle.loop_nogoods.specs.Marks.{marked}
use Rattle.loop_nogoods.proofs.StepLemmas.{Step-then, rested_kept}
use Rattle.loop_nogoods.proofs.founding.Founding.settle_all.Goals as goal

abbrev none : Wait
none = record { head = record { 0 = 0 }; place = 0 }

pub loop-entry-preserved : goal.loop-entry-preserved
loop-entry-preserved c =
    let t = c.args.t.now in
    let list : List Wait = c.args.list.now in
    let i = c.loop-entry.invariant in
    let step = c.in_ok-settle.ensures.step in
    let lt : c.loop-entry.entry-index < length list = omega arith in
    record {
      step = Step-then t c.args.self.now c.loop-entry.self c.settle.new.self i.step step;
      rested = All-more (λ (e : Wait). IsRested t c.settle.new.self e.head.0) list c.loop-entry.entry-index none lt
          (All-weaker (λ (e : Wait). IsRested t c.loop-entry.self e.head.0) (λ (e : Wait). IsRested t c.settle.new.self e.head.0) (λ e. rested_kept t c.loop-entry.self c.settle.new.self step e.head.0) (take c.loop-entry.entry-index list) i.rested)
          c.in_ok-settle.ensures.rested;
      sound = λ w part misses sound.
          c.in_ok-settle.ensures.sound w (subst (λ m. IsSubset w (marked m)) (sym i.step.atoms_same) part) (misses c.loop-entry.entry-index none lt) (i.sound w part misses sound);
    }

pub returns-clause-rested : goal.returns-clause-rested
returns-clause-rested c =
    let list : List Wait = c.args.list.now in
    All-same (λ (e : Wait). IsRested c.args.t.now c.loop-entry.self e.head.0) list (take c.loop-entry.entry-index list) (sym (take_all c.loop-entry.entry-index list (omega arith))) c.loop-entry.invariant.rested
