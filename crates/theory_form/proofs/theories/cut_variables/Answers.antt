use Rattle.std.proofs.Common.{arith}
use Rattle.theory_form.proofs.TheoryLemmas.{cut-step}
use Rattle.theory_form.proofs.theories.cut_variables.Goals as goal

pub loop-variables-preserved-in-Some : goal.loop-variables-preserved-in-Some
loop-variables-preserved-in-Some c =
    let f = c.loop-variables in
    cut-step c.args.variables.now.items f.variables.items c.pop.new.self.items c.in-Some.last f.blocks.items _ _ c.args.count c.in-Some.ensures.items
    (omega (arith, c.loop-variables-test.true, c.len.ensures)) f.invariant.0 f.invariant.1 f.invariant.2 f.invariant.3 c.unlist_atom.ensures

pub loop-variables-preserved-in-Some-2 : goal.loop-variables-preserved-in-Some-2
loop-variables-preserved-in-Some-2 c =
    let f = c.loop-variables in
    cut-step c.args.variables.now.items f.variables.items c.pop.new.self.items c.in-Some.last f.blocks.items _ _ c.args.count c.in-Some.ensures.items
    (omega (arith, c.loop-variables-test.true, c.len.ensures)) f.invariant.0 f.invariant.1 f.invariant.2 f.invariant.3 c.unlist_atom.ensures

pub loop-variables-preserved-in-Some-3 : goal.loop-variables-preserved-in-Some-3
loop-variables-preserved-in-Some-3 c =
    let f = c.loop-variables in
    cut-step c.args.variables.now.items f.variables.items c.pop.new.self.items c.in-Some.last f.blocks.items _ _ c.args.count c.in-Some.ensures.items
    (omega (arith, c.loop-variables-test.true, c.len.ensures)) f.invariant.0 f.invariant.1 f.invariant.2 f.invariant.3 c.unlist_atom.ensures

pub loop-variables-preserved-in-Some-4 : goal.loop-variables-preserved-in-Some-4
loop-variables-preserved-in-Some-4 c =
    let f = c.loop-variables in
    cut-step c.args.variables.now.items f.variables.items c.pop.new.self.items c.in-Some.last f.blocks.items _ _ c.args.count c.in-Some.ensures.items
    (omega (arith, c.loop-variables-test.true, c.len.ensures)) f.invariant.0 f.invariant.1 f.invariant.2 f.invariant.3 c.unlist_atom.ensures
