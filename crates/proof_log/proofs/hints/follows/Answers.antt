use Rattle.std.proofs.Common.{◌+◌, length}
use Rattle.theory_form.specs.declared.literals.ClauseId.{ClauseId}
use Rattle.proof_log.specs.Added.{slots_of}
use Rattle.proof_log.specs.States.{clause_among}
use Rattle.proof_log.proofs.HintLemmas.{false_iff, forces_last, neither_follows, refuted_last, refuted_more, test_iff, tried_more}
use Rattle.proof_log.proofs.hints.follows.Goals as goal

abbrev no_id : ClauseId
no_id = record { 0 = 0 }

pub returns-in-Refuted-clause-exact : goal.returns-in-Refuted-clause-exact
returns-in-Refuted-clause-exact c = λ a size same.
    let look = clause_among c.args.theory.now (slots_of c.args.added.now) in
    let s = c.loop-i.invariant.exact a size same in
    test_iff (c.loop-i.i + 1) (length c.args.hints.now) _
    (λ last. refuted_last look a c.args.hints.now c.loop-i.i c.loop-i.values no_id c.loop-i-test.true s last c.in-Refuted.ensures)
    (λ more. refuted_more look a c.args.hints.now c.loop-i.i c.loop-i.values no_id c.loop-i-test.true s more c.in-Refuted.ensures)

pub returns-then-last-clause-exact : goal.returns-then-last-clause-exact
returns-then-last-clause-exact c = λ a size same.
    let look = clause_among c.args.theory.now (slots_of c.args.added.now) in
    let s = c.loop-i.invariant.exact a size same in
    false_iff _ (forces_last look a c.args.hints.now c.loop-i.i c.loop-i.values no_id c.loop-i-test.true s c.in-Forces.l c.if-last.true c.in-Forces.ensures)

pub returns-in-Neither-clause-exact : goal.returns-in-Neither-clause-exact
returns-in-Neither-clause-exact c = λ a size same.
    let look = clause_among c.args.theory.now (slots_of c.args.added.now) in
    let s = c.loop-i.invariant.exact a size same in
    false_iff _ (neither_follows look a c.args.hints.now c.loop-i.i c.loop-i.values no_id c.loop-i-test.true s c.in-Neither.ensures)

pub loop-i-preserved : goal.loop-i-preserved
loop-i-preserved c =
    let look = clause_among c.args.theory.now (slots_of c.args.added.now) in
    tried_more look (c.args.vars + 1) c.args.hints.now c.loop-i.i c.args.values.now c.loop-i.values c.make_true.new.values no_id c.in-Forces.l
    c.loop-i-test.true c.loop-i.invariant c.in-Forces.ensures c.if-last.false c.make_true.ensures.size c.make_true.ensures.same c.make_true.ensures.within
