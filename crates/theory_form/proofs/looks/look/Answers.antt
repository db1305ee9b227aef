use Rattle.theory_form.proofs.LookLemmas.{Seen-false, Seen-free, FalseAt-read, FreeAt-read, unit_from_Seen, false_from_Seen}
use Rattle.theory_form.proofs.looks.look.Goals as goal
use Rattle.theory_form.proofs.looks.look.Goals.{in-False, in-Free+in-None}

pub loop-i-preserved : goal.loop-i-preserved
loop-i-preserved c =
    let a = c.args.assignment.now in
    let xs = c.args.lits.now in
    let i = c.loop-i.i in
    elim c.match-truth.branch [
      | in-False w ↦ rw w.free-is (Seen-false a xs i c.loop-i.free c.loop-i.invariant (FalseAt-read a xs i _ c.loop-i-test.true w.in-False.ensures))
      | in-Free+in-None w ↦
          rw w.free-is (Seen-free a xs i (rw w.in-None.is at c.loop-i.invariant) (FreeAt-read a xs i _ c.loop-i-test.true w.in-Free.ensures))
    ]

pub returns-in-Some-free : goal.returns-in-Some-free
returns-in-Some-free c =
    unit_from_Seen c.args.assignment.now c.args.lits.now c.loop-i.i c.in-Some-free.k c.loop-i-test.false
    (rw c.in-Some-free.is at c.loop-i.invariant)

pub returns-in-None-free : goal.returns-in-None-free
returns-in-None-free c =
    false_from_Seen c.args.assignment.now c.args.lits.now c.loop-i.i c.loop-i-test.false
    (rw c.in-None-free.is at c.loop-i.invariant)
