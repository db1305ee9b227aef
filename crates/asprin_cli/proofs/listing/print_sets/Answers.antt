use Rattle.std.proofs.Common.{length}
use Rattle.asprin_cli.specs.Lines.{line_of}
use Rattle.asprin_cli.specs.Listed.{kept_line}
use Rattle.asprin_cli.specs.declared.end.End.TheVariants.{Done}
use Rattle.asprin_cli.proofs.Printing.{cut_line}
use Rattle.asprin_cli.proofs.listing.print_sets.Goals as goal

pub returns-in-Err-Sink-clause-part : goal.returns-in-Err-Sink-clause-part
returns-in-Err-Sink-clause-part g c = λ tells cut.
    cut_line (kept_line c.args.shown.now) _ (g.O.Sink.taken c.loop-at.out) _ (line_of (Done (length c.args.sets.now))) c.args.sets.now c.loop-at.at c.index-sets-at.result c.loop-at-test.true c.index-sets-at.is
    (c.loop-at.invariant.1 tells) (c.loop-at.invariant.2 tells) (rw c.as_slice.ensures at (c.in-Err-Sink.ensures.part tells))

pub returns-in-Err-Memory-clause-part : goal.returns-in-Err-Memory-clause-part
returns-in-Err-Memory-clause-part g c = λ tells cut.
    cut_line (kept_line c.args.shown.now) _ (g.O.Sink.taken c.loop-at.out) _ (line_of (Done (length c.args.sets.now))) c.args.sets.now c.loop-at.at c.index-sets-at.result c.loop-at-test.true c.index-sets-at.is
    (c.loop-at.invariant.1 tells) (c.loop-at.invariant.2 tells) (rw c.as_slice.ensures at (c.in-Err-Memory.ensures.part tells))
