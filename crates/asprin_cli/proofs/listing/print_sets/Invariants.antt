use Rattle.std.proofs.Common.{◌≡◌, ◌+◌, ◌++◌, drop, IsTrue}
use Rattle.std.specs.Io.{StartsWith}
use Rattle.asprin_cli.specs.Lines.{numbered}
use Rattle.asprin_cli.specs.Listed.{kept_line}
use Rattle.asprin_cli.proofs.listing.print_sets.Given as goal

-- what was taken, with the lines of the sets that are left, is the whole
abbrev pub invariant-loop-at : goal.invariant-loop-at
invariant-loop-at g l =
    (g.O.Sink.faults l.out ≡ g.O.Sink.faults l.initial.out)
    × (IsTrue g.O.Sink.tells → g.O.Sink.taken l.initial.out ++ numbered (kept_line l.shown) 1 l.sets ≡ g.O.Sink.taken l.out ++ numbered (kept_line l.shown) (l.at + 1) (drop l.at l.sets))
    × (IsTrue g.O.Sink.tells → StartsWith (g.O.Sink.taken l.out) (g.O.Sink.taken l.initial.out))
