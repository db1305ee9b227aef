use Rattle.asp_branching.proofs.branching.next_open.Given as goal

abbrev pub decreases-loop-number : goal.decreases-loop-number
decreases-loop-number l = l.heap.count
