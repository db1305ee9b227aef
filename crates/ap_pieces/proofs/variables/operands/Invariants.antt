use Rattle.ap_pieces.proofs.ChainLemmas.{IsChain}
use Rattle.ap_pieces.proofs.variables.operands.Given as goal

abbrev pub invariant-loop-first : goal.invariant-loop-first
invariant-loop-first l = IsChain l.term l.first l.found.items
