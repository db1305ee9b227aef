use Rattle.std.proofs.Common.{All}
use Rattle.ap_term.specs.Table.{IsIdOf, KeepsIds}
use Rattle.join_search.proofs.Evaluated.{HaveValues}
use Rattle.join_search.proofs.evaluation.+evaluate.Given as goal

-- the parts so far have their values
abbrev pub invariant-loop-part : goal.invariant-loop-part
invariant-loop-part l = KeepsIds l.fn.terms l.terms × All (IsIdOf l.terms) l.ids.items × HaveValues l.fn.terms l.terms l.binding l.parts l.ids.items l.part-index

abbrev pub decreases-evaluate : goal.decreases-evaluate
decreases-evaluate l = goal.size-evaluate l
