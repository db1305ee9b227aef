use Rattle.std.proofs.Common.{sym, subst}
use Rattle.search_law.specs.Closed.{truths}
use Rattle.asp_solver.proofs.FoundLemmas.{as_cut}
use Rattle.asp_solver.proofs.found.atoms_of.Goals as goal

pub returns-clause-atoms : goal.returns-clause-atoms
returns-clause-atoms c = as_cut c.args.t.now (truths c.args.a.now) c.new.result (λ n. rw c.new.ensures (c.in_ok-ids.ensures.atoms n))
