use Rattle.std.proofs.Common.{length}
use Rattle.theory_model.specs.Bodies.{AreClausesTrue}
use Rattle.theory_model.proofs.GrowthLemmas.{clause_over}
use Rattle.search_law.specs.Closed.{truths}
use Rattle.search_law.proofs.LoopLemmas.{block_within, loop_holds}
use Rattle.search_law.proofs.SumLemmas.{sum_holds}
use Rattle.search_law.proofs.ValueLemmas.{places_over, settled_true}
use Rattle.search_law.proofs.closed.closed_assignments_are_models.Goals as goal

pub returns : goal.returns
returns c = λ t a theory whole defines places total settled closed.
    let clauses : AreClausesTrue t (truths a) =
    λ id d at. settled_true a d total (places_over a (length t.variables) d places (clause_over t whole id d at)) (settled id d at) in
    record {
      clauses = clauses;
      sums = λ v row at. sum_holds t a whole places total v row at (closed.sums v row at);
      loops = λ block u atoms v member.
          loop_holds t a block u whole defines clauses places total atoms (closed.loops block (block_within t v block theory (atoms v member))) v member;
    }
