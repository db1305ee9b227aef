use Rattle.std.proofs.Common.{arith}
use Rattle.asp_engine.proofs.intake.take_clauses.Goals as goal

pub returns-in-Err-clause-taken : goal.returns-in-Err-clause-taken
returns-in-Err-clause-taken c = λ steps v h. c.in-Err.ensures.err steps v (c.clauses.invariant.taken steps v h)

pub clauses-preserved : goal.clauses-preserved
clauses-preserved c =
    let i = c.clauses.invariant in
    let test = c.clauses-test.true in
    record {
      next = i.next;
      most = (let n = i.next in omega (arith, n, test));
      places = c.in-Ok.ensures.places;
      taken = λ steps v h. c.in-Ok.ensures.ok steps v (i.taken steps v h);
    }
