use Rattle.std.proofs.Common.{length, rules}
use Rattle.std.proofs.lemmas.Slice.Zip.{zip_turn}
use Rattle.ap_term.proofs.CompareLemmas.{differ_at}
use Rattle.ap_term.proofs.ShapeLemmas.{ids_differ}
use Rattle.ap_term.proofs.terms.first_difference.Goals as goal

pub returns-then-ne : goal.returns-then-ne
returns-then-ne c =
    let turn = zip_turn c.args.xs.now c.args.ys.now c.loop-x.yielded _ c.loop-x.x-iterator c.next.new.self c.next.result (search rules) (search rules) c.loop-x.yielded_by (c.in-Some.x, c.in-Some.y) c.in-Some.is c.next.ensures.steps in
    differ_at c.args.xs.now c.args.ys.now (length c.loop-x.yielded) c.in-Some.x.now c.in-Some.y.now c.loop-x.invariant turn.0 turn.1 (turn.2 _) (turn.3 _) (ids_differ c.in-Some.x.now c.in-Some.y.now c.if-ne.ensures)
