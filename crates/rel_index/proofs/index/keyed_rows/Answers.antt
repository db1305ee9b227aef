use Rattle.rel_index.proofs.Steps.{keyed_step}
use Rattle.rel_index.proofs.index.keyed_rows.Goals as goal

pub loop-place-preserved : goal.loop-place-preserved
loop-place-preserved g c =
    keyed_step c.args.places.now c.args.relation.now.rows c.loop-place.place c.row.result.now c.row.ensures.row _ c.loop-place.entries.items c.push.new.self.items c.key_at.result
    c.loop-place.invariant c.key_at.ensures c.in_ok-push.ensures.items
