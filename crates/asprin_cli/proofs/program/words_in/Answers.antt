-- All that is left is collected.
use Rattle.std.proofs.Common.{refl}
use Rattle.std.specs.Vec.Iter.{into_iter_items}
use Rattle.std.proofs.lemmas.Iterator.{items_from_collect}
use Rattle.std.proofs.lemmas.Iterator.Adapters.{YieldsList-from_vec}
use Rattle.asprin_cli.proofs.Calling.{collected, len_is}
use Rattle.asprin_cli.proofs.program.words_in.Goals as goal

pub returns : goal.returns
returns c =
    let left = c.next.new.self in
    collected c.args.all left c.next.result c.collect.result c.next.ensures.cases c.next.ensures.items
    (items_from_collect c.collect.result c.collect.ensures.ran (YieldsList-from_vec (into_iter_items left) refl (len_is left)))
