use Rattle.std.proofs.Common.{vec_capacity}
use Rattle.asp_store.proofs.PlaceLemmas.{IsWatchStore-new}
use Rattle.asp_store.proofs.stores.Store.new.Goals as goal

pub invariant_of-result : goal.invariant_of-result
invariant_of-result c =
    rw (c.new.ensures.empty, c.new-2.ensures, c.new-4.ensures.items, c.new-5.ensures.items, c.new-3.ensures, c.new-6.ensures.items) (IsWatchStore-new (vec_capacity c.new-6.result))
