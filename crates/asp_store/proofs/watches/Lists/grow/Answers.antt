use Rattle.asp_store.proofs.PlaceLemmas.{IsLonger-same, IsLonger-push}
use Rattle.asp_store.proofs.watches.Lists.grow.Goals as goal

pub rows-init : goal.rows-init
rows-init c = IsLonger-same _

pub rows-preserved : goal.rows-preserved
rows-preserved c = rw (c.in_ok-push.ensures.items, c.new.ensures) (IsLonger-push _ _ c.rows.invariant)
