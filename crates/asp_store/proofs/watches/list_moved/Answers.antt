use Rattle.asp_store.proofs.WatchLemmas.{Grows-push, HasWatcher-listed, push_other}
use Rattle.asp_store.specs.Watch.{code}
use Rattle.asp_store.proofs.watches.list_moved.Goals as goal

pub returns-clause-grows : goal.returns-clause-grows
returns-clause-grows c = rw c.in_ok-push.ensures.ok (Grows-push c.args.lists.now (code c.args.l) _ c.requires.within)

pub returns-clause-listed : goal.returns-clause-listed
returns-clause-listed c cl stays has = rw c.in_ok-push.ensures.ok (HasWatcher-listed c.args.lists.now (code c.args.l) _ cl c.requires.within has)

pub returns-clause-stable : goal.returns-clause-stable
returns-clause-stable c x other = rw c.in_ok-push.ensures.ok (push_other c.args.lists.now (code c.args.l) x _ (other c.if-place-was.false))
