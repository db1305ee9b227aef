-- What stands for the last is pushed.
use Rattle.small_front.specs.Forms.{item_of}
use Rattle.small_front.proofs.FormLemmas.{found-more, small-more}
use Rattle.small_front.proofs.rules.body_of.Goals as goal

pub items-preserved : goal.items-preserved
items-preserved c =
    let all = c.args.items in let old = c.items.items in let rest = c.pop.new.self in let last = c.in-Some.last in
    let found = c.in-Some-item_of in let pushed = c.in_ok-push-in-Some-item_of.ensures.items in (
      small-more item_of all old rest last found.item c.items.invariant.0 c.in-Some.ensures found.ensures,
      found-more item_of all old rest last found.item c.items.small.items c.push.new.self.items c.items.invariant.1 c.in-Some.ensures found.ensures pushed,
    )
