use Rattle.std.proofs.Common.{◌∙◌}
use Rattle.definite.proofs.Drains.{search_start}
use Rattle.definite.proofs.search.search.Goals as goal

pub settle_each-requires : goal.settle_each-requires
settle_each-requires c = search_start c.args.rules.now c.in_ok-waits.waits (record { marks = c.from_vec.result; order = c.new.result }) c.args.atoms c.requires (c.from_vec.ensures ∙ c.in_ok-vec.ensures.items_if_clones_equal (λ _ e. e)) c.new.ensures c.in_ok-waits.ensures.size c.in_ok-waits.ensures.none c.in_ok-waits.ensures.met

pub drain-requires-clause-search : goal.drain-requires-clause-search
drain-requires-clause-search c = c.in_ok-settle_each.ensures.0.search (search_start c.args.rules.now c.in_ok-waits.waits (record { marks = c.from_vec.result; order = c.new.result }) c.args.atoms c.requires (c.from_vec.ensures ∙ c.in_ok-vec.ensures.items_if_clones_equal (λ _ e. e)) c.new.ensures c.in_ok-waits.ensures.size c.in_ok-waits.ensures.none c.in_ok-waits.ensures.met)
