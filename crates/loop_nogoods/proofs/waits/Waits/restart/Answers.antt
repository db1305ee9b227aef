use Rattle.std.proofs.Common.{sym, ◌∙◌}
use Rattle.loop_nogoods.proofs.StampLemmas.{lists_clear, lists_length}
use Rattle.loop_nogoods.proofs.waits.Waits.restart.Goals as goal

pub returns-clause-places : goal.returns-clause-places
returns-clause-places c =
    lists_length c.restart.new.self c.make_lists.new.lists.items (c.in_ok-restart.ensures.places ∙ sym c.in_ok-make_lists.ensures) ∙ c.in_ok-make_lists.ensures

pub returns-clause-none : goal.returns-clause-none
returns-clause-none c = lists_clear c.restart.new.self c.make_lists.new.lists.items c.in_ok-restart.ensures.clear
