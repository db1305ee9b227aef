use Rattle.std.proofs.Common.{sym, ap, ◌∙◌, option_map}
use Rattle.std.specs.Map.Iter.{deref_pair}
use Rattle.rule_joins.proofs.MapLemmas.{one_more_copied}
use Rattle.rule_joins.proofs.variables.copied.Goals as goal

pub loop-at-preserved : goal.loop-at-preserved
loop-at-preserved c = one_more_copied c.args.variables.now.entries c.loop-at.at c.loop-at.copies c.push.new.self c.in_ok-copy.field-0 (c.unwrap.result.0.now, c.unwrap.result.1.now) c.in_ok-push.ensures.ok c.in_ok-copy.ensures c.loop-at.invariant
    (sym c.get_index.ensures.entry ∙ ap (option_map deref_pair) c.unwrap.ensures)
