use Rattle.std.proofs.Common.{◌∙◌}
use Rattle.std.specs.Str.{bytes_eq}
use Rattle.indexmap.proofs.CallerLemmas.{insert_entry-new}
use Rattle.rule_joins.proofs.MapLemmas.{none_from_absent}
use Rattle.rule_joins.proofs.variables.put_in.Goals as goal

pub returns : goal.returns
returns c = c.in-Ok.ensures.entries ∙ insert_entry-new bytes_eq c.args.variables.now c.args.name c.args.place (none_from_absent c.args.variables.now.entries c.args.name c.requires)
