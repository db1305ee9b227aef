-- The rules of one type get one more.
use Rattle.std.proofs.Common.{length, refl}
use Rattle.std.proofs.lemmas.Option.{slice_get_read}
use Rattle.std.proofs.lemmas.Result.{on_ok_weaker}
use Rattle.program_parts.proofs.TakenLemmas.{rule_added}
use Rattle.program_parts.proofs.gather.push_rule.Goals as goal

pub returns : goal.returns
returns c = on_ok_weaker c.push.result (λ e. rule_added c.args.kinds.now.items c.args.place c.args.rule c.index_mut.result.now c.push.new.self (slice_get_read c.args.kinds.now.items (length c.args.kinds.now.items) c.args.place c.index_mut.result.now refl c.requires c.index_mut.ensures.value) e) c.push.ensures.ok
