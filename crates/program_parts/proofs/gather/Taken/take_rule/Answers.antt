-- The rule goes to the part that is in force.
use Rattle.std.proofs.Common.{refl}
use Rattle.std.proofs.lemmas.Result.{on_ok_weaker}
use Rattle.program_parts.proofs.TakenLemmas.{rule_of_base, rule_of_type}
use Rattle.program_parts.proofs.gather.Taken.take_rule.Goals as goal

pub returns-in-None-clause-rules : goal.returns-in-None-clause-rules
returns-in-None-clause-rules c = on_ok_weaker c.push.result (λ e ss h. rule_of_base ss c.args.self.now c.args.rule h _ c.in-None.is e refl refl refl) c.push.ensures.ok

pub returns-in-Some-clause-rules : goal.returns-in-Some-clause-rules
returns-in-Some-clause-rules c = on_ok_weaker c.push_rule.result (λ e ss h. rule_of_type ss c.args.self.now c.args.rule h _ c.in-Some.place c.in-Some.is e refl refl refl) c.push_rule.ensures
