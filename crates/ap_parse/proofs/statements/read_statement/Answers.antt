use Rattle.literal_parse.proofs.Steps.{exit}
use Rattle.ap_parse.proofs.StatementLemmas.{rule_fails, rule_statement, const_statement, show_statement, defined_statement}
use Rattle.ap_parse.proofs.statements.read_statement.Goals as goal

pub returns-in_err-rule-clause-read : goal.returns-in_err-rule-clause-read
returns-in_err-rule-clause-read c = exit c.in_err-rule.ensures.read c.from_residual.ensures.1 (rule_fails c.args.of_type c.if-begins_rule.ensures)

pub returns-then-begins_rule-clause-read : goal.returns-then-begins_rule-clause-read
returns-then-begins_rule-clause-read c = rule_statement c.args.of_type c.if-begins_rule.ensures c.in_ok-rule.ensures.read

pub returns-then-sees-clause-read : goal.returns-then-sees-clause-read
returns-then-sees-clause-read c = const_statement c.args.of_type c.if-begins_rule.ensures c.if-sees.ensures c.read_const.ensures.read

pub returns-then-sees-2-clause-read : goal.returns-then-sees-2-clause-read
returns-then-sees-2-clause-read c = show_statement c.args.of_type c.if-begins_rule.ensures c.if-sees.ensures c.if-sees-2.ensures c.read_show.ensures.read

pub returns-clause-read : goal.returns-clause-read
returns-clause-read c = defined_statement c.args.of_type c.if-begins_rule.ensures c.if-sees.ensures c.if-sees-2.ensures c.read_defined.ensures.read
