use Rattle.literal_parse.proofs.Steps.{exit}
use Rattle.pref_parse.proofs.StatementLemmas.{any_preference_fails, any_preference, any_optimize, any_other}
use Rattle.pref_parse.proofs.statements.read_any.Goals as goal

pub returns-in_err-preference-clause-read : goal.returns-in_err-preference-clause-read
returns-in_err-preference-clause-read c = exit c.in_err-preference.ensures.read c.from_residual.ensures.1 (any_preference_fails c.args.of_type c.if-sees.ensures)

pub returns-then-sees-clause-read : goal.returns-then-sees-clause-read
returns-then-sees-clause-read c = any_preference c.args.of_type c.if-sees.ensures c.in_ok-preference.ensures.read

pub returns-then-sees-2-clause-read : goal.returns-then-sees-2-clause-read
returns-then-sees-2-clause-read c = any_optimize c.args.of_type c.if-sees.ensures c.if-sees-2.ensures c.read_optimize.ensures.read

pub returns-clause-read : goal.returns-clause-read
returns-clause-read c = any_other c.args.of_type c.if-sees.ensures c.if-sees-2.ensures c.read_statement.ensures.read
