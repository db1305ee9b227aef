use Rattle.literal_parse.proofs.Steps.{exit}
use Rattle.pref_parse.proofs.RankLemmas.{target_name_fails, target_name, target_formula_fails, target_formula}
use Rattle.pref_parse.proofs.ranked.read_target.Goals as goal

pub returns-in_err-name-clause-read : goal.returns-in_err-name-clause-read
returns-in_err-name-clause-read c = exit c.in_err-name.ensures.read c.from_residual.ensures.1 (target_name_fails c.if-eat.ensures)

pub returns-then-eat-clause-read : goal.returns-then-eat-clause-read
returns-then-eat-clause-read c = target_name c.if-eat.ensures c.in_ok-name.ensures.read

pub returns-in_err-formula-clause-read : goal.returns-in_err-formula-clause-read
returns-in_err-formula-clause-read c = exit c.in_err-formula.ensures.read c.from_residual-in_err-formula.ensures.1 (target_formula_fails c.if-eat.ensures)

pub returns-clause-read : goal.returns-clause-read
returns-clause-read c = target_formula c.if-eat.ensures c.in_ok-formula.ensures.read
