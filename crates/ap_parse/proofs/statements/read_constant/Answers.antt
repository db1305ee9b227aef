use Rattle.std.proofs.Common.{◌∙◌, ap}
use Rattle.ap_grammar.specs.Lexemes.{string_of}
use Rattle.literal_parse.proofs.Steps.{exit}
use Rattle.ap_parse.proofs.StatementLemmas.{opposite_fails, opposite_read, number_constant, name_constant_fails, name_constant, string_constant, no_constant}
use Rattle.ap_parse.proofs.statements.read_constant.Goals as goal

pub returns-in_err-opposite-clause-read : goal.returns-in_err-opposite-clause-read
returns-in_err-opposite-clause-read c = exit c.in_err-opposite.ensures.read c.from_residual.ensures.1 (opposite_fails c.if-eat.ensures)

pub returns-then-eat-clause-read : goal.returns-then-eat-clause-read
returns-then-eat-clause-read c = rw c.in_ok-number.ensures (opposite_read c.from.result c.from.ensures c.from.type_inv c.if-eat.ensures c.in_ok-opposite.ensures.read)

pub returns-in-Some-clause-read : goal.returns-in-Some-clause-read
returns-in-Some-clause-read c = number_constant c.from-in-Some.result c.from-in-Some.ensures c.from-in-Some.type_inv c.if-eat.ensures c.in-Some.ensures

pub returns-in_err-name-clause-read : goal.returns-in_err-name-clause-read
returns-in_err-name-clause-read c = exit c.in_err-name.ensures.read c.from_residual-in_err-name.ensures.1 (name_constant_fails c.if-eat.ensures c.in_default.ensures c.if-begins_name.ensures)

pub returns-then-begins_name-clause-read : goal.returns-then-begins_name-clause-read
returns-then-begins_name-clause-read c = name_constant c.if-eat.ensures c.in_default.ensures c.if-begins_name.ensures c.in_ok-name.ensures.read

pub returns-in_ok-string-in-Some-quoted-clause-read : goal.returns-in_ok-string-in-Some-quoted-clause-read
returns-in_ok-string-in-Some-quoted-clause-read c = string_constant c.if-eat.ensures c.in_default.ensures c.if-begins_name.ensures c.in-Some-quoted.ensures.0 (c.in_ok-string-in-Some-quoted.ensures ∙ ap string_of c.in-Some-quoted.ensures.1)

pub returns-in-None-clause-read : goal.returns-in-None-clause-read
returns-in-None-clause-read c = no_constant c.if-eat.ensures c.in_default.ensures c.if-begins_name.ensures c.in-None.ensures
