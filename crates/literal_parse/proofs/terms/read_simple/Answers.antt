use Rattle.std.proofs.Common.{◌∙◌, ap}
use Rattle.ap_grammar.specs.Lexemes.{string_of}
use Rattle.literal_parse.proofs.Primaries.{simple_number, simple_string, simple_variable, simple_any}
use Rattle.literal_parse.proofs.terms.read_simple.Goals as goal

pub returns-in-Some-clause-read : goal.returns-in-Some-clause-read
returns-in-Some-clause-read c = simple_number c.from.result c.from.ensures c.from.type_inv c.in-Some.ensures

pub returns-in-Some-quoted-clause-read : goal.returns-in-Some-quoted-clause-read
returns-in-Some-quoted-clause-read c = simple_string c.in_default.ensures c.in-Some-quoted.ensures.0 (c.in_ok-text.ensures ∙ ap string_of c.in-Some-quoted.ensures.1)

pub returns-in-Some-take-clause-read : goal.returns-in-Some-take-clause-read
returns-in-Some-take-clause-read c = simple_variable c.in_default.ensures c.in_default-quoted.ensures c.in-Some-take.ensures.0 (c.in_ok-name.ensures ∙ c.in-Some-take.ensures.1)

pub returns-then-eat-clause-read : goal.returns-then-eat-clause-read
returns-then-eat-clause-read c = simple_any c.in_default.ensures c.in_default-quoted.ensures c.in_default-take.ensures c.if-eat.ensures
