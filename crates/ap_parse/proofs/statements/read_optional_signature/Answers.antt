use Rattle.literal_parse.proofs.Steps.{exit}
use Rattle.ap_parse.proofs.StatementLemmas.{no_signature, signature_fails, some_signature}
use Rattle.ap_parse.proofs.statements.read_optional_signature.Goals as goal

pub returns-then-not-begins_name-clause-read : goal.returns-then-not-begins_name-clause-read
returns-then-not-begins_name-clause-read c = no_signature c.if-not-begins_name.ensures

pub returns-in_err-signature-clause-read : goal.returns-in_err-signature-clause-read
returns-in_err-signature-clause-read c = exit c.in_err-signature.ensures.read c.from_residual.ensures.1 (signature_fails c.if-not-begins_name.ensures)

pub returns-clause-read : goal.returns-clause-read
returns-clause-read c = some_signature c.if-not-begins_name.ensures c.in_ok-signature.ensures.read
