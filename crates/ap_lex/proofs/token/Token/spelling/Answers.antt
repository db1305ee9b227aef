use Rattle.ap_lex.proofs.BoundaryLemmas.{token_boundaries}
use Rattle.ap_lex.proofs.token.Token.spelling.Goals as goal

pub range-requires-clause-start_boundary : goal.range-requires-clause-start_boundary
range-requires-clause-start_boundary c = λ _. (token_boundaries _ _ _ _ c.utf8.text c.requires).0

pub range-requires-clause-end_boundary : goal.range-requires-clause-end_boundary
range-requires-clause-end_boundary c = (token_boundaries _ _ _ _ c.utf8.text c.requires).1
