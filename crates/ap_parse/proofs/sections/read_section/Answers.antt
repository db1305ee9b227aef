use Rattle.std.proofs.Common.{false, ◌∷◌, ◌++◌, [], ◌∙◌, ap}
use Rattle.literal_parse.proofs.Steps.{exit}
use Rattle.ap_parse.proofs.SectionLemmas.{section_opening_fails, section_read}
use Rattle.ap_parse.proofs.sections.read_section.Goals as goal

pub returns-in_err-opening-clause-read : goal.returns-in_err-opening-clause-read
returns-in_err-opening-clause-read c = exit c.in_err-opening.ensures.read c.from_residual.ensures.1 (section_opening_fails false)

pub returns-clause-read : goal.returns-clause-read
returns-clause-read c = section_read false c.in_ok-opening.ensures.read (c.in_ok-push.ensures.items ∙ ap (λ s. c.args.statements.items ++ s ∷ []) c.into_statement.ensures) c.is_of_type-of_type.ensures c.read_statements.ensures.read
