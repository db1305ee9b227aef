use Rattle.std.proofs.Common.{false, arith}
use Rattle.std.proofs.lemmas.Grind.{common_steps}
use Rattle.literal_parse.proofs.Steps.{exit}
use Rattle.ap_parse.proofs.SectionLemmas.{sections_more, section_shorter, text_fails, text_section_fails, text_read}
use Rattle.ap_parse.proofs.sections.read_text.Goals as goal

pub returns-in_err-statements-clause-read : goal.returns-in_err-statements-clause-read
returns-in_err-statements-clause-read c = exit c.in_err-statements.ensures.read c.from_residual.ensures.1 (text_fails false c.args.of_type)

pub returns-in_err-statements-2-clause-read : goal.returns-in_err-statements-2-clause-read
returns-in_err-statements-2-clause-read c = exit c.in_err-statements-2.ensures.read c.from_residual-in_err-statements-2.ensures.1 (text_section_fails false c.args.of_type c.in_ok-statements.ensures.read c.sections.invariant.so_far c.sections-test.ensures)

pub sections-smaller : goal.sections-smaller
sections-smaller c = section_shorter false c.in_ok-statements-2.ensures.read

pub sections-preserved : goal.sections-preserved
sections-preserved c = record { shorter = grind (arith, common_steps); so_far = sections_more false c.sections.invariant.so_far c.in_ok-statements-2.ensures.read }

pub returns-clause-read : goal.returns-clause-read
returns-clause-read c = rw c.fitted.ensures (text_read false c.args.of_type c.in_ok-statements.ensures.read c.sections.invariant.so_far c.new.ensures.items c.sections-test.ensures)
