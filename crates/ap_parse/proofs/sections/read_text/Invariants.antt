use Rattle.std.proofs.Common.{false, length, ◌≤◌}
use Rattle.ap_parse.proofs.SectionLemmas.{Sections}
use Rattle.ap_parse.proofs.sections.read_text.Given as goal

abbrev pub invariant-sections : goal.invariant-sections
invariant-sections l = record { shorter : length l.tokens ≤ length l.initial.tokens; so_far : Sections false l.initial.tokens l.tokens l.initial.statements.items l.statements.items }

abbrev pub decreases-sections : goal.decreases-sections
decreases-sections l = length l.tokens
