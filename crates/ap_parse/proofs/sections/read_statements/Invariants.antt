use Rattle.std.proofs.Common.{false, length, ◌≤◌}
use Rattle.ap_grammar.specs.Grammar.{Name}
use Rattle.ap_grammar.specs.Factored.{call}
use Rattle.ap_parse.proofs.SectionLemmas.{Grows}
use Rattle.ap_parse.proofs.sections.read_statements.Given as goal

abbrev pub invariant-statements : goal.invariant-statements
invariant-statements l = record { shorter : length l.tokens ≤ length l.initial.tokens; so_far : Grows (call (Name.Statement false l.of_type)) l.initial.tokens l.tokens l.initial.statements.items l.statements.items }

abbrev pub decreases-statements : goal.decreases-statements
decreases-statements l = length l.tokens
