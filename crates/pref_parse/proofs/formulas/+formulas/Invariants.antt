use Rattle.std.proofs.Common.{length, ◌≤◌, ◌+◌, ◌*◌}
use Rattle.ap_grammar.specs.declared.terminals.Terminal.TheVariants.{And, Or}
use Rattle.ap_grammar.specs.Grammar.{Name}
use Rattle.pref_parse.proofs.FormulaLemmas.{Joining}
use Rattle.pref_parse.proofs.formulas.+formulas.Given as goal

-- each token is worth more than all the calls that read no token
abbrev pub decreases-read_formula : goal.decreases-read_formula
decreases-read_formula l = 6 * length l.tokens.now + 5

abbrev pub decreases-read_disjuncts : goal.decreases-read_disjuncts
decreases-read_disjuncts l = 6 * length l.tokens.now + 4

abbrev pub decreases-read_conjunction : goal.decreases-read_conjunction
decreases-read_conjunction l = 6 * length l.tokens.now + 3

abbrev pub decreases-read_conjuncts : goal.decreases-read_conjuncts
decreases-read_conjuncts l = 6 * length l.tokens.now + 2

abbrev pub decreases-read_member : goal.decreases-read_member
decreases-read_member l = 6 * length l.tokens.now + 1

abbrev pub decreases-read_unit : goal.decreases-read_unit
decreases-read_unit l = 6 * length l.tokens.now

abbrev pub invariant-read_disjuncts-signs : goal.invariant-read_disjuncts-signs
invariant-read_disjuncts-signs l = record { shorter : length l.tokens ≤ length l.initial.tokens; so_far : Joining Or Name.Conjunction l.initial.tokens l.tokens l.initial.members.items l.members.items }

abbrev pub decreases-read_disjuncts-signs : goal.decreases-read_disjuncts-signs
decreases-read_disjuncts-signs l = length l.tokens

abbrev pub invariant-read_conjuncts-signs : goal.invariant-read_conjuncts-signs
invariant-read_conjuncts-signs l = record { shorter : length l.tokens ≤ length l.initial.tokens; so_far : Joining And Name.Member l.initial.tokens l.tokens l.initial.members.items l.members.items }

abbrev pub decreases-read_conjuncts-signs : goal.decreases-read_conjuncts-signs
decreases-read_conjuncts-signs l = length l.tokens
