use Rattle.std.proofs.Common.{◌≡◌, ◌++◌, ◌+◌, ◌*◌, drop, false, length}
use Rattle.ap_syntax.specs.declared.terms.Term.{size-Term}
use Rattle.ap_pieces.specs.Variables.{occurrences_of}
use Rattle.ap_pieces.specs.Placed.{placed}
use Rattle.ap_pieces.proofs.ChainLemmas.{Within, from_last}
use Rattle.ap_pieces.proofs.variables.+occurrences.Given as goal

-- an operand is ranked above a term that is no deeper
abbrev pub decreases-push_term : goal.decreases-push_term
decreases-push_term l = 2 * size-Term l.term.now

abbrev pub decreases-push_operand : goal.decreases-push_operand
decreases-push_operand l = 2 * size-Term l.term.now + 1

abbrev pub decreases-push_terms : goal.decreases-push_terms
decreases-push_terms l = 2 * goal.size-push_terms l + 1

-- the occurrences in the operands that are left
abbrev pub invariant-push_operand-loop-part : goal.invariant-push_operand-loop-part
invariant-push_operand-loop-part l =
    (l.initial.found ++ placed false (occurrences_of (from_last l.initial.parts.items)) ≡ l.found ++ placed false (occurrences_of (from_last l.parts.items)))
    × Within l.term l.parts.items

abbrev pub decreases-push_operand-loop-part : goal.decreases-push_operand-loop-part
decreases-push_operand-loop-part l = length l.parts.items

abbrev pub invariant-push_terms-loop-term : goal.invariant-push_terms-loop-term
invariant-push_terms-loop-term l = l.initial.found ++ placed l.free (occurrences_of l.terms) ≡ l.found ++ placed l.free (occurrences_of (drop l.term-index l.terms))
