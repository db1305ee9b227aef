use Rattle.std.proofs.Common.{◌+◌, ◌*◌, ◌≤◌, length, map, take, All}
use Rattle.std.specs.Borrow.{Bor}
use Rattle.ap_syntax.specs.declared.terms.Term.{Term, size-Term}
use Rattle.ap_term.specs.Table.{KeepsIds}
use Rattle.rule_form.specs.Readings.{read_term}
use Rattle.rule_joins.specs.Chains.{IsChain}
use Rattle.rule_joins.specs.Terms.{HasIntegers, IsTermPlan, AreTermPlans}
use Rattle.rule_joins.proofs.terms.+compile.Given as goal

-- a term is ranked above its plain form and its operations, which are no deeper
abbrev pub decreases-compile_term : goal.decreases-compile_term
decreases-compile_term l = 3 * size-Term l.term.now + 2

abbrev pub decreases-compile_plain : goal.decreases-compile_plain
decreases-compile_plain l = 3 * size-Term l.term.now + 1

abbrev pub decreases-apply : goal.decreases-apply
decreases-apply l = 3 * size-Term l.operation.now + 1

abbrev pub decreases-compile_terms : goal.decreases-compile_terms
decreases-compile_terms l = 3 * goal.size-compile_terms l + 3

-- the operations that are left, and the pattern of what is their first operand
abbrev pub invariant-compile_term-loop-operation : goal.invariant-compile_term-loop-operation
invariant-compile_term-loop-operation l = record {
  kept : KeepsIds l.fn.terms l.terms;
  inside : All (λ (t : Bor Term). size-Term t.now ≤ size-Term l.term) l.operations.items;
  integers : All (λ (t : Bor Term). HasIntegers (read_term t.now)) l.operations.items;
  plan : (first : Term) × IsChain l.term (map (λ (t : Bor Term). t.now) l.operations.items) first × IsTermPlan (read_term first) l.pattern l.fn.terms l.fn.draft l.terms l.draft;
}

abbrev pub decreases-compile_term-loop-operation : goal.decreases-compile_term-loop-operation
decreases-compile_term-loop-operation l = length l.operations.items

abbrev pub invariant-compile_terms-loop-part : goal.invariant-compile_terms-loop-part
invariant-compile_terms-loop-part l = record {
  kept : KeepsIds l.fn.terms l.terms;
  plans : AreTermPlans (map read_term (take l.part-index l.parts)) l.patterns l.fn.terms l.fn.draft l.terms l.draft;
}
