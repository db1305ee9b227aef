use Rattle.std.proofs.Common.{◌≤◌, map, All}
use Rattle.std.specs.Borrow.{Bor}
use Rattle.ap_syntax.specs.declared.terms.Term.{Term, size-Term}
use Rattle.rule_joins.specs.Chains.{IsChain}
use Rattle.rule_joins.proofs.terms.chain.Given as goal

abbrev pub invariant-loop-operand : goal.invariant-loop-operand
invariant-loop-operand l = record {
  chain : IsChain l.term (map (λ (t : Bor Term). t.now) l.operations.items) l.first;
  inside : All (λ (t : Bor Term). size-Term t.now ≤ size-Term l.term) l.operations.items;
  smaller : size-Term l.first ≤ size-Term l.term;
}

abbrev pub decreases-loop-operand : goal.decreases-loop-operand
decreases-loop-operand l = size-Term l.first
