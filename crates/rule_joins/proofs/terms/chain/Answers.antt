use Rattle.std.proofs.Common.{◌≤◌, All, subst, sym, arith}
use Rattle.std.specs.Borrow.{Bor}
use Rattle.std.proofs.lemmas.List.Elements.{All-push}
use Rattle.ap_syntax.specs.declared.terms.Term.{Term, size-Term}
use Rattle.rule_joins.proofs.ChainLemmas.{chain_more}
use Rattle.rule_joins.proofs.terms.chain.Goals as goal

pub loop-operand-preserved : goal.loop-operand-preserved
loop-operand-preserved c = record {
  chain = chain_more c.args.term.now c.loop-operand.operations.items c.push.new.self.items c.loop-operand.first c.in-Some.operand.now c.in_ok-push.ensures.items c.in-Some.ensures.first c.loop-operand.invariant.chain;
  inside = subst (All (λ (t : Bor Term). size-Term t.now ≤ size-Term c.args.term.now)) (sym c.in_ok-push.ensures.items)
      (All-push (λ (t : Bor Term). size-Term t.now ≤ size-Term c.args.term.now) c.loop-operand.operations.items c.loop-operand.first c.loop-operand.invariant.inside c.loop-operand.invariant.smaller);
  smaller = omega (arith, c.in-Some.ensures.smaller, c.loop-operand.invariant.smaller);
}
