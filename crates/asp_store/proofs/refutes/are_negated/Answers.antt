use Rattle.std.proofs.Common.{arith, refl}
use Rattle.std.specs.List.{Contains}
use Rattle.theory_form.specs.declared.literals.Lit.{Lit}
use Rattle.theory_form.specs.Literals.{opposite}
use Rattle.asp_store.proofs.ExamineLemmas.{zero_lit}
use Rattle.asp_store.proofs.RefuteLemmas.{each_more}
use Rattle.asp_store.proofs.StoreLemmas.{none_from_test}
use Rattle.asp_store.proofs.refutes.are_negated.Goals as goal

pub loop-l-preserved : goal.loop-l-preserved
loop-l-preserved c =
    each_more (λ (l : Lit). Contains c.args.assume.now (opposite l)) c.args.lits.now c.loop-l.l-index zero_lit c.loop-l-test.true c.loop-l.invariant
    (c.is_negated.ensures.0 c.if-not-is_negated.false)

pub returns-then-not-is_negated : goal.returns-then-not-is_negated
returns-then-not-is_negated c = (
  λ yes. cc,
  λ all. absurd (none_from_test _ _ c.if-not-is_negated.true c.is_negated.ensures (all c.loop-l.l-index zero_lit c.loop-l-test.true)),
)

pub returns : goal.returns
returns c = (λ yes k d within. let low = c.loop-l-test.false in c.loop-l.invariant k d (omega (arith, low, within)), λ all. refl)
