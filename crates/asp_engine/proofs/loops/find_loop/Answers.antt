use Rattle.std.proofs.Common.{◌∙◌, inl, inr, subst, arith}
use Rattle.std.proofs.lemmas.Bool.{cases_eq}
use Rattle.loop_nogoods.specs.Unfounded.{IsUnfounded}
use Rattle.asp_engine.proofs.LateLemmas.{if_none}
use Rattle.asp_engine.proofs.loops.find_loop.Goals as goal

pub loop-block-preserved : goal.loop-block-preserved
loop-block-preserved c = (
  c.in_ok-found.ensures.marks ∙ c.loop-block.invariant.0,
  λ b below u h. elim (cases_eq b c.loop-block.block) [
    | inl same ↦
        if_none _ c.in_ok-found.found c.in-None.is c.in_ok-found.ensures.none u (subst (λ n. IsUnfounded c.args.t.now n c.args.a.now u) same h)
    | inr other ↦ c.loop-block.invariant.1 b (omega (arith, below, other)) u h
  ],
)

pub returns-clause-none : goal.returns-clause-none
returns-clause-none c = λ b below u h.
    let test = c.loop-block-test.false in
    let end = c.blocks-block-end.ensures in
    c.loop-block.invariant.1 b (omega (arith, below, test, end)) u h
