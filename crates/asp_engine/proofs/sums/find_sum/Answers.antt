use Rattle.std.proofs.Common.{◌≡◌, ◌+◌, Some, inl, inr, subst, arith}
use Rattle.std.proofs.lemmas.Bool.{cases_eq}
use Rattle.theory_form.specs.Theories.{row_of}
use Rattle.search_law.proofs.SumLemmas.{row_variable}
use Rattle.asp_engine.proofs.LateLemmas.{if_none}
use Rattle.asp_engine.proofs.sums.find_sum.Goals as goal

pub loop-number-preserved : goal.loop-number-preserved
loop-number-preserved c = λ v row below at. elim (cases_eq v (c.loop-number.number + 1)) [
  | inl same ↦
      if_none _ c.in_ok-found.found c.in-None.is c.in_ok-found.ensures.none row (subst (λ n. row_of c.args.t.now n ≡ Some row) same at)
  | inr other ↦ c.loop-number.invariant v row (omega (arith, below, other)) at
]

pub returns-clause-none : goal.returns-clause-none
returns-clause-none c = λ v row at.
    let f = row_variable c.args.t.now v row at in
    let le = f.1.1 in
    let test = c.loop-number-test.false in
    let count = c.var_count-number-end.ensures.count in
    c.loop-number.invariant v row (omega (arith, le, test, count)) at
