use Rattle.std.proofs.Common.{◌≡◌, ◌+◌, List, sym, subst, arith}
use Rattle.theory_form.specs.declared.literals.Lit.{Lit}
use Rattle.proof_log.proofs.TableLemmas.{IsMadeFalse, length-all_false, made_false_same, made_false_within, made_false_start, made_false_step}
use Rattle.proof_log.proofs.hints.make_false.Goals as goal

pub loop-l-init : goal.loop-l-init
loop-l-init c =
    let items : c.into_iter-l-iterator.result.iter.rest.now ≡ c.args.lits.now = cc in (
      tt,
      tt,
      subst (λ (left : List Lit). IsMadeFalse (c.args.vars + 1) c.args.lits.now left c.args.values.now c.args.values.now) (sym items)
          (made_false_start (c.args.vars + 1) c.args.lits.now c.args.values.now c.requires.free),
    )

pub make_true-requires : goal.make_true-requires
make_true-requires c = omega (arith, c.loop-l.invariant.2.size)

pub loop-l-preserved : goal.loop-l-preserved
loop-l-preserved c =
    let places = c.args.vars + 1 in
    let h = c.loop-l.invariant.2 in
    let m = rw c.opposite.ensures at c.make_true.ensures in (
      tt,
      tt,
      made_false_step places c.args.lits.now _ c.next.new.self.iter.rest.now c.in-Some.l.now c.args.values.now c.loop-l.values c.make_true.new.values c.in-Some.ensures.steps h
          m.size (m.same _ (length-all_false places h.done) h.same) m.within,
    )

pub returns-clause-size : goal.returns-clause-size
returns-clause-size c = c.loop-l.invariant.2.size

pub returns-clause-same : goal.returns-clause-same
returns-clause-same c = made_false_same (c.args.vars + 1) c.args.lits.now _ c.args.values.now c.loop-l.values c.in-None.ensures.steps.0 c.loop-l.invariant.2

pub returns-clause-within : goal.returns-clause-within
returns-clause-within c = made_false_within (c.args.vars + 1) c.args.lits.now _ c.args.values.now c.loop-l.values c.in-None.ensures.steps.0 c.loop-l.invariant.2
