use Rattle.std.proofs.Common.{◌≡◌, ◌<◌, sym, ◌∙◌, arith, subst, length, true, false, get_or, Contains, below_more, Some}
use Rattle.std.proofs.lemmas.List.{get_or_default}
use Rattle.theory_form.specs.declared.literals.Lit.{Lit}
use Rattle.theory_form.specs.Literals.{opposite}
use Rattle.asp_engine.proofs.rounds.is_refuting.Goals as goal

abbrev any : Lit
any = record { var = record { 0 = 0 }; yes = false }

pub returns-then-not-is_assumed-clause-no_is : goal.returns-then-not-is_assumed-clause-no_is
returns-then-not-is_assumed-clause-no_is c = λ _ r.
    let q : Some c.in-Some.lits.now ≡ Some r.clause = c.in-Some.ensures.value ∙ r.stored in
    let same : c.in-Some.lits.now ≡ r.clause = cc in
    let t = c.loop-l-test.true in
    let inside : c.loop-l.l-index < length r.clause = subst (λ xs. c.loop-l.l-index < length xs) same t in
    let there : Contains c.args.assume.now (opposite (get_or c.in-Some.lits.now c.loop-l.l-index any)) = subst (λ xs. Contains c.args.assume.now (opposite (get_or xs c.loop-l.l-index any))) (sym same) (r.negated c.loop-l.l-index any inside) in
    let t = c.is_assumed.ensures.1 (subst (Contains c.args.assume.now) (sym c.opposite.ensures) there) in
    let f = c.if-not-is_assumed.true in
    absurd (let z : true ≡ false = sym t ∙ f in cc)

pub loop-l-preserved : goal.loop-l-preserved
loop-l-preserved c = λ k d below.
    below_more (λ k. (d : Lit) → Contains c.args.assume.now (opposite (get_or c.in-Some.lits.now k d))) c.loop-l.l-index (λ k b d. c.loop-l.invariant k d b)
    (λ d. subst (λ (x : Lit). Contains c.args.assume.now (opposite x)) (get_or_default c.in-Some.lits.now c.loop-l.l-index any d (let t = c.loop-l-test.true in omega arith)) (subst (Contains c.args.assume.now) c.opposite.ensures (c.is_assumed.ensures.0 c.if-not-is_assumed.false))) k below d
