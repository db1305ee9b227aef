use Rattle.std.proofs.Common.{◌≡◌, false, true, sym, ap, subst, ◌∙◌, take_all, All}
use Rattle.std.proofs.lemmas.List.Elements.{All-more, All-contains}
use Rattle.theory_form.specs.declared.literals.Lit.{Lit}
use Rattle.theory_form.specs.Literals.{opposite}
use Rattle.agg_nogoods.specs.Known.{has}
use Rattle.agg_nogoods.proofs.ClauseLemmas.{has_it}
use Rattle.agg_nogoods.proofs.tests.is_consistent.Goals as goal

pub loop-literal-preserved : goal.loop-literal-preserved
loop-literal-preserved c =
    let d : Lit = record { var = record { 0 = 0 }; yes = false } in
    All-more (λ m. has c.args.c.now (opposite m) ≡ false) c.lits-literal-items.result.now c.loop-literal.literal-index d c.loop-literal-test.true c.loop-literal.invariant
    (ap (has c.args.c.now) (sym c.opposite.ensures) ∙ sym c.has.ensures ∙ c.if-has.false)

pub returns : goal.returns
returns c = λ _ l i o.
    let all = subst (λ xs. All (λ m. has c.args.c.now (opposite m) ≡ false) xs) (take_all c.loop-literal.literal-index c.lits-literal-items.result.now c.loop-literal-test.false ∙ c.lits-literal-items.ensures.literals) c.loop-literal.invariant in
    let none = All-contains (λ m. has c.args.c.now (opposite m) ≡ false) c.args.c.now l all i in
    let some = has_it c.args.c.now (opposite l) o in
    let both : true ≡ false = sym some ∙ none in
    absurd (cc)
