use Rattle.std.proofs.Common.{◌≡◌, List, Option, Some, None, sym, ◌∙◌, subst}
use Rattle.std.specs.List.{All}
use Rattle.theory_form.specs.declared.literals.Lit.{Lit}
use Rattle.theory_form.specs.declared.rows.SumRow.{SumRow}
use Rattle.agg_nogoods.specs.Implied.{IsAnswer, IsOverRow}
use Rattle.proof_log.specs.declared.steps.Step.TheVariants.{Sum}
use Rattle.proof_log.proofs.ProgramLemmas.{row_is}
use Rattle.asp_engine.proofs.LateLemmas.{if_some, late_same, sum_late}
use Rattle.asp_engine.proofs.sums.find_sum_of.Goals as goal

pub propagate-requires : goal.propagate-requires
propagate-requires c = row_is c.args.t.now c.args.v.0 c.in-Some.row.now c.var_count.ensures.theory (sym c.in-Some.ensures)

pub returns-in-None-clause-none : goal.returns-in-None-clause-none
returns-in-None-clause-none c = λ row at.
    let q : Some c.in-Some.row.now ≡ Some row = c.in-Some.ensures ∙ at in
    let same : c.in-Some.row.now ≡ row = cc in
    subst (λ (r : SumRow). IsAnswer r c.args.a.now None) same
    (subst (λ (o : Option (List Lit)). IsAnswer c.in-Some.row.now c.args.a.now o) c.in-None.is c.in_ok-found.ensures.answer)

pub returns-in_ok-late-in-Some-found-clause-some :
    goal.returns-in_ok-late-in-Some-found-clause-some
returns-in_ok-late-in-Some-found-clause-some c =
    let t = c.args.t.now in
    let a = c.args.a.now in
    let row = c.in-Some.row.now in
    let clause = c.in-Some-found.clause in
    let answer = subst (λ (o : Option (List Lit)). IsAnswer c.in-Some.row.now c.args.a.now o) c.in-Some-found.is c.in_ok-found.ensures.answer in
    let over = if_some (All (IsOverRow row)) c.in_ok-found.found clause c.in-Some-found.is c.in_ok-found.ensures.over in
    let late = c.in_ok-late-in-Some-found in
    late_same t a late.late clause (Sum c.args.v clause) late.ensures.0 late.ensures.1
    (sum_late t a c.args.v row clause c.requires.whole (sym c.in-Some.ensures) answer.0 answer.1 over c.lits.ensures.ascending)
