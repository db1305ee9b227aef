use Rattle.std.proofs.Common.{◌↔◌, sym, ap, ◌∙◌, subst}
use Rattle.std.specs.Prelude.{IsTrue}
use Rattle.std.specs.List.{list_all}
use Rattle.std.proofs.lemmas.Bool.{false≢true}
use Rattle.std.proofs.lemmas.Result.{IfOk-weaker}
use Rattle.ap_eval.specs.AtomSets.{has}
use Rattle.ap_eval.specs.AnswerSets.{IsAnswerSet}
use Rattle.ap_eval.specs.Derivations.{is_satisfied, IsFounded}
use Rattle.ap_eval.proofs.Reading.{answer_satisfied, answer_founded, answer_from}
use Rattle.ap_eval.proofs.small.small_answer_set.Goals as goal

pub returns-then-is_model : goal.returns-then-is_model
returns-then-is_model c =
    let x = has c.args.x.now in
    let p = c.args.p.now in
    let statements = c.as_slice-statements.ensures in
    let satisfied : IsTrue (list_all (is_satisfied x) p.statements) = sym (c.is_model.ensures ∙ ap (list_all (is_satisfied x)) statements) ∙ c.if-is_model.true in
    IfOk-weaker c.is_founded.result (λ answer. IsTrue answer ↔ IsFounded c.as_slice-statements.result.now x) (λ answer. IsTrue answer ↔ IsAnswerSet p x)
    (λ answer founded. (
      λ h. answer_from p x satisfied (subst (λ s. IsFounded s x) statements (founded.0 h)),
      λ h. founded.1 (subst (λ s. IsFounded s x) (sym statements) (answer_founded p x h)),
    ))
    c.is_founded.ensures

pub returns-else-is_model : goal.returns-else-is_model
returns-else-is_model c = (
  λ h. absurd (false≢true h),
  λ h. sym c.if-is_model.false ∙ c.is_model.ensures ∙ ap (list_all (is_satisfied (has c.args.x.now))) c.as_slice-statements.ensures ∙ answer_satisfied c.args.p.now (has c.args.x.now) h,
)
