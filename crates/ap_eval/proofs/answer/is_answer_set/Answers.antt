use Rattle.std.proofs.Common.{◌≡◌, ◌+◌, ℕ, Bool, List, length, sym, ap, ◌∙◌, subst}
use Rattle.std.specs.Prelude.{All, IsTrue}
use Rattle.std.specs.Bool.{beq}
use Rattle.std.specs.Cmp.Lexicographic.{pointwise}
use Rattle.std.proofs.lemmas.Bool.{false≢true}
use Rattle.definite.specs.Rules.{marked, IsLeast, IsRuleOf}
use Rattle.ground_form.specs.Ranges.{IsNumberOf}
use Rattle.ground_form.specs.Sets.{has}
use Rattle.ground_form.specs.declared.atoms.AtomId.{AtomId}
use Rattle.ap_eval.proofs.AnswerLemmas.{answer_by_eq, answer_members, no_zero}
use Rattle.ap_eval.proofs.answer.is_answer_set.Goals as goal

pub returns-then-not-are_atoms_of : goal.returns-then-not-are_atoms_of
returns-then-not-are_atoms_of c = (
  λ h. absurd (false≢true h),
  λ answer.
      let all = answer_members c.args.g.now c.args.x.now (λ k d lt. (c.atoms-atoms.ensures.in_range.rules k d lt).head) answer in
      let here = subst (λ ids. All (λ (id : AtomId). IsNumberOf (length c.atoms-atoms.result.now) id.0) ids) (sym c.ids.ensures.value)
      (subst (λ atoms. All (λ (id : AtomId). IsNumberOf (length atoms) id.0) c.args.x.now) (sym c.atoms-atoms.ensures.value) all) in
      absurd (false≢true (sym c.if-not-are_atoms_of.true ∙ c.are_atoms_of.ensures.1 here)),
)

pub least-requires : goal.least-requires
least-requires c =
    subst (λ atoms. All (IsRuleOf (length atoms + 1)) c.deref.result.now) (sym c.atoms-atoms.ensures.value)
    (subst (All (IsRuleOf (length c.args.g.now.atoms + 1))) (sym c.deref.ensures.value) c.in_ok-rules.ensures.range)

pub returns : goal.returns
returns c =
    let g = c.args.g.now in
    let marks = c.in_ok-marks.marks in
    let least = c.in_ok-least.least in
    let n = length c.atoms-atoms.result.now in
    let all = subst (λ ids. All (λ (id : AtomId). IsNumberOf n id.0) ids) c.ids.ensures.value (c.are_atoms_of.ensures.0 c.if-not-are_atoms_of.false) in
    answer_by_eq g c.args.x.now marks least.marks c.in_ok-rules.rules.items c.eq.result
    c.in_ok-rules.ensures
    (λ a. c.in_ok-marks.ensures.same a ∙ ap (λ ids. has ids a) c.ids-2.ensures.value)
    (no_zero n c.args.x.now all)
    (c.in_ok-least.ensures.size ∙ sym c.in_ok-marks.ensures.size)
    (subst (λ rules. IsLeast rules (marked least.marks)) c.deref.ensures.value c.in_ok-least.ensures.least)
    (c.eq.ensures ∙ (ap (λ ms. pointwise beq ms c.as_slice-2.result.now) c.as_slice.ensures ∙ ap (pointwise beq least.marks) c.as_slice-2.ensures))
