use Rattle.std.proofs.Common.{◌≡◌, ℕ, Bool, List, sym, ap, ◌∙◌, subst}
use mathlib.Core.Path.{fun_ext}
use Rattle.std.proofs.lemmas.Result.{IfOk-weaker}
use Rattle.definite.specs.Rules.{marked}
use Rattle.ground_form.specs.Acyclic.{IsAcyclic}
use Rattle.ground_form.specs.Sets.{has}
use Rattle.ground_form.specs.declared.atoms.AtomId.{AtomId}
use Rattle.ap_eval.proofs.DecisionLemmas.{decided_supported}
use Rattle.ap_eval.specs.Looks.{IsOrder}
use Rattle.ap_eval.specs.Supports.{IsSupported, AreDecided}
use Rattle.ap_eval.proofs.acyclic.model.Goals as goal

pub returns : goal.returns
returns c =
    let g = c.args.g.now in
    let ids : List AtomId = c.args.facts.now in
    let order = c.in_ok-found.found.order in
    let marks = c.decide_all.new.marks in
    let facts : marked c.in_ok-marks.marks ≡ has ids = fun_ext (λ a. c.in_ok-marks.ensures.same a ∙ ap (λ xs. has xs a) c.ids.ensures.value) in
    let decided = subst (λ (s : ℕ → Bool). AreDecided g s order marks) facts (subst (λ (xs : List ℕ). AreDecided g (marked c.in_ok-marks.marks) xs marks) c.as_slice.ensures c.decide_all.ensures) in
    IfOk-weaker c.members.result
    (λ (x : List AtomId). (a : ℕ) → has x a ≡ marked c.as_slice-2.result.now a)
    (λ (x : List AtomId). IsAcyclic g → IsSupported g (has ids) (has x))
    (λ x same acyclic.
    subst (IsSupported g (has ids)) (sym (fun_ext (λ a. same a ∙ ap (λ ms. marked ms a) c.as_slice-2.ensures)))
    (decided_supported g ids order c.in_ok-bodies.bodies.items marks c.requires c.in_ok-found.ensures.order c.in_ok-bodies.ensures acyclic decided))
    c.members.ensures
