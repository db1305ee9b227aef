use Rattle.std.proofs.Common.{◌↔◌, sym, ap, ◌∙◌}
use Rattle.std.specs.List.{list_all}
use Rattle.ap_eval.proofs.OrderLemmas.{acyclic_by_marks}
use Rattle.ap_eval.proofs.acyclic.is_acyclic.Goals as goal

pub returns : goal.returns
returns c =
    let found = c.in_ok-found.found in
    let same = c.all_marked.ensures ∙ ap (list_all (λ mark. mark)) c.as_slice.ensures in
    let by_marks = acyclic_by_marks c.args.g.now found.marks found.order c.atoms.ensures.in_range c.in_ok-found.ensures.order c.in_ok-found.ensures.marks c.in_ok-found.ensures.size in (
      λ h. by_marks.0 (sym same ∙ h),
      λ h. same ∙ by_marks.1 h,
    )
