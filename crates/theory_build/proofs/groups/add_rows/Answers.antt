use Rattle.std.proofs.Common.{◌≡◌, ◌∙◌, sym, ap, ◌++◌, append-nil}
use Rattle.theory_build.proofs.GroupLemmas.{shown, rows_more}
use Rattle.theory_build.proofs.groups.add_rows.Goals as goal
use Rattle.theory_build.proofs.groups.add_rows.Goals.{in-Some+in_ok-push, in_default}

pub loop-row-preserved : goal.loop-row-preserved
loop-row-preserved c =
    let grown : c.match-branch-2.terms.items ≡ c.loop-row.terms.items ++ shown c.in_ok-term.field-0 =
    elim c.match-branch-2.branch [
      | in-Some+in_ok-push w ↦ ap (λ v. v.items) w.terms-is ∙ w.in_ok-push.ensures.items ∙ ap (λ t. c.loop-row.terms.items ++ shown t) (sym w.in-Some.is)
      | in_default w ↦ ap (λ v. v.items) w.terms-is ∙ sym (append-nil c.loop-row.terms.items) ∙ ap (λ t. c.loop-row.terms.items ++ shown t) (sym w.in_default.is)
    ]
    in
    rows_more
    c.args.p.now c.args.draft.now c.loop-row.draft c.add_row.new.draft c.args.rows.now c.loop-row.row-index c.row-item.result c.loop-row.terms.items
    c.match-branch-2.terms.items c.in_ok-term.field-0 c.loop-row-test.true c.row-item.is c.loop-row.invariant c.in_ok-term.ensures grown
