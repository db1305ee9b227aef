use Rattle.std.proofs.Common.{sym, subst, List, ℤ}
use Rattle.theory_form.specs.declared.literals.Var.{Var}
use Rattle.theory_build.specs.Drafts.{AddsTerms, next_of}
use Rattle.theory_build.specs.Groups.{row_piece}
use Rattle.theory_build.specs.Pieces.{in_turn}
use Rattle.theory_build.proofs.GroupLemmas.{group_added}
use Rattle.theory_build.proofs.groups.add_group.Goals as goal

pub returns : goal.returns
returns c =
    let rows = subst
    (λ (terms : List (ℤ × Var)). AddsTerms c.args.draft.now c.add_rows.new.draft (in_turn (row_piece c.args.p.now) (next_of c.args.draft.now) c.as_slice.result.now) terms)
    (sym c.as_slice-sum.ensures.value) c.in_ok-terms.ensures
    in
    group_added
    c.args.p.now c.args.needed c.args.group.now c.as_slice.result.now c.args.draft.now c.add_rows.new.draft c.add_guard.new.draft c.add_guard-2.new.draft
    c.add_both.new.draft c.as_slice-sum.result.now c.in_ok-left.left c.in_ok-right.right c.in_ok-both.both rows c.as_slice.ensures c.in_ok-left.ensures
    c.in_ok-right.ensures c.in_ok-both.ensures
