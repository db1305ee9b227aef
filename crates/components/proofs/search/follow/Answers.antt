use Rattle.std.proofs.Common.{◌∙◌, subst, sym, ap, get_or}
use Rattle.std.proofs.lemmas.Result.{on_ok_weaker}
use Rattle.components.specs.declared.search.Search.{Search}
use Rattle.components.specs.declared.search.Status.TheVariants.{New}
use Rattle.components.specs.Searches.{IsStep, passed}
use Rattle.components.proofs.Follows.{follow_new, follow_closed, follow_within, follow_back}
use Rattle.components.proofs.search.follow.Goals as goal
use Rattle.components.proofs.search.follow.Goals.{in_default-via-in-Open+else-place-top, in_default-via-in_default}

pub returns-in-New : goal.returns-in-New
returns-in-New c =
    let g = c.args.successors.now in
    let s = c.args.search.now in
    let e = sym (ap (λ xs. get_or xs c.args.successor New) c.as_slice.ensures) ∙ c.in-New.is in
    on_ok_weaker c.push_node.result
    (λ is. subst (IsStep g s) (sym is) (follow_new g s c.args.top c.args.node c.args.successor c.requires.search c.requires.top c.requires.node c.requires.graph e))
    c.push_node.ensures

pub returns-in-Open : goal.returns-in-Open
returns-in-Open c =
    let g = c.args.successors.now in
    let s = c.args.search.now in
    let e = sym (ap (λ xs. get_or xs c.args.successor New) c.as_slice.ensures) ∙ c.in-Open.is in
    subst (IsStep g s) (sym c.join.ensures) (follow_back g s c.args.top c.args.node c.args.successor c.requires.search c.requires.top c.requires.node c.in-Open.place e c.if-place-top.true)

pub returns-in_default : goal.returns-in_default
returns-in_default c =
    let g = c.args.successors.now in
    let s = c.args.search.now in
    let read = sym (ap (λ xs. get_or xs c.args.successor New) c.as_slice.ensures) in
    subst (IsStep g s) (sym c.pass.ensures)
    (elim c.in_default.branch [
      | in_default-via-in-Open+else-place-top w ↦ subst (λ (t : Search). IsStep g s (passed t c.args.node)) (sym w.search-is) (follow_within g s c.args.top c.args.node c.args.successor c.requires.search c.requires.top c.requires.node w.in-Open.place (read ∙ w.in-Open.is) w.if-place-top.false)
      | in_default-via-in_default w ↦ subst (λ (t : Search). IsStep g s (passed t c.args.node)) (sym w.search-is) (follow_closed g s c.args.top c.args.node c.args.successor c.requires.search c.requires.top c.requires.node w.in_default.field-0 (read ∙ w.in_default.is))
    ])
