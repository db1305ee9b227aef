use Rattle.std.proofs.Common.{◌≡◌, ◌<◌, [], List, length, get_or, sym, ap, ◌∙◌, arith}
use Rattle.std.specs.Global.{Vec}
use Rattle.std.proofs.lemmas.Bool.{false_from_ne_true, false≢true}
use Rattle.loop_nogoods.specs.declared.waits.Wait.{Wait}
use Rattle.loop_nogoods.specs.Founding.{waits}
use Rattle.loop_nogoods.specs.Marks.{marked}
use Rattle.loop_nogoods.specs.Stamps.{lists_in}
use Rattle.loop_nogoods.proofs.StampLemmas.{list_begun, list_beyond, list_not_begun}
use Rattle.loop_nogoods.proofs.waits.Waits.list.Goals as goal
use Rattle.loop_nogoods.proofs.waits.Waits.list.Goals.{in_default-via-in-Some+else-is_marked, in_default-via-in_default}

pub returns-in-Some : goal.returns-in-Some
returns-in-Some c =
    let v = c.args.v.0 in
    let lists : List (Vec Wait) = c.self.inside.lists.items in
    let lt : v < length lists = grind arith in
    let at : c.in-Some.list.now ≡ get_or lists v c.in-Some.list.now = grind arith in
    c.as_slice.ensures.value ∙ (ap (λ (l : Vec Wait). l.items) at ∙ (sym (list_begun c.self.inside.begun lists v c.in-Some.list.now lt (c.is_marked.ensures.0 c.if-is_marked.true)) ∙ ap (λ xs. waits xs v) c.self.view_is))

pub returns-in_default : goal.returns-in_default
returns-in_default c =
    let v = c.args.v.0 in
    let marks = c.self.inside.begun in
    let lists : List (Vec Wait) = c.self.inside.lists.items in
    let nothing : waits (lists_in marks lists) v ≡ [] = elim c.in_default.branch [
      | in_default-via-in-Some+else-is_marked w ↦
          list_not_begun marks lists v (false_from_ne_true (marked marks v) (λ on. false≢true (sym w.if-is_marked.false ∙ w.is_marked.ensures.1 on)))
      | in_default-via-in_default w ↦ list_beyond marks lists v (grind arith)
    ] in
    sym (ap (λ (xs : List (List Wait)). waits xs v) (sym c.self.view_is) ∙ nothing)
