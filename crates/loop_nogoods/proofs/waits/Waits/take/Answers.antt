use Rattle.std.proofs.Common.{◌≡◌, ◌<◌, [], List, length, sym, ap, ◌∙◌, subst, arith, slice_set}
use Rattle.std.specs.Global.{Vec}
use Rattle.std.proofs.lemmas.Bool.{false_from_ne_true, false≢true}
use Rattle.definite.proofs.MarkLemmas.{marked_within}
use Rattle.loop_nogoods.specs.declared.waits.Wait.{Wait}
use Rattle.loop_nogoods.specs.Founding.{waits}
use Rattle.loop_nogoods.specs.Marks.{marked}
use Rattle.loop_nogoods.specs.Stamps.{lists_in}
use Rattle.loop_nogoods.proofs.StampLemmas.{Takes-from, Takes-nothing, begun_set, list_begun, list_beyond, list_not_begun, lists_inside}
use Rattle.loop_nogoods.proofs.waits.Waits.take.Goals as goal
use Rattle.loop_nogoods.proofs.waits.Waits.take.Goals.{else-is_marked-via-then-is_marked+else-v-len, else-is_marked-via-else-is_marked}

pub returns-then-v-len : goal.returns-then-v-len
returns-then-v-len c =
    let old : List (List Wait) = c.args.self.now in
    let v = c.args.v.0 in
    let marks = c.self.inside.begun in
    let lists : List (Vec Wait) = c.self.inside.lists.items in
    let on = c.is_marked.ensures.0 c.if-is_marked.true in
    let lt : v < length lists = omega (arith, c.if-v-len.true, c.len.ensures, c.self.inside.lists.ok.0) in
    let taken : c.replace.result.items ≡ waits old v =
    ap (λ (l : Vec Wait). l.items) (c.replace.ensures.value ∙ c.index_mut.ensures.value) ∙ (sym (list_begun marks lists v c.index_mut.result.now lt on) ∙ ap (λ xs. waits xs v) c.self.view_is)
    in
    let none : c.replace.new.dest.items ≡ [] = ap (λ (l : Vec Wait). l.items) c.replace.ensures.after ∙ c.new.ensures.items in
    Takes-from old _ v c.replace.result.items (subst (λ (xs : List (List Wait)). v < length xs) c.self.view_is (lists_inside marks lists v (marked_within marks v on) lt)) taken
    (begun_set marks lists v c.replace.new.dest on ∙ (ap (λ xs. slice_set xs v c.replace.new.dest.items) c.self.view_is ∙ ap (slice_set old v) none))

pub returns-else-is_marked : goal.returns-else-is_marked
returns-else-is_marked c =
    let v = c.args.v.0 in
    let marks = c.self.inside.begun in
    let lists : List (Vec Wait) = c.self.inside.lists.items in
    let nothing : waits (lists_in marks lists) v ≡ [] = elim c.else-is_marked.branch [
      | else-is_marked-via-then-is_marked+else-v-len w ↦ list_beyond marks lists v (omega (arith, w.if-v-len.false, w.len.ensures, c.self.inside.lists.ok.0))
      | else-is_marked-via-else-is_marked w ↦
          list_not_begun marks lists v (false_from_ne_true (marked marks v) (λ on. false≢true (sym w.if-is_marked.false ∙ c.is_marked.ensures.1 on)))
    ] in
    Takes-nothing c.args.self.now v c.new-else-is_marked.result.items c.new-else-is_marked.ensures.items (ap (λ (xs : List (List Wait)). waits xs v) (sym c.self.view_is) ∙ nothing)
