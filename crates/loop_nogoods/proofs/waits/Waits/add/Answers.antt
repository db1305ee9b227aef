use Rattle.std.proofs.Common.{◌≡◌, ◌<◌, ◌++◌, ◌∷◌, [], List, length, sym, ap, ◌∙◌, subst, arith, slice_set}
use Rattle.std.specs.Global.{Vec}
use Rattle.loop_nogoods.specs.declared.waits.Wait.{Wait}
use Rattle.loop_nogoods.specs.Founding.{waits}
use Rattle.loop_nogoods.specs.Stamps.{lists_in}
use Rattle.loop_nogoods.proofs.StampLemmas.{Appends-from, begun_set, list_begun, lists_within}
use Rattle.loop_nogoods.proofs.waits.Waits.add.Goals as goal

pub begin-requires-clause-list : goal.begin-requires-clause-list
begin-requires-clause-list c =
    (lists_within c.self.inside.begun c.self.inside.lists.items c.args.v.0 (subst (λ (xs : List (List Wait)). c.args.v.0 < length xs) (sym c.self.view_is) c.requires)).1

pub begin-requires-clause-mark : goal.begin-requires-clause-mark
begin-requires-clause-mark c =
    (lists_within c.self.inside.begun c.self.inside.lists.items c.args.v.0 (subst (λ (xs : List (List Wait)). c.args.v.0 < length xs) (sym c.self.view_is) c.requires)).0

pub index_mut-requires : goal.index_mut-requires
index_mut-requires c =
    let lt = (lists_within c.self.inside.begun c.self.inside.lists.items c.args.v.0 (subst (λ (xs : List (List Wait)). c.args.v.0 < length xs) (sym c.self.view_is) c.requires)).1 in
    omega (arith, lt, c.begin.ensures.size, c.begin.new.lists.ok.0)

pub returns : goal.returns
returns c =
    let old : List (List Wait) = c.args.self.now in
    let v = c.args.v.0 in
    let lists : List (Vec Wait) = c.begin.new.lists.items in
    let lt = (lists_within c.self.inside.begun c.self.inside.lists.items v (subst (λ (xs : List (List Wait)). v < length xs) (sym c.self.view_is) c.requires)).1 in
    let inside : v < length lists = omega (arith, lt, c.begin.ensures.size) in
    let view : lists_in c.begin.new.begun lists ≡ old = c.begin.ensures.same ∙ c.self.view_is in
    let before : c.index_mut.result.now.items ≡ waits old v =
    ap (λ (l : Vec Wait). l.items) c.index_mut.ensures.value ∙ (sym (list_begun c.begin.new.begun lists v c.index_mut.result.now inside c.begin.ensures.begun) ∙ ap (λ xs. waits xs v) view)
    in
    let here : c.push.new.self.items ≡ waits old v ++ c.args.entry ∷ [] = c.in_ok-push.ensures.items ∙ ap (λ xs. xs ++ c.args.entry ∷ []) before in
    Appends-from old _ v c.args.entry c.requires
    (begun_set c.begin.new.begun lists v c.push.new.self c.begin.ensures.begun ∙ (ap (λ xs. slice_set xs v c.push.new.self.items) view ∙ ap (slice_set old v) here))
