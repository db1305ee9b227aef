use Rattle.std.proofs.Common.{◌<◌, ℕ, List, length, get_or, ap, ◌∙◌, subst, arith}
use Rattle.std.specs.Prelude.{Contains}
use Rattle.std.proofs.lemmas.List.Elements.{Contains-get_or}
use Rattle.definite.proofs.MarkLemmas.{marked_within}
use Rattle.definite.proofs.Drains.{taken_search, taken_settled, taken_drained, drained_derived}
use Rattle.definite.proofs.search.drain.Goals as goal

pub take_waiting-list-requires : goal.take_waiting-list-requires
take_waiting-list-requires c =
    let s = c.loop-next.invariant.search in
    let order : List ℕ = c.as_slice.result.now in
    let a : ℕ = get_or order c.loop-next.next 0 in
    let lt : c.loop-next.next < length order = let e = ap length c.as_slice.ensures in omega (arith, e) in
    let in_order : Contains c.loop-next.found.order a = subst (λ xs. Contains xs a) c.as_slice.ensures (Contains-get_or order c.loop-next.next 0 lt) in
    let within = marked_within c.loop-next.found.marks a (s.in_marks a in_order) in
    omega (arith, within, s.waiting_size)

pub settle_all-requires-clause-list : goal.settle_all-requires-clause-list
settle_all-requires-clause-list c = λ k d lt.
    let list : List ℕ = c.as_slice-in-loop-next.result.now in
    let is = c.as_slice-in-loop-next.ensures ∙ c.take_waiting-list.ensures.taken in
    c.loop-next.invariant.search.numbers (get_or c.as_slice.result.now c.loop-next.next 0) (get_or list k d) (subst (λ xs. Contains xs (get_or list k d)) is (Contains-get_or list k d lt))

pub settle_all-requires-clause-search : goal.settle_all-requires-clause-search
settle_all-requires-clause-search c = taken_search c.args.rules.now c.loop-next.waits c.take_waiting-list.new.waits (get_or c.as_slice.result.now c.loop-next.next 0) c.take_waiting-list.ensures.waits c.loop-next.found c.loop-next.invariant.search

pub loop-next-preserved : goal.loop-next-preserved
loop-next-preserved c =
    let rules = c.args.rules.now in
    let a : ℕ = get_or c.as_slice.result.now c.loop-next.next 0 in
    let i = c.loop-next.invariant in
    let taken = c.take_waiting-list.ensures.waits in
    let w0 = c.loop-next.waits in
    let w1 = c.take_waiting-list.new.waits in
    let w2 = c.settle_all.new.waits in
    let d0 = c.loop-next.found in
    let d2 = c.settle_all.new.found in
    let step = c.in_ok-settle_all.ensures.0 in
    let list : List ℕ = c.as_slice-in-loop-next.result.now in
    let lt : c.loop-next.next < length c.loop-next.found.order = omega arith in
    record {
      search = step.search (taken_search rules w0 w1 a taken d0 i.search);
      settled = taken_settled rules w0 w1 a taken w2 d0 d2 step list (c.as_slice-in-loop-next.ensures ∙ c.take_waiting-list.ensures.taken) i.settled c.in_ok-settle_all.ensures.1;
      drained = taken_drained rules w0 w1 a taken w2 d0 d2 step c.loop-next.next lt (ap (λ xs. get_or xs c.loop-next.next 0) c.as_slice.ensures) i.search i.drained;
      next = omega (arith, step.longer, lt);
      size = step.size ∙ i.size;
    }

pub returns : goal.returns
returns c =
    let i = c.loop-next.invariant in
    drained_derived c.args.rules.now c.loop-next.waits c.loop-next.found c.loop-next.next (length c.args.found.now.marks) (omega arith) i.search i.settled i.drained i.size
