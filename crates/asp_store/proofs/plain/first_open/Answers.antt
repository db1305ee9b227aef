use Rattle.std.proofs.Common.{inl, inr, ◌∙◌}
use Rattle.std.proofs.lemmas.List.{get_or_default}
use Rattle.asp_store.proofs.RoundLemmas.{Rest-all, Rest-here, Rest-next}
use Rattle.asp_store.proofs.plain.first_open.Goals as goal

pub loop-key-init : goal.loop-key-init
loop-key-init c = (tt, tt, Rest-all c.args.clauses.now c.args.assignment.now _ (c.into_iter-key-iterator.ensures.into_iter_gives ∙ c.iter-key-items.ensures.rest))

pub returns-in-Empty : goal.returns-in-Empty
returns-in-Empty c = record {
  clause = c.in-Some.clause.now;
  stored = Rest-here c.args.clauses.now.slots c.args.assignment.now _ _ _ _ c.loop-key.invariant.2 c.in-Some.ensures.steps;
  all_false = rw c.as_slice-lits.ensures at c.in-Empty.ensures;
}

pub returns-in-Single : goal.returns-in-Single
returns-in-Single c =
    let unit = rw c.as_slice-lits.ensures at c.in-Single.ensures in
    record {
      clause = c.in-Some.clause.now;
      stored = Rest-here c.args.clauses.now.slots c.args.assignment.now _ _ _ _ c.loop-key.invariant.2 c.in-Some.ensures.steps;
      place = c.in-Single.i;
      unit = unit;
      lit_is = λ d. rw c.as_slice-lits.ensures (get_or_default c.in-Some.clause.now c.in-Single.i d _ unit.free.within);
    }

pub loop-key-preserved-in-True : goal.loop-key-preserved-in-True
loop-key-preserved-in-True c = (
  tt,
  tt,
  Rest-next c.args.clauses.now.slots c.args.assignment.now _ _ _ _ c.loop-key.invariant.2 c.in-Some.ensures.steps
      (inl (c.in-True.field-0, rw c.as_slice-lits.ensures at c.in-True.ensures)),
)

pub loop-key-preserved : goal.loop-key-preserved
loop-key-preserved c = (
  tt,
  tt,
  Rest-next c.args.clauses.now.slots c.args.assignment.now _ _ _ _ c.loop-key.invariant.2 c.in-Some.ensures.steps
      (inr (c.in-Wide.field-0, c.in-Wide.field-1, rw c.as_slice-lits.ensures at c.in-Wide.ensures)),
)
