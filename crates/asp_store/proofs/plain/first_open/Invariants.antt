use Rattle.asp_store.proofs.RoundLemmas.{Rest}
use Rattle.asp_store.proofs.plain.first_open.Given as goal

-- each clause is settled or among the entries that are left, and these are the slab's
abbrev pub invariant-loop-key : goal.invariant-loop-key
invariant-loop-key l =
    (goal.iterator-loop-key).can_next l.key-iterator ×
    (goal.iterator-loop-key).is_finite l.key-iterator ×
    Rest l.clauses.slots l.assignment l.key-iterator
