use Rattle.std.proofs.Common.{◌≡◌, length, reverse, vec_len, vec_capacity}
use Rattle.asp_trail.specs.Trail.{back, HoldsTrail}
use Rattle.asp_trail.proofs.Trail.back.Given as goal

abbrev pub invariant-loop-self : goal.invariant-loop-self
invariant-loop-self l = record {
  holds : HoldsTrail l.self-inside.values l.self-inside.entries.items l.self-inside.lits.items l.self-inside.reasons.items l.self-inside.level (vec_capacity l.self-inside.entries) (vec_capacity l.self-inside.lits);
  same : back l.level (reverse l.self-inside.entries.items) ≡ back l.level (reverse l.initial.self-inside.entries.items);
  places : length l.self-inside.values ≡ length l.initial.self-inside.values;
}

abbrev pub decreases-loop-self : goal.decreases-loop-self
decreases-loop-self l = vec_len l.self-inside.entries
