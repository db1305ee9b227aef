use Rattle.std.proofs.Common.{◌≡◌, length, take}
use Rattle.ap_term.proofs.terms.first_difference.Given as goal

-- the pairs so far are equal
abbrev pub invariant-loop-x : goal.invariant-loop-x
invariant-loop-x l = take (length l.yielded) l.xs ≡ take (length l.yielded) l.ys
