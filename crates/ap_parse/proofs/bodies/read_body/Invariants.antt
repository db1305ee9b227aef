use Rattle.std.proofs.Common.{length, ◌≤◌}
use Rattle.ap_parse.proofs.BodyLemmas.{Begun}
use Rattle.ap_parse.proofs.bodies.read_body.Given as goal

abbrev pub invariant-separators : goal.invariant-separators
invariant-separators l = record { shorter : length l.tokens ≤ length l.fn.tokens; so_far : Begun l.fn.tokens l.tokens l.items.items l.last }

abbrev pub decreases-separators : goal.decreases-separators
decreases-separators l = length l.tokens
