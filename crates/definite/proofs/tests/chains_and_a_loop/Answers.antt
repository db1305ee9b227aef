use Rattle.std.proofs.Common.{rules}
use Rattle.definite.proofs.tests.chains_and_a_loop.Goals as goal

pub least-requires : goal.least-requires
least-requires g c = c.are_rules_of-2.ensures.0 (search rules)
