use Rattle.std.proofs.Common.{map}
use Rattle.std.specs.List.{enumerate_from}
use Rattle.theory_build.specs.Bodies as spec
use Rattle.theory_build.specs.Drafts.{IsLonger, next_of}
use Rattle.theory_build.proofs.bodies.add_bodies.Given as goal

abbrev pub invariant-loop-body : goal.invariant-loop-body
invariant-loop-body l = IsLonger l.fn.draft l.draft (map spec.body_entry_at (enumerate_from (next_of l.fn.draft) l.yielded))
