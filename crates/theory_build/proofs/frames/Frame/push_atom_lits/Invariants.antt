use Rattle.std.proofs.Common.{◌≡◌, ◌++◌, map, take}
use Rattle.theory_build.specs.Frames as spec
use Rattle.theory_build.proofs.frames.Frame.push_atom_lits.Given as goal

abbrev pub invariant-loop-literal : goal.invariant-loop-literal
invariant-loop-literal l = l.lits.items ≡ l.fn.lits.items ++ map (spec.atom_lit l.self) (take l.literal-index l.literals)
