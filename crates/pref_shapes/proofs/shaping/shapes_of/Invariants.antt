use Rattle.std.proofs.Common.{ℕ, List, All, drop, take}
use Rattle.pref_shapes.specs.Shapes.{HasShape, IsFirstIn}
use Rattle.pref_shapes.proofs.shaping.shapes_of.Given as goal

-- what is bad in the rest is bad in all
abbrev pub invariant-loop-statement : goal.invariant-loop-statement
invariant-loop-statement l = record {
  good : All HasShape (take l.statement-index l.statements);
  more : (name : List ℕ) (k : ℕ) → IsFirstIn (drop l.statement-index l.statements) name k → IsFirstIn l.statements name k;
}
