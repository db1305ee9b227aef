use Rattle.std.proofs.Common.{◌≡◌, ◌++◌, map, Some, List}
use Rattle.theory_form.specs.declared.literals.Lit.{Lit}
use Rattle.theory_build.proofs.theories.add_clauses.Given as goal

abbrev pub invariant-loop-clause : goal.invariant-loop-clause
invariant-loop-clause l = l.t ≡ record l.fn.t { clauses = l.fn.t.clauses ++ map (λ (c : List Lit). Some c) l.yielded }
