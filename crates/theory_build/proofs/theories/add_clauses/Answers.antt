use Rattle.std.proofs.Common.{◌∙◌, map, Some, List}
use Rattle.theory_form.specs.declared.literals.Lit.{Lit}
use Rattle.theory_build.proofs.GrowthLemmas.{grown_clauses}
use Rattle.theory_build.proofs.theories.add_clauses.Goals as goal

pub returns-in_err-add_clause-clause-grown : goal.returns-in_err-add_clause-clause-grown
returns-in_err-add_clause-clause-grown c =
    grown_clauses c.args.t.now c.add_clause.new.self (map (λ (c : List Lit). Some c) c.loop-clause.yielded) (c.in_err-add_clause.ensures.err ∙ c.loop-clause.invariant)

pub returns-clause-grown : goal.returns-clause-grown
returns-clause-grown c =
    grown_clauses c.args.t.now c.loop-clause.t (map (λ (c : List Lit). Some c) c.loop-clause.yielded) c.loop-clause.invariant
