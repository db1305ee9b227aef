use Rattle.loop_nogoods.proofs.SupportLemmas.{atoms_are_variables}
use Rattle.loop_nogoods.proofs.validity.loop_valid.Goals as goal

pub has_literals-requires-clause-variables : goal.has_literals-requires-clause-variables
has_literals-requires-clause-variables c =
    let program = c.is_of_program.ensures.0 c.if-not-is_of_program.false in
    atoms_are_variables c.args.t.now program.1.0 c.args.u.now program.1.1

pub returns-clause-valid : goal.returns-clause-valid
returns-clause-valid c =
    let program = c.is_of_program.ensures.0 c.if-not-is_of_program.false in (
      (λ h. record {
        member = program.0;
        program = program.1;
        clause = record { ascending = c.lits.ensures.ascending; literals = c.has_literals.ensures.value.0 h };
      }),
      λ n. c.has_literals.ensures.value.1 n.clause.literals,
    )

pub returns-clause-model : goal.returns-clause-model
returns-clause-model c = λ h f model.
    let program = c.is_of_program.ensures.0 c.if-not-is_of_program.false in
    c.loop_clause_is_true.ensures c.args.t.now f model program.1.0 _ program.1.1 c.args.a.0 program.0 c.args.c.now
    (record { ascending = c.lits.ensures.ascending; literals = c.has_literals.ensures.value.0 h })
