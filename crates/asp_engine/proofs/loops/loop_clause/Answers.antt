use Rattle.loop_nogoods.specs.Sets.{has}
use Rattle.loop_nogoods.proofs.SupportLemmas.{atoms_are_variables}
use Rattle.proof_log.proofs.ProgramLemmas.{loop_clause_if_ok}
use Rattle.asp_engine.proofs.loops.loop_clause.Goals as goal

pub external-requires-clause-variables : goal.external-requires-clause-variables
external-requires-clause-variables c =
    let p = c.requires.program in
    atoms_are_variables c.args.t.now p.0 c.args.set.now p.1

pub returns-clause-clause : goal.returns-clause-clause
returns-clause-clause c =
    loop_clause_if_ok c.args.t.now (has c.args.set.now) c.args.atom.0 c.in_ok-lits.lits.items c.push.new.self.items c.sorted.result
    c.in_ok-lits.ensures.supports c.in_ok-push.ensures.items c.sorted.ensures.ascending c.sorted.ensures.same
