use Rattle.std.proofs.Common.{sym}
use Rattle.proof_log.specs.Added.{slots_of}
use Rattle.proof_log.specs.States.{clause_among}
use Rattle.proof_log.proofs.HintLemmas.{is_neither, neither_true, neither_wide}
use Rattle.proof_log.proofs.hints.hint_at.Goals as goal

pub returns-in-True : goal.returns-in-True
returns-in-True c =
    let t = rw c.lits-lits.ensures.literals at c.in-True.ensures in
    is_neither (clause_among c.args.theory.now (slots_of c.args.added.now)) c.args.values.now c.args.id.0 c.in-Some.clause.now (sym c.in-Some.ensures)
    (neither_true c.args.values.now c.in-Some.clause.now c.in-True.field-0 t)

pub returns-in-Wide : goal.returns-in-Wide
returns-in-Wide c =
    let w = rw c.lits-lits.ensures.literals at c.in-Wide.ensures in
    is_neither (clause_among c.args.theory.now (slots_of c.args.added.now)) c.args.values.now c.args.id.0 c.in-Some.clause.now (sym c.in-Some.ensures)
    (neither_wide c.args.values.now c.in-Some.clause.now c.in-Wide.field-0 c.in-Wide.field-1 w)
