-- The parts are those of all statements.
use Rattle.std.proofs.Common.{ap, reverse, subst, sym, ◌∙◌}
use Rattle.std.proofs.lemmas.List.{reverse-reverse}
use Rattle.program_parts.specs.Taken.{IsTaken}
use Rattle.program_parts.proofs.TakenLemmas.{parts_are}
use Rattle.program_parts.proofs.gather.take_apart.Goals as goal

pub returns : goal.returns
returns c =
    let t = c.in_ok-base.field-0 in
    let all = ap reverse c.in_ok-statements.ensures ∙ reverse-reverse c.args.program.statements in
    parts_are c.args.program.statements t c.from_vec.result c.from_vec.ensures (subst (λ ss. IsTaken ss t) all c.in_ok-base.ensures)
