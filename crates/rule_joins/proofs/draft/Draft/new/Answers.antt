use Rattle.std.proofs.Common.{[], sym, subst}
use Rattle.rule_joins.specs.Drafts.{IsDraft}
use Rattle.rule_joins.proofs.DraftLemmas.{empty_draft}
use Rattle.rule_joins.proofs.draft.Draft.new.Goals as goal

pub returns-clause-over : goal.returns-clause-over
returns-clause-over c table = subst (λ vs. IsDraft table (record { variables = vs; places = 0; steps = c.new-2.result })) (sym c.new.ensures.empty)
    (subst (λ xs. IsDraft table (record { variables = []; places = 0; steps = xs })) (sym c.new-2.ensures) (empty_draft table))
