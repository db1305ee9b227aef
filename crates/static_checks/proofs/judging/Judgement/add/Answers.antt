-- The program's fault counts if it is the first.
use Rattle.std.proofs.Common.{◌++◌, ◌∷◌, [], subst, sym}
use Rattle.static_checks.specs.Judgements.{IsFaultOf}
use Rattle.static_checks.specs.Programs.{Judged}
use Rattle.static_checks.proofs.JudgeLemmas.{fault_more, is_told, on_ok_two}
use Rattle.static_checks.proofs.judging.Judgement.add.Goals as goal

pub returns-in-Err : goal.returns-in-Err
returns-in-Err c =
    let old = c.args.self.now in let new = c.add_fault.new.self in
    let j : Judged = record { rules = c.args.rules.now; elements = c.args.elements.now; base = c.args.base } in
    on_ok_two c.add_fault.result (λ first told js h.
    subst (λ f. IsFaultOf (js ++ j ∷ []) f new.domain new.safes) (sym first)
    (fault_more js j old.fault old.domain new.domain old.safes new.safes c.in-Err.fault h c.in-Err.ensures (is_told c.in-Err.fault told))) c.add_fault.ensures.first c.add_fault.ensures.told
