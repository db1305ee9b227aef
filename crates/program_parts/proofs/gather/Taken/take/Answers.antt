-- Each statement goes where it belongs.
use Rattle.std.proofs.Common.{[], ◌∷◌, ◌++◌, refl, sym, subst}
use Rattle.std.proofs.lemmas.Result.{on_ok_weaker}
use Rattle.ap_syntax.specs.declared.programs.Statement.{Statement}
use Rattle.program_parts.specs.Taken.{IsTaken}
use Rattle.program_parts.proofs.TakenLemmas.{on_ok_both, plain_statement, taken_other, taken_part_as, taken_preference_as, taken_rule}
use Rattle.program_parts.proofs.gather.Taken.take.Goals as goal

pub returns-in-Rule : goal.returns-in-Rule
returns-in-Rule c =
    on_ok_both c.take_rule.result (λ rules preferences others ss h. subst (λ (s : Statement). IsTaken (ss ++ s ∷ []) c.take_rule.new.self) (sym c.in-Rule.is)
    (taken_rule ss c.in-Rule.rule c.args.self.now c.take_rule.new.self h (rules ss h.rules) preferences others)) c.take_rule.ensures.rules c.take_rule.ensures.preferences c.take_rule.ensures.others

pub returns-in-Preference : goal.returns-in-Preference
returns-in-Preference c =
    on_ok_weaker c.push.result (λ e ss h. taken_preference_as ss c.in-Preference.preference c.args.statement c.args.self.now _ c.in-Preference.is h (refl, refl, refl, refl) e refl) c.push.ensures.ok

pub returns-in_ok-open-in-Part : goal.returns-in_ok-open-in-Part
returns-in_ok-open-in-Part c =
    on_ok_weaker c.push-in-Part.result (λ e ss h. taken_part_as ss c.in-Part.file c.in-Part.at c.in-Part.part c.args.statement c.args.self.now c.open.new.self _ c.in-Part.is h
    (c.in_ok-open-in-Part.ensures.rules ss c.in-Part.file c.in-Part.at h.rules) c.in_ok-open-in-Part.ensures.preferences c.in_ok-open-in-Part.ensures.others (refl, refl, refl, refl) refl e) c.push-in-Part.ensures.ok

pub returns-in_default : goal.returns-in_default
returns-in_default c =
    on_ok_weaker c.push-in_default.result (λ e ss h. taken_other ss c.args.statement c.args.self.now _ (plain_statement c.args.statement c.in_default.not-Rule c.in_default.not-Preference c.in_default.not-Part) h (refl, refl, refl, refl) refl e) c.push-in_default.ensures.ok
