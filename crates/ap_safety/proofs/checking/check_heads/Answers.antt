use Rattle.std.proofs.Common.{refl, subst}
use Rattle.std.specs.Prelude.{⊤}
use Rattle.ap_safety.specs.declared.conditions.RuleFault.TheVariants.{Recursion}
use Rattle.ap_bindings.specs.Texts.{IsFirstFailing}
use Rattle.ap_safety.specs.Conditions.{rule_place}
use Rattle.ap_safety.specs.Tests.{HasFault}
use Rattle.ap_safety.proofs.checking.check_heads.Goals as goal

pub returns-in-None-clause-answer : goal.returns-in-None-clause-answer
returns-in-None-clause-answer c =
    let rules = c.args.rules.now in
    let none = subst (IsFirstFailing rule_place (HasFault Recursion c.args.safe.base rules) (λ rule told. ⊤) rules) c.in-None.is c.in-Ok.ensures in
    (c.requires.aggregates, none, c.requires.known, refl)
