-- What is known of the program stands behind the others, and its condition counts if it is the first.
use Rattle.std.proofs.Common.{◌++◌, ◌∷◌, [], ◌∙◌, ap, subst, sym}
use Rattle.std.proofs.lemmas.Result.{on_ok_weaker}
use Rattle.ap_bindings.specs.Texts.{first_failing}
use Rattle.static_checks.specs.Judgements.{IsFaultOf}
use Rattle.static_checks.specs.Programs.{Judged}
use Rattle.static_checks.proofs.JudgeLemmas.{safe_more}
use Rattle.static_checks.proofs.judging.Judgement.add_safe.Goals as goal

pub returns : goal.returns
returns c =
    let old = c.args.self.now in
    let own = c.in_ok-own.own in
    let j : Judged = record { rules = c.args.rules.now; elements = c.args.elements.now; base = c.args.safe.base } in
    let first = c.earlier-self.ensures ∙ ap (λ f. first_failing f own) c.take-found.ensures.value in
    on_ok_weaker c.push.result (λ pushed js h.
    subst (λ safes. IsFaultOf (js ++ j ∷ []) old.fault c.earlier-self.result safes) (sym pushed)
    (subst (λ d. IsFaultOf (js ++ j ∷ []) old.fault d (old.safes ++ c.args.safe ∷ [])) (sym first)
    (safe_more js j old.fault old.domain own old.safes c.args.safe h c.requires c.in_ok-own.ensures))) c.push.ensures.ok
