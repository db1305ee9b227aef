use Rattle.std.proofs.Common.{◌≡◌, ◌++◌, ◌∷◌, ◌↔◌, [], not, sym, ap, ap₂, subst, ◌∙◌}
use Rattle.std.specs.Prelude.{IfOk, Contains, option_to_list}
use Rattle.std.proofs.lemmas.List.{append-nil}
use Rattle.theory_form.specs.declared.literals.Lit.{Lit}
use Rattle.agg_nogoods.specs.Known.{known_with}
use Rattle.agg_nogoods.specs.Slack.{false_literals, literals_of}
use Rattle.agg_nogoods.proofs.propagation.clause_of.Goals as goal
use Rattle.agg_nogoods.proofs.propagation.clause_of.Goals.{in-Some+in_ok-push-2, in_default}

pub returns-clause-same : goal.returns-clause-same
returns-clause-same c =
    let known = known_with c.args.a.now c.args.row.now.var.0 c.args.holds in
    let own : Lit = record { var = c.args.row.now.var; yes = not c.args.holds } in
    let front : c.push.new.self.items ≡ false_literals c.args.holds known c.args.row.now.terms ++ own ∷ [] =
    c.in_ok-push.ensures.items ∙ ap (λ xs. xs ++ own ∷ []) (c.in_ok-lits.ensures ∙ ap (false_literals c.args.holds known) c.as_slice.ensures) in
    let all : c.match-forced.lits.items ≡ literals_of known c.args.row.now c.args.holds c.args.forced =
    elim c.match-forced.branch [
      | in-Some+in_ok-push-2 w ↦ ap (λ v. v.items) w.lits-is ∙ w.in_ok-push-2.ensures.items ∙ ap₂ (λ xs o. xs ++ option_to_list o) front (sym w.in-Some.is)
      | in_default w ↦ ap (λ v. v.items) w.lits-is ∙ sym (append-nil c.push.new.self.items) ∙ ap₂ (λ xs o. xs ++ option_to_list o) front (sym w.in_default.is)
    ] in
    subst (λ xs. IfOk c.sorted.result (λ d. (l : Lit) → Contains d l ↔ Contains xs l)) all c.sorted.ensures.same
