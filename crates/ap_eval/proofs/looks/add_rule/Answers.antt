use Rattle.std.proofs.Common.{◌≡◌, ◌<◌, ◌&&◌, ℕ, List, length, get_or, refl, ap, sym, ◌∙◌, arith}
use Rattle.std.specs.List.{list_all}
use Rattle.std.specs.Option.{option_copied}
use Rattle.std.proofs.lemmas.Result.{on_ok_weaker}
use Rattle.ground_form.specs.Programs.{numbered}
use Rattle.ap_eval.proofs.LooksLemmas.{look_added, named_by}
use Rattle.ap_eval.specs.Looks.{of_body}
use Rattle.ap_eval.proofs.looks.add_rule.Goals as goal

pub returns-in-Some : goal.returns-in-Some
returns-in-Some c =
    let g = c.args.g.now in
    let old = c.args.looks.now in
    let rule = c.args.rule in
    let atom = c.in-Some.atom in
    let d = c.index-looks-atom.result in
    let before : List ℕ = (get_or old atom.0 d).body in
    let known = c.in-Some.ensures.known c.requires.0 c.requires.1 in
    let high = known.1 in
    let room = c.requires.2 in
    let lt : atom.0 < length old = omega arith in
    on_ok_weaker c.add_body.result
    (λ adds. look_added g old _ rule atom.0 c.add_body.new.looked d lt (λ b. named_by rule.head atom b (sym c.in-Some.ensures.value)) refl
    (λ p. adds p
    ∙ ap (λ b. list_all p before && b)
    (ap (λ groups. of_body groups p (option_copied c.numbered-body.result)) c.groups.ensures.value
    ∙ ap (of_body g.groups p) (c.numbered-body.ensures ∙ ap (λ bodies. numbered bodies rule.body.0) c.bodies.ensures.value))))
    c.add_body.ensures
