use Rattle.std.proofs.Common.{◌≡◌, ℕ, Some, get_or, sym, ◌∙◌}
use Rattle.std.proofs.lemmas.List.Elements.{All-contains, Contains-get_or}
use Rattle.std.proofs.lemmas.Option.{same_Some}
use Rattle.theory_form.specs.declared.literals.Var.{Var}
use Rattle.theory_form.specs.Theories.{block_of}
use Rattle.loop_nogoods.proofs.MemberLemmas.{Contains-from_has, has-from_Contains}
use Rattle.loop_nogoods.proofs.validity.is_of_program.Goals as goal

pub returns-then-contains : goal.returns-then-contains
returns-then-contains c =
    let t = c.args.t.now in
    let u = c.args.u.now in
    let block : ℕ = c.in-Some.block in
    let here : block_of t c.args.a.0 ≡ Some block = sym c.block_of.ensures ∙ c.in-Some.is in (
      (λ h. (
        sym c.contains.ensures.value ∙ c.if-contains.true,
        (block, λ v member. All-contains (λ (w : Var). block_of t w.0 ≡ Some block) u (record { 0 = v }) (c.are_atoms_of.ensures.0 h) (Contains-from_has u v member)),
      )),
      λ h. c.are_atoms_of.ensures.1 (λ k d lt.
          let v : Var = get_or u k d in
          let same : h.1.0 ≡ block = same_Some h.1.0 block (sym (h.1.1 c.args.a.0 h.0) ∙ here) in
          h.1.1 v.0 (has-from_Contains u v (Contains-get_or u k d lt)) ∙ (λ i. Some (same i))),
    )
