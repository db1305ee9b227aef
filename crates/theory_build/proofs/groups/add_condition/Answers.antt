use Rattle.std.proofs.Common.{◌≡◌, ◌∙◌, ap, subst, map, IfOk, List, ◌++◌}
use Rattle.theory_form.specs.Literals.{lit_cmp}
use Rattle.theory_form.specs.declared.literals.Lit.{Lit}
use Rattle.theory_build.specs.Ascending.{ascending}
use Rattle.theory_build.specs.Drafts.{Adds, next_of}
use Rattle.theory_build.specs.Frames.{atom_lit}
use Rattle.theory_build.specs.Groups.{condition_piece, conjunct_piece}
use Rattle.theory_build.proofs.groups.add_condition.Goals as goal

pub returns : goal.returns
unfolding condition_piece
returns c =
    let e : c.as_slice.result.now ≡ ascending lit_cmp (map (atom_lit c.args.p.now) c.args.condition.now) =
    let all = map (atom_lit c.args.p.now) c.args.condition.now in
    c.as_slice.ensures.value
    ∙ c.in_ok-lits.ensures
    ∙ ap (ascending lit_cmp) (c.in_ok-push_atom_lits.ensures ∙ ap (λ lits. lits ++ all) c.new-lits.ensures.items)
    in
    subst
    (λ (lits : List Lit). IfOk c.add_conjunct.result (Adds c.args.draft.now c.add_conjunct.new.draft (conjunct_piece (next_of c.args.draft.now) lits)))
    e c.add_conjunct.ensures
