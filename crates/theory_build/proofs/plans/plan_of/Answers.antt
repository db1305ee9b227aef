use Rattle.std.proofs.Common.{◌≡◌, ◌∙◌, ◌∷◌, [], ap, sym, map, List}
use Rattle.theory_form.specs.declared.literals.Lit.{Lit}
use Rattle.theory_form.specs.Literals.{lit_cmp, opposite}
use Rattle.theory_build.specs.Ascending.{ascending}
use Rattle.theory_build.specs.Atoms.{bodies_where, constraint_clauses}
use Rattle.theory_build.proofs.PlanLemmas.{groups_made, bodies_made}
use Rattle.theory_build.proofs.plans.plan_of.Goals as goal

pub rule_bodies-requires : goal.rule_bodies-requires
rule_bodies-requires c =
    let made = groups_made c.args.p.now c.args.g.now c.new-groups.result c.add_groups.new.draft c.in_ok-guards.guards.items c.new-groups.ensures.from c.new-groups.ensures.empty c.in_ok-guards.ensures in
    c.as_slice-guards.ensures.value ∙ made.guards_are

pub body_literals-requires-clause-guards : goal.body_literals-requires-clause-guards
body_literals-requires-clause-guards c =
    let made = groups_made c.args.p.now c.args.g.now c.new-groups.result c.add_groups.new.draft c.in_ok-guards.guards.items c.new-groups.ensures.from c.new-groups.ensures.empty c.in_ok-guards.ensures in
    c.as_slice-guards.ensures.value ∙ made.guards_are

pub body_literals-requires-clause-from : goal.body_literals-requires-clause-from
body_literals-requires-clause-from c =
    let made = groups_made c.args.p.now c.args.g.now c.new-groups.result c.add_groups.new.draft c.in_ok-guards.guards.items c.new-groups.ensures.from c.new-groups.ensures.empty c.in_ok-guards.ensures in
    c.in_ok-from.ensures ∙ made.next

pub returns : goal.returns
unfolding bodies_where constraint_clauses
returns c =
    let made = groups_made c.args.p.now c.args.g.now c.new-groups.result c.add_groups.new.draft c.in_ok-guards.guards.items c.new-groups.ensures.from c.new-groups.ensures.empty c.in_ok-guards.ensures in
    let constraints =
    c.in_ok-constraint_clauses.ensures
    ∙ ap (λ (bodies : List Lit). map (λ (b : Lit). opposite b ∷ []) (ascending lit_cmp bodies)) (c.as_slice-3.ensures.value ∙ c.in_ok-heads.ensures.constraints)
    in
    record {
      atoms = c.in_ok-atom_entries.ensures;
      groups = made.entries;
      bodies =
          bodies_made c.args.p.now c.args.g.now c.new-bodies.result c.add_bodies.new.draft c.in_ok-from.from c.in_ok-lists.lists.items c.new-bodies.ensures.from
          c.new-bodies.ensures.empty (c.in_ok-from.ensures ∙ made.next) c.in_ok-lists.ensures c.in_ok-add_bodies.ensures;
      constraints = constraints;
    }
