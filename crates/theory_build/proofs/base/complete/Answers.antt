use Rattle.std.proofs.Common.{◌≡◌, ◌∙◌, ap, sym, subst, length}
use Rattle.theory_form.specs.Theories.{CanAdd}
use Rattle.theory_build.specs.declared.entries.Entry.{Entry}
use Rattle.theory_build.specs.Completion.{with_block}
use Rattle.theory_build.proofs.BaseLemmas.{base_itself}
use Rattle.theory_build.proofs.TheoryLemmas.{base_planned, base_front_addable, search_addable, base_made}
use Rattle.theory_build.proofs.base.complete.Goals as goal

pub add_entries-requires : goal.add_entries-requires
add_entries-requires c =
    let plan =
    base_planned c.in_ok-p.p c.args.g.now c.in_ok-plan_of.field-0 c.in_ok-truth.truth c.in_ok-entries.entries.items c.in_ok-entries.constraints.items
    (c.in_ok-p.ensures c.args.g.now (sym (ap length c.atoms.ensures.value))) c.in_ok-truth.ensures c.in_ok-plan_of.ensures c.in_ok-entries.ensures.0
    c.in_ok-entries.ensures.1
    in
    base_front_addable c.args.g.now c.add_block.new.self c.in_ok-entries.entries.items c.in_ok-entries.constraints.items c.atoms.ensures.in_range (c.in_ok-add_block.ensures.ok ∙ ap with_block c.new-t.ensures) plan

pub add_entry-requires : goal.add_entry-requires
add_entry-requires c =
    let plan =
    base_planned c.in_ok-p.p c.args.g.now c.in_ok-plan_of.field-0 c.in_ok-truth.truth c.in_ok-entries.entries.items c.in_ok-entries.constraints.items
    (c.in_ok-p.ensures c.args.g.now (sym (ap length c.atoms.ensures.value))) c.in_ok-truth.ensures c.in_ok-plan_of.ensures c.in_ok-entries.ensures.0
    c.in_ok-entries.ensures.1
    in
    subst (CanAdd c.add_entries.new.t) (sym (ap (λ (e : Entry). e.kind) c.search.ensures))
    (search_addable c.args.g.now c.add_block.new.self c.add_entries.new.t c.in_ok-entries.entries.items c.in_ok-entries.constraints.items
    c.atoms.ensures.in_range (c.in_ok-add_block.ensures.ok ∙ ap with_block c.new-t.ensures) plan c.in_ok-add_entries.ensures.ok)

pub returns-clause-theory : goal.returns-clause-theory
returns-clause-theory c =
    let plan =
    base_planned c.in_ok-p.p c.args.g.now c.in_ok-plan_of.field-0 c.in_ok-truth.truth c.in_ok-entries.entries.items c.in_ok-entries.constraints.items
    (c.in_ok-p.ensures c.args.g.now (sym (ap length c.atoms.ensures.value))) c.in_ok-truth.ensures c.in_ok-plan_of.ensures c.in_ok-entries.ensures.0
    c.in_ok-entries.ensures.1
    in
    base_made c.args.g.now c.add_block.new.self c.add_entries.new.t c.add_entry.new.t c.add_clauses.new.t c.in_ok-entries.entries.items
    c.in_ok-entries.constraints.items c.search.result (c.in_ok-add_block.ensures.ok ∙ ap with_block c.new-t.ensures) plan c.in_ok-add_entries.ensures.ok c.search.ensures c.in_ok-add_entry.ensures.ok
    c.in_ok-add_clauses.ensures.ok

pub returns-clause-base : goal.returns-clause-base
returns-clause-base c =
    let plan =
    base_planned c.in_ok-p.p c.args.g.now c.in_ok-plan_of.field-0 c.in_ok-truth.truth c.in_ok-entries.entries.items c.in_ok-entries.constraints.items
    (c.in_ok-p.ensures c.args.g.now (sym (ap length c.atoms.ensures.value))) c.in_ok-truth.ensures c.in_ok-plan_of.ensures c.in_ok-entries.ensures.0
    c.in_ok-entries.ensures.1
    in
    base_itself c.add_clauses.new.t c.args.g.now
    (base_made c.args.g.now c.add_block.new.self c.add_entries.new.t c.add_entry.new.t c.add_clauses.new.t c.in_ok-entries.entries.items
    c.in_ok-entries.constraints.items c.search.result (c.in_ok-add_block.ensures.ok ∙ ap with_block c.new-t.ensures) plan c.in_ok-add_entries.ensures.ok c.search.ensures c.in_ok-add_entry.ensures.ok
    c.in_ok-add_clauses.ensures.ok)
