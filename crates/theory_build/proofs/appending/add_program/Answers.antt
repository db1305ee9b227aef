use Rattle.std.proofs.Common.{ap, sym, length}
use Rattle.theory_build.proofs.TheoryLemmas.{later_front_addable, later_made}
use Rattle.theory_build.proofs.appending.add_program.Goals as goal

pub add_entries-requires : goal.add_entries-requires
add_entries-requires c =
    later_front_addable c.args.t.now c.add_block.new.self c.in_ok-p.p c.args.g.now c.args.joins.now c.in_ok-plan_of.field-0 c.in_ok-entries.entries.items
    c.atoms.ensures.in_range (c.in_ok-p.ensures c.args.g.now (sym (ap length c.atoms.ensures.value))) c.in_ok-plan_of.ensures c.in_ok-entries.ensures.0 c.in_ok-add_block.ensures.ok

pub returns-clause-ok : goal.returns-clause-ok
returns-clause-ok c =
    later_made c.args.t.now c.add_block.new.self c.add_entries.new.t c.add_clauses.new.t c.in_ok-p.p c.args.g.now c.args.joins.now c.in_ok-plan_of.field-0
    c.in_ok-entries.entries.items c.in_ok-entries.constraints.items (c.in_ok-p.ensures c.args.g.now (sym (ap length c.atoms.ensures.value))) c.in_ok-plan_of.ensures c.in_ok-entries.ensures.0 c.in_ok-entries.ensures.1
    c.in_ok-add_block.ensures.ok c.in_ok-add_entries.ensures.ok c.in_ok-add_clauses.ensures.ok
