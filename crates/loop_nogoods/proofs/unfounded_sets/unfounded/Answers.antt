use Rattle.std.proofs.Common.{List, sym, subst}
use Rattle.std.proofs.lemmas.Option.{IfSome_then}
use Rattle.theory_form.specs.declared.literals.Var.{Var}
use Rattle.loop_nogoods.specs.Sets.{AreAscending, has}
use Rattle.loop_nogoods.specs.Unfounded.{IsUnfounded}
use Rattle.loop_nogoods.proofs.ListedLemmas.{IfNone_then, listed_ascending, listed_unfounded, none_unfounded}
use Rattle.loop_nogoods.proofs.unfounded_sets.unfounded.Goals as goal

pub returns-clause-found : goal.returns-clause-found
returns-clause-found c = IfSome_then c.unless_empty.result c.unless_empty.ensures.some (λ vars h.
    subst (λ (vs : List Var). IsUnfounded c.args.t.now c.args.block c.args.a.now (has vs)) (sym h.0)
    (listed_unfounded c.args.t.now c.args.block c.args.a.now c.run.new.self c.in_ok-run.ensures c.atoms.result.now c.atoms.ensures c.in_ok-vars.vars.items c.in_ok-vars.ensures h.1))

pub returns-clause-ascending : goal.returns-clause-ascending
returns-clause-ascending c = IfSome_then c.unless_empty.result c.unless_empty.ensures.some (λ vars h.
    subst AreAscending (sym h.0)
    (listed_ascending c.args.t.now c.args.block c.args.a.now c.run.new.self c.in_ok-run.ensures c.atoms.result.now c.atoms.ensures c.in_ok-vars.vars.items c.in_ok-vars.ensures))

pub returns-clause-none : goal.returns-clause-none
returns-clause-none c = IfNone_then c.unless_empty.result c.unless_empty.ensures.none
    (none_unfounded c.args.t.now c.args.block c.args.a.now c.run.new.self c.in_ok-run.ensures c.atoms.result.now c.atoms.ensures c.in_ok-vars.vars.items c.in_ok-vars.ensures)
