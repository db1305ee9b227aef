use Rattle.std.proofs.Common.{List, sym, subst}
use Rattle.theory_form.specs.declared.literals.Var.{Var}
use Rattle.theory_model.specs.Loops.{AreAtomsOf}
use Rattle.loop_nogoods.specs.Sets.{AreAscending, has}
use Rattle.loop_nogoods.specs.Unfounded.{IsUnfounded}
use Rattle.asp_engine.proofs.LateLemmas.{if_some, loop_is_late}
use Rattle.asp_engine.proofs.loops.find_loop_of.Goals as goal

pub loop_of-requires-clause-program : goal.loop_of-requires-clause-program
loop_of-requires-clause-program c =
    let u = if_some _ c.in_ok-found.found c.in-Some.set c.in-Some.is c.in_ok-found.ensures.found in
    (c.args.block, subst (λ (vars : List Var). AreAtomsOf c.args.t.now c.args.block (has vars)) (sym c.as_slice.ensures.value) u.atoms)

pub returns-in_ok-late-in-Some-clause-some : goal.returns-in_ok-late-in-Some-clause-some
returns-in_ok-late-in-Some-clause-some c =
    let t = c.args.t.now in
    let a = c.args.a.now in
    let set = c.as_slice.result.now in
    let u = subst (λ (vars : List Var). IsUnfounded t c.args.block a (has vars)) (sym c.as_slice.ensures.value)
    (if_some _ c.in_ok-found.found c.in-Some.set c.in-Some.is c.in_ok-found.ensures.found) in
    let up = subst AreAscending (sym c.as_slice.ensures.value)
    (if_some _ c.in_ok-found.found c.in-Some.set c.in-Some.is c.in_ok-found.ensures.ascending) in
    loop_is_late t a c.args.block set c.in_ok-late-in-Some.late c.requires.whole u up
    (c.loop_clause_is_false_or_unit.ensures t c.args.block a (has set) u) c.in_ok-late-in-Some.ensures.late
